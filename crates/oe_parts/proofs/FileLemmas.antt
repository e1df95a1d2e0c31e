-- The part of a cube is a part file.
use Rattle.std.proofs.Common.{◌≡◌, ℕ, List, [], ◌∷◌, length, take, refl, ap, ◌∙◌, arith}
use Rattle.std.specs.List.{sum_by}
use Rattle.std.proofs.lemmas.List.{length-append}
use Rattle.std.proofs.lemmas.List.Sums.{sum_by-cons}
use Rattle.oe_cell.specs.Record.{records_of}
use Rattle.oe_cell.specs.declared.cell.Cell.{Cell}
use Rattle.oe_cell.specs.declared.cell.Cell.TheVariants.{Empty}
use Rattle.oe_cell.proofs.ListLemmas.{length-records_of}
use Rattle.oe_dims.specs.Cube.{Cube}
use Rattle.oe_dims.proofs.ListsLemmas.{take_front}
use Rattle.oe_window.specs.Cells.{cells_on}
use Rattle.oe_window.specs.Windows.{position_count}
use Rattle.oe_window.specs.declared.window.Window.{Window}
use Rattle.oe_window.proofs.CellLemmas.{length-cells_on}
use Rattle.oe_parts.specs.Head.{PartHead, front_bytes}
use Rattle.oe_parts.specs.PartFile.{IsPartFile, IsPartOf, cells_on_all, chunks_of}

pub length-cells_on_all : (cube : Cube Cell) (ws : List Window) → length (cells_on_all cube ws) ≡ sum_by position_count ws
length-cells_on_all cube [] = refl
length-cells_on_all cube (w ∷ ws) = length-append (cells_on Empty cube w) (cells_on_all cube ws) ∙ omega (arith, length-cells_on Empty cube w, length-cells_on_all cube ws, sum_by-cons position_count w ws)

pub part_is_file : (bytes : List ℕ) (head : PartHead) (cube : Cube Cell) → IsPartOf bytes head cube → IsPartFile bytes head
part_is_file bytes head cube part =
    let records = records_of (cells_on_all cube (chunks_of head)) in
    record {
      valid = part.valid;
      front = ap (take (length (front_bytes head))) part.bytes_are ∙ take_front (front_bytes head) records (length (front_bytes head)) refl;
      whole = omega (arith, ap length part.bytes_are, length-append (front_bytes head) records, length-records_of (cells_on_all cube (chunks_of head)), length-cells_on_all cube (chunks_of head));
    }
