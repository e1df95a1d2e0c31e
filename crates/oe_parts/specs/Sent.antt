-- What is sent of a part whose records are read back from any store.
use Rattle.std.specs.Prelude.{◌≡◌, ℕ, List, ◌++◌, length, Option, Result}
use Rattle.std.specs.List.{All}
use Rattle.oe_cell.specs.Cells.{IsCell}
use Rattle.oe_cell.specs.Record.{records_of}
use Rattle.oe_cell.specs.declared.cell.Cell.{Cell}
use Rattle.oe_dims.specs.Cube.{Cube}
use Rattle.oe_outside.specs.Faults.{HasCauseOf}
use Rattle.oe_outside.specs.Stream.{Sends}
use Rattle.oe_outside.specs.Visible.{Appends, AppendsPrefix}
use Rattle.oe_render.specs.declared.rendering.RenderFail.{RenderFail}
use Rattle.oe_render.specs.declared.rendering.RenderFail.TheVariants.{SinkFailed, SpoolFailed}
use Rattle.oe_parts.specs.Head.{PartHead, front_bytes}
use Rattle.oe_parts.specs.PartFile.{part_bytes, part_cells}
use Rattle.oe_parts.specs.Spooled.{ShowsPart}

-- the records of so many valid cells were sent to an output behind the bytes that were held, and others are held now
pub record SendsRecords (before : Option (List ℕ)) (size : Option ℕ) (held : List ℕ) (count : ℕ) (after : Option (List ℕ))
    (size_after : Option ℕ) (left : List ℕ) : Type 0 where
  pub cells : List Cell
  pub many : length cells ≡ count
  pub valid : All IsCell cells
  pub sends : Sends before size held (records_of cells) after size_after left

-- the front of a part, and the records of as many valid cells as it has, follow what was written
pub record AppendsRecords (before : Option (List ℕ)) (head : PartHead) (after : Option (List ℕ)) : Type 0 where
  pub cells : List Cell
  pub many : length cells ≡ part_cells head
  pub valid : All IsCell cells
  pub appends : Appends before (front_bytes head ++ records_of cells) after

-- the part file of each cube whose records the spool shows follows what was written
abbrev pub AppendsPart : Option (List ℕ) → ℕ → PartHead → Option (List ℕ) → Option (List ℕ) → Type 0
AppendsPart store base head before after =
    (cube : Cube Cell) → ShowsPart store base head cube → Appends before (part_bytes head cube) after

-- a prefix of it does
abbrev pub AppendsPartPrefix : Option (List ℕ) → ℕ → PartHead → Option (List ℕ) → Option (List ℕ) → Type 0
AppendsPartPrefix store base head before after =
    (cube : Cube Cell) → ShowsPart store base head cube → AppendsPrefix before (part_bytes head cube) after

-- Records were read from a spool, which keeps its bytes, and sent to an output. A refusal names the one of them that
-- failed only where its fault counter rose.
pub record ReadsAndSends {P O T : Type 0} (bytes : P → Option (List ℕ)) (faults : P → ℕ) (before after : P)
    (sink_faults : O → ℕ) (out out_after : O) (result : Result T RenderFail) : Type 0 where
  pub same : bytes after ≡ bytes before
  pub spool_cause : HasCauseOf SpoolFailed (faults before) (faults after) result
  pub sink_cause : HasCauseOf SinkFailed (sink_faults out) (sink_faults out_after) result
