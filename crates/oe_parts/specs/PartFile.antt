-- Part files, as a relation between bytes, what they are a part of, and the cells that they have.
use Rattle.std.specs.Prelude.{◌≡◌, ℕ, ◌+◌, ◌-◌, ◌*◌, List, ◌++◌, length, map, slice_get, sum_by, take, drop, Some}
use Rattle.std.specs.List.{All, flat_map, range_with_len}
use Rattle.oe_cell.specs.Cells.{IsCell}
use Rattle.oe_cell.specs.Record.{IsRecord, records_of}
use Rattle.oe_cell.specs.declared.cell.Cell.{Cell}
use Rattle.oe_cell.specs.declared.cell.Cell.TheVariants.{Empty}
use Rattle.oe_dims.specs.Cube.{Cube}
use Rattle.oe_window.specs.Cells.{cells_on}
use Rattle.oe_window.specs.Chunks.{chunk_window}
use Rattle.oe_window.specs.Runs.{window_numbers}
use Rattle.oe_window.specs.Windows.{position_count}
use Rattle.oe_window.specs.declared.window.Window.{Window}
use Rattle.oe_parts.specs.Head.{IsPartHead, PartHead, front_bytes, grid_of}

-- the chunks of a part, in the order of their numbers
abbrev pub chunks_of : PartHead → List Window
chunks_of head = map (chunk_window (grid_of head)) (range_with_len head.first (head.end - head.first))

-- how many cells it has
abbrev pub part_cells : PartHead → ℕ
part_cells head = sum_by position_count (chunks_of head)

-- The bytes are a part file with this head: its front, as many bytes as the records of its chunks need, and the end.
-- Nothing is said of the records.
pub record IsPartFile (bytes : List ℕ) (head : PartHead) : Type 0 where
  pub valid : IsPartHead head
  pub front : take (length (front_bytes head)) bytes ≡ front_bytes head
  pub whole : length bytes ≡ length (front_bytes head) + 17 * part_cells head

-- ---- the part of a cube

-- the cells of a cube on some windows, one window behind the other, each in row-major order
abbrev pub cells_on_all : Cube Cell → List Window → List Cell
cells_on_all cube windows = flat_map (cells_on Empty cube) windows

-- all bytes of the part of a cube that a head tells
abbrev pub part_bytes : PartHead → Cube Cell → List ℕ
part_bytes head cube = front_bytes head ++ records_of (cells_on_all cube (chunks_of head))

-- the bytes are the part of this cube that the head tells, all cells of which are valid there
pub record IsPartOf (bytes : List ℕ) (head : PartHead) (cube : Cube Cell) : Type 0 where
  pub valid : IsPartHead head
  pub shape : cube.shape ≡ head.shape
  pub cells : All IsCell (cells_on_all cube (chunks_of head))
  pub bytes_are : bytes ≡ part_bytes head cube

-- ---- damage

-- the row-major numbers of the cells of a part in the whole result, in the order of their records
abbrev pub part_numbers : PartHead → List ℕ
part_numbers head = flat_map (window_numbers head.shape) (chunks_of head)

-- what stands for the cell with an index among those of the part
abbrev pub stored_record : List ℕ → PartHead → ℕ → List ℕ
stored_record bytes head index = take 17 (drop (length (front_bytes head) + 17 * index) bytes)

-- it is no record of a cell, and the cell has this number in the whole result
abbrev pub IsDamagedAt : List ℕ → PartHead → ℕ → Type 0
IsDamagedAt bytes head number =
    (index : ℕ) × (slice_get (part_numbers head) index ≡ Some number) × ¬ IsRecord (stored_record bytes head index)
