-- What the laws of records that are written window by window speak of.
use Rattle.std.specs.Prelude.{ℕ, ◌<◌, List, Option}
use Rattle.oe_cell.specs.declared.cell.Cell.{Cell}
use Rattle.oe_dims.specs.Cube.{Cube}
use Rattle.oe_dims.specs.Dimensions.{Dimensions}
use Rattle.oe_dims.specs.Positions.{Position, IsPosition}
use Rattle.oe_spool.specs.Least.{IsLeastOver}
use Rattle.oe_spool.specs.Spooled.{AreDisjoint, ChangesOnly, HoldsRecords, HoldsWindow}
use Rattle.oe_window.specs.Chunks.{chunk_count, chunk_window, tiling_of}
use Rattle.oe_window.specs.Windows.{IsIn}
use Rattle.oe_window.specs.declared.grid.ChunkSize.{ChunkSize}

-- each position of the set is one of the shape
abbrev pub AreOfShape : Dimensions → (Position → Type 0) → Type 0
AreOfShape shape positions = (p : Position) → positions p → IsPosition shape p

-- each position of the shape is in the set
abbrev pub AreAllOfShape : Dimensions → (Position → Type 0) → Type 0
AreAllOfShape shape positions = (p : Position) → IsPosition shape p → positions p

-- the records of the first positions stay while only those of the second, which are others of the shape, are changed
abbrev pub KeepsRecords : Option (List ℕ) → Option (List ℕ) → ℕ → Cube Cell → (Position → Type 0) → (Position → Type 0)
    → Type 0
KeepsRecords old new base cube first second =
    AreOfShape cube.shape first → AreOfShape cube.shape second → AreDisjoint first second
    → ChangesOnly base cube.shape second old new → HoldsRecords old base cube first → HoldsRecords new base cube first

-- the records of the cells of each chunk stand in a store
abbrev pub HoldsChunks : Option (List ℕ) → ℕ → Cube Cell → ChunkSize → Type 0
HoldsChunks store base cube size =
    (k : ℕ) → k < chunk_count (tiling_of cube.shape size)
    → HoldsWindow store base cube (chunk_window (tiling_of cube.shape size) k)

-- of each chunk the least number at which a cell is Over
abbrev pub AreLeastOfChunks : Cube Cell → ChunkSize → (ℕ → Option ℕ) → Type 0
AreLeastOfChunks cube size found =
    (k : ℕ) → k < chunk_count (tiling_of cube.shape size)
    → IsLeastOver cube (IsIn (chunk_window (tiling_of cube.shape size) k)) (found k)
