-- The records of a cube's cells in a store, each at its row-major number from an offset on. A set of positions is given
-- by what makes a position one of it, as `IsIn window`.
use Rattle.std.specs.Prelude.{◌≡◌, ◌⊎◌, ℕ, ◌+◌, ◌*◌, ◌<◌, ◌≤◌, List, [], ◌∷◌, length, slice_get, Option, Some, None}
use Rattle.oe_cell.specs.Record.{record_of, records_of}
use Rattle.oe_cell.specs.declared.cell.Cell.{Cell}
use Rattle.oe_cell.specs.declared.cell.Cell.TheVariants.{Empty}
use Rattle.oe_dims.specs.Cube.{Cube}
use Rattle.oe_dims.specs.Dimensions.{Dimensions, cell_count}
use Rattle.oe_dims.specs.Positions.{Position, number_of}
use Rattle.oe_outside.specs.Stored.{StoreHolds}
use Rattle.oe_window.specs.Cells.{cell_at}
use Rattle.oe_window.specs.Windows.{IsIn}
use Rattle.oe_window.specs.declared.window.Window.{Window}

-- a position lies in one of these windows at least
abbrev pub IsInSome : List Window → Position → Type 0
IsInSome [] p = ⊥
IsInSome (window ∷ windows) p = IsIn window p ⊎ IsInSome windows p

-- no position is in both sets
abbrev pub AreDisjoint : (Position → Type 0) → (Position → Type 0) → Type 0
AreDisjoint a b = (p : Position) → a p → ¬ b p

-- where the record of a number begins: each record has 17 bytes
abbrev pub record_offset : ℕ → ℕ → ℕ
record_offset base number = base + 17 * number

-- the record of a cell stands at its number, where the bytes of the store are visible
abbrev pub HoldsRecord : Option (List ℕ) → ℕ → ℕ → Cell → Type 0
HoldsRecord store base number cell = StoreHolds store (record_offset base number) (record_of cell)

-- the record of the cube's cell at each position of the set stands at the position's number
abbrev pub HoldsRecords : Option (List ℕ) → ℕ → Cube Cell → (Position → Type 0) → Type 0
HoldsRecords store base cube positions =
    (p : Position) → positions p → HoldsRecord store base (number_of cube.shape p) (cell_at Empty cube p)

-- the same of the positions of a window
abbrev pub HoldsWindow : Option (List ℕ) → ℕ → Cube Cell → Window → Type 0
HoldsWindow store base cube window = HoldsRecords store base cube (IsIn window)

-- the records of all cells of a cube stand from an offset on, as many as its shape has positions
pub record HoldsCube (store : Option (List ℕ)) (base : ℕ) (cube : Cube Cell) : Type 0 where
  pub counted : length cube.cells ≡ cell_count cube.shape
  pub held : StoreHolds store base (records_of cube.cells)

-- the byte at an offset is one of the record of a position of the set
pub record IsRecordByte (base : ℕ) (shape : Dimensions) (positions : Position → Type 0) (offset : ℕ) : Type 0 where
  pub p : Position
  pub inside : positions p
  pub begun : record_offset base (number_of shape p) ≤ offset
  pub before : offset < record_offset base (number_of shape p) + 17

-- each byte that stood at an offset that is not touched is as it was, and there are no fewer bytes
pub record KeepsBut (touched : ℕ → Type 0) (old new : List ℕ) : Type 0 where
  pub no_shorter : length old ≤ length new
  pub kept : (offset byte : ℕ) → ¬ touched offset → slice_get old offset ≡ Some byte
      → slice_get new offset ≡ Some byte

-- the same of a store, where its bytes are visible; hidden bytes stay hidden
abbrev pub KeepsBytesBut : (ℕ → Type 0) → Option (List ℕ) → Option (List ℕ) → Type 0
KeepsBytesBut touched None new = new ≡ None
KeepsBytesBut touched (Some old) None = ⊥
KeepsBytesBut touched (Some old) (Some new) = KeepsBut touched old new

-- no byte is changed but of the records of the set's positions
abbrev pub ChangesOnly : ℕ → Dimensions → (Position → Type 0) → Option (List ℕ) → Option (List ℕ) → Type 0
ChangesOnly base shape positions old new = KeepsBytesBut (IsRecordByte base shape positions) old new
