-- The records of a row's cells, which stand one behind the other.
use Rattle.std.specs.Prelude.{◌≡◌, ⊤, ℕ, ◌+◌, ◌*◌, ◌^◌, ◌<◌, ◌≤◌, List, length, take, drop, Option, Some, IfSome}
use Rattle.std.specs.List.{All, range_with_len}
use Rattle.oe_cell.specs.Cells.{IsCell}
use Rattle.oe_cell.specs.Record.{IsRecord, records_of}
use Rattle.oe_cell.specs.declared.cell.Cell.{Cell}
use Rattle.oe_dims.specs.Dimensions.{Dimensions}
use Rattle.oe_outside.specs.Stored.{HoldsAt}
use Rattle.oe_spool.specs.Least.{least_over_of}
use Rattle.oe_window.specs.Runs.{window_numbers}
use Rattle.oe_window.specs.Windows.{Holds, position_count, span_length, whole_window}
use Rattle.oe_window.specs.declared.window.Window.{Window}
use Rattle.oe_parts.specs.declared.read.ReadFail.{ReadFail}
use Rattle.oe_parts.specs.declared.read.ReadFail.TheVariants.{Damaged, Failed}

-- ---- what reads and writes of rows ask for

-- each record of a result has its place from byte `base` on, and a buffer has room for those of a row of 4096 cells
pub record HasRoomForRows (base : ℕ) (buffer : List ℕ) : Type 0 where
  pub base_low : base ≤ 2 ^ 62
  pub buffer_long : length buffer ≡ 69632

-- so many cells of a result from a number on have their places there, and a buffer has exactly the length of their
-- records
pub record HasRoomForRow (base first count : ℕ) (buffer : List ℕ) : Type 0 where
  pub base_low : base ≤ 2 ^ 62
  pub few : first + count ≤ 2 ^ 40
  pub buffer_long : length buffer ≡ 17 * count

-- a window of a cube of this shape is no longer along x than a chunk may be
pub record IsShortWindow (shape : Dimensions) (window : Window) : Type 0 where
  pub within : Holds (whole_window shape) window
  pub short : span_length window.x ≤ 4096

-- ---- the records of a row

-- the row-major numbers of a window's positions are this one and those that follow it
abbrev pub HasNumbersFrom : Dimensions → Window → ℕ → Type 0
HasNumbersFrom d window first = window_numbers d window ≡ range_with_len first (position_count window)

-- the bytes of a store are visible, and the records of these cells stand at an offset
abbrev pub Shows : Option (List ℕ) → ℕ → List Cell → Type 0
Shows store at cells = (all : List ℕ) × (store ≡ Some all) × HoldsAt all at (records_of cells)

-- something holds of any so many valid cells whose records a store shows at an offset
abbrev pub ForEachShown : Option (List ℕ) → ℕ → ℕ → (List Cell → Type 0) → Type 0
ForEachShown store at count P = (shown : List Cell) → All IsCell shown → length shown ≡ count → Shows store at shown → P shown

-- the visible bytes of a store have no record of a cell at an offset
abbrev pub HasNoRecordAt : Option (List ℕ) → ℕ → Type 0
HasNoRecordAt store at = IfSome store (λ all. ¬ IsRecord (take 17 (drop at all)))

-- the visible bytes of a store have the record of a cell at an offset
abbrev pub HasRecordAt : Option (List ℕ) → ℕ → Type 0
HasRecordAt store at = IfSome store (λ all. IsRecord (take 17 (drop at all)))

-- and so many of them, one behind the other from an offset on
abbrev pub HaveRecordsAt : Option (List ℕ) → ℕ → ℕ → Type 0
HaveRecordsAt store at count = (index : ℕ) → index < count → HasRecordAt store (at + 17 * index)

-- the bytes are the records of so many valid cells, of which the first that is Over has this index
pub record AreRecords (count : ℕ) (bytes : List ℕ) (over : Option ℕ) : Type 0 where
  pub cells : List Cell
  pub many : length cells ≡ count
  pub valid : All IsCell cells
  pub bytes_are : bytes ≡ records_of cells
  pub over_is : over ≡ least_over_of cells

-- what a refusal to read the records of so many cells from an offset on says of them
abbrev pub TellsDamage : Option (List ℕ) → ℕ → ℕ → ReadFail → Type 0
TellsDamage store at count Failed = ⊤
TellsDamage store at count (Damaged index) = (index < count) × HasNoRecordAt store (at + 17 * index)
