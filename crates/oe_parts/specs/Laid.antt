-- What is left where the records of all parts of a run were laid into a store, each at its number.
use Rattle.std.specs.Prelude.{◌≡◌, ◌≢◌, ⊤, ℕ, ◌+◌, ◌-◌, ◌*◌, ◌<◌, List, length, slice_get, Option, Some, None, IfSome, Result}
use Rattle.std.specs.List.{All}
use Rattle.std.specs.Option.{option_map}
use Rattle.oe_cell.specs.Cells.{IsCell}
use Rattle.oe_cell.specs.Record.{records_of}
use Rattle.oe_cell.specs.declared.cell.Cell.{Cell}
use Rattle.oe_cell.specs.declared.cell.Cell.TheVariants.{Empty, Over}
use Rattle.oe_dims.specs.Cube.{Cube, IsCube}
use Rattle.oe_dims.specs.Dimensions.{Dimensions, cell_count}
use Rattle.oe_dims.specs.Positions.{Position, number_of}
use Rattle.oe_outside.specs.Faults.{HasCauseOf, Rose}
use Rattle.oe_outside.specs.Stored.{StoreHolds}
use Rattle.oe_render.specs.Stored.{HasCells}
use Rattle.oe_spool.specs.Least.{IsLeastOver, least_over_of}
use Rattle.oe_spool.specs.Spooled.{HoldsCube, HoldsRecord, HoldsRecords}
use Rattle.oe_window.specs.Cells.{cell_at, cells_on}
use Rattle.oe_window.specs.Chunks.{chunk_window}
use Rattle.oe_window.specs.Windows.{IsIn, position_count}
use Rattle.oe_window.specs.declared.window.Window.{Window}
use Rattle.oe_parts.specs.Head.{PartHead, front_bytes, grid_of}
use Rattle.oe_parts.specs.PartFile.{IsDamagedAt, cells_on_all, chunks_of, part_cells}
use Rattle.oe_parts.specs.Parts.{PartState, ShowPartsOf}
use Rattle.oe_parts.specs.Rows.{HasNoRecordAt, HaveRecordsAt, Shows}
use Rattle.oe_parts.specs.declared.laying.LayFail.{LayFail}
use Rattle.oe_parts.specs.declared.laying.LayFail.TheVariants.{PartDamaged, PartFailed, SpoolFailed}
use Rattle.oe_parts.specs.declared.laying.PieceFail.{PieceFail}
use Rattle.oe_parts.specs.declared.laying.PieceFail.TheVariants as piece

-- ---- some positions

-- a position of one of the first so many sets
abbrev pub IsInFirst : (ℕ → Position → Type 0) → ℕ → Position → Type 0
IsInFirst sets n p = (k : ℕ) × (k < n) × sets k p

-- the records of a cube's cells at these positions stand in the store, all of which are valid, and the number is the
-- least of one that is Over
pub record AreLaid (store : Option (List ℕ)) (base : ℕ) (cube : Cube Cell) (positions : Position → Type 0) (least : Option ℕ) : Type 0 where
  pub valid : (p : Position) → positions p → IsCell (cell_at Empty cube p)
  pub held : HoldsRecords store base cube positions
  pub least_is : IsLeastOver cube positions least

-- a record of some cell stands at each of these positions, of none that is Over where no least number was found
abbrev pub HaveRecords : Option (List ℕ) → ℕ → Dimensions → (Position → Type 0) → Option ℕ → Type 0
HaveRecords store base shape positions least =
    (p : Position) → positions p → (cell : Cell) × IsCell cell × HoldsRecord store base (number_of shape p) cell × (least ≡ None → cell ≢ Over)

-- the positions of a part's chunks
abbrev pub IsInPart : PartHead → Position → Type 0
IsInPart head = IsInFirst (λ k p. IsIn (chunk_window (grid_of head) (head.first + k)) p) (head.end - head.first)

-- ---- a piece of a result

-- The records of a piece of a result of this shape stand from an offset on in one store, none of them damaged, and were
-- laid into another: those of a cube's cells where the first store shows them, and those of some cells whatever it is.
-- The piece is given by its positions, the cells that a cube has there in the order of their records, and their number.
pub record LaysPiece (shape : Dimensions) (positions : Position → Type 0) (cells_of : Cube Cell → List Cell) (count : ℕ)
    (part : Option (List ℕ)) (at : ℕ) (store : Option (List ℕ)) (base : ℕ) (least : Option ℕ) : Type 0 where
  pub cube : (cube : Cube Cell) → cube.shape ≡ shape → All IsCell (cells_of cube) → Shows part at (cells_of cube)
      → AreLaid store base cube positions least
  pub some : HaveRecords store base shape positions least
  pub sound : HaveRecordsAt part at count

-- the piece is a window of the result
abbrev pub LaysWindow : Dimensions → Window → Option (List ℕ) → ℕ → Option (List ℕ) → ℕ → Option ℕ → Type 0
LaysWindow shape window = LaysPiece shape (IsIn window) (λ cube. cells_on Empty cube window) (position_count window)

-- it is the chunks of a part
abbrev pub LaysChunks : PartHead → Option (List ℕ) → ℕ → Option (List ℕ) → ℕ → Option ℕ → Type 0
LaysChunks head =
    LaysPiece head.shape (IsInPart head) (λ cube. cells_on_all cube (chunks_of head)) (part_cells head)

-- Records were read from a part, which keeps its bytes, and written into a spool. A refusal names the one of them that
-- failed only where its fault counter rose.
pub record ReadsAndWrites {S P T : Type 0} (bytes : S → Option (List ℕ)) (faults : S → ℕ) (before after : S)
    (spool_faults : P → ℕ) (spool spool_after : P) (result : Result T PieceFail) : Type 0 where
  pub same : bytes after ≡ bytes before
  pub part_cause : HasCauseOf piece.Failed (faults before) (faults after) result
  pub spool_cause : HasCauseOf piece.SpoolFailed (spool_faults spool) (spool_faults spool_after) result

-- why the records of the cells with these numbers, which stand from an offset on in a store, were not laid out: one
-- that is named is that of no cell
abbrev pub TellsPiece : Option (List ℕ) → ℕ → List ℕ → PieceFail → Type 0
TellsPiece store at numbers piece.Failed = ⊤
TellsPiece store at numbers (piece.Damaged number) =
    (index : ℕ) × (slice_get numbers index ≡ Some number) × HasNoRecordAt store (at + 17 * index)
TellsPiece store at numbers piece.SpoolFailed = ⊤

-- the same of so many numbers from a first one on
abbrev pub TellsRow : Option (List ℕ) → ℕ → ℕ → ℕ → PieceFail → Type 0
TellsRow store at first count piece.Failed = ⊤
TellsRow store at first count (piece.Damaged number) =
    (index : ℕ) × (index < count) × (number ≡ first + index) × HasNoRecordAt store (at + 17 * index)
TellsRow store at first count piece.SpoolFailed = ⊤

-- so many valid cells have their records in one store from an offset on, and in another from that of a number on; the
-- number of the first of them that is Over is this
pub record LaysRow (part : Option (List ℕ)) (at : ℕ) (store : Option (List ℕ)) (base first count : ℕ) (least : Option ℕ) : Type 0 where
  pub cells : List Cell
  pub many : length cells ≡ count
  pub valid : All IsCell cells
  pub read : StoreHolds part at (records_of cells)
  pub laid : StoreHolds store (base + 17 * first) (records_of cells)
  pub least_is : least ≡ option_map (λ index. first + index) (least_over_of cells)

-- why the records of a part were not laid out: a read of it failed, a record of it is damaged, or a write failed
abbrev pub PartStops : PartState → PartState → ℕ → ℕ → PieceFail → Type 0
PartStops part after faults faults_after piece.Failed = Rose part.faults after.faults
PartStops part after faults faults_after (piece.Damaged number) = IfSome part.bytes (λ bytes. IsDamagedAt bytes part.head number)
PartStops part after faults faults_after piece.SpoolFailed = Rose faults faults_after

-- what stops all where the part at an index stops
abbrev pub fail_at : ℕ → PieceFail → LayFail
fail_at index piece.Failed = PartFailed index
fail_at index (piece.Damaged number) = PartDamaged index number
fail_at index piece.SpoolFailed = SpoolFailed

-- where its bytes are visible, the part has the record of a cell for each of its cells
abbrev pub IsUndamaged : PartState → Type 0
IsUndamaged part = HaveRecordsAt part.bytes (length (front_bytes part.head)) (part_cells part.head)

-- the same of all parts
abbrev pub AreUndamaged : List PartState → Type 0
AreUndamaged parts = (index : ℕ) (part : PartState) → slice_get parts index ≡ Some part → IsUndamaged part

-- ---- all parts

-- the cells of a cube are valid, their records stand in the store, and the number is the least of one that is Over
pub record LaysCube (base : ℕ) (store : Option (List ℕ)) (least : Option ℕ) (cube : Cube Cell) : Type 0 where
  pub valid : All IsCell cube.cells
  pub held : HoldsCube store base cube
  pub least_is : least ≡ least_over_of cube.cells

-- No part is damaged, and where the parts show a cube, it is laid out. Where no cell that is Over was found, a record of
-- some cell that is not Over stands at each number, also of hidden parts.
pub record Lays (base : ℕ) (shape : Dimensions) (parts : List PartState) (store : Option (List ℕ)) (least : Option ℕ) : Type 0 where
  pub cube : (cube : Cube Cell) → IsCube cube → cube.shape ≡ shape → ShowPartsOf cube parts → LaysCube base store least cube
  pub cells : least ≡ None → HasCells store base (cell_count shape)
  pub undamaged : AreUndamaged parts

-- why it stopped: a read of the part at an index failed, a record of it is damaged, or a write failed
abbrev pub LayStops : List PartState → List PartState → ℕ → ℕ → LayFail → Type 0
LayStops parts after faults faults_after (PartFailed index) =
    (old : PartState) × (new : PartState) × (slice_get parts index ≡ Some old) × (slice_get after index ≡ Some new)
    × Rose old.faults new.faults
LayStops parts after faults faults_after (PartDamaged index number) =
    (part : PartState) × (slice_get parts index ≡ Some part)
    × IfSome part.bytes (λ bytes. IsDamagedAt bytes part.head number)
LayStops parts after faults faults_after SpoolFailed = Rose faults faults_after
