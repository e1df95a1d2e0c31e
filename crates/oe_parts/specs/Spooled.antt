-- The records of a part in a store, each at its row-major number in the whole result.
use Rattle.std.specs.Prelude.{◌≡◌, ⊤, ℕ, ◌<◌, ◌≤◌, List, Option, Some}
use Rattle.oe_cell.specs.Cells.{IsCell}
use Rattle.oe_cell.specs.declared.cell.Cell.{Cell}
use Rattle.oe_cell.specs.declared.cell.Cell.TheVariants.{Empty}
use Rattle.oe_dims.specs.Cube.{Cube}
use Rattle.oe_dims.specs.Dimensions.{Dimensions}
use Rattle.oe_dims.specs.Positions.{Position, number_of}
use Rattle.oe_render.specs.declared.rendering.RenderFail.{RenderFail}
use Rattle.oe_render.specs.declared.rendering.RenderFail.TheVariants.{SinkFailed, SpoolDamaged, SpoolFailed}
use Rattle.oe_spool.specs.Spooled.{HoldsRecords, IsInSome, record_offset}
use Rattle.oe_window.specs.Cells.{cell_at}
use Rattle.oe_parts.specs.Head.{PartHead}
use Rattle.oe_parts.specs.PartFile.{chunks_of}
use Rattle.oe_parts.specs.Rows.{HasNoRecordAt}

-- The bytes of a store are visible, and the records of the cube's cells at these positions stand there, each at its
-- number from an offset on. All of these cells are valid.
pub record ShowsRecords (store : Option (List ℕ)) (base : ℕ) (cube : Cube Cell) (positions : Position → Type 0) : Type 0 where
  pub all : List ℕ
  pub visible : store ≡ Some all
  pub held : HoldsRecords store base cube positions
  pub cells : (p : Position) → positions p → IsCell (cell_at Empty cube p)

-- something holds of each cube of this shape whose records at these positions a store shows
abbrev pub ForEachCubeShown : Option (List ℕ) → ℕ → Dimensions → (Position → Type 0) → (Cube Cell → Type 0) → Type 0
ForEachCubeShown store base shape positions P =
    (cube : Cube Cell) → cube.shape ≡ shape → ShowsRecords store base cube positions → P cube

-- the bytes of a store are visible, and the records of the cells of a part's chunks of a cube stand there
pub record ShowsPart (store : Option (List ℕ)) (base : ℕ) (head : PartHead) (cube : Cube Cell) : Type 0 where
  pub shape : cube.shape ≡ head.shape
  pub records : ShowsRecords store base cube (IsInSome (chunks_of head))

-- what a refusal says of the records for the numbers from one on and before an end: one that is named is that of no
-- cell
abbrev pub TellsNoRecordFrom : Option (List ℕ) → ℕ → ℕ → ℕ → RenderFail → Type 0
TellsNoRecordFrom store base from end SpoolFailed = ⊤
TellsNoRecordFrom store base from end SinkFailed = ⊤
TellsNoRecordFrom store base from end (SpoolDamaged number) =
    (from ≤ number) × (number < end) × HasNoRecordAt store (record_offset base number)

-- the same of the records for these positions
abbrev pub TellsNoRecord : Option (List ℕ) → ℕ → Dimensions → (Position → Type 0) → RenderFail → Type 0
TellsNoRecord store base shape positions SpoolFailed = ⊤
TellsNoRecord store base shape positions SinkFailed = ⊤
TellsNoRecord store base shape positions (SpoolDamaged number) =
    (p : Position) × positions p × (number_of shape p ≡ number) × HasNoRecordAt store (record_offset base number)

-- of those for the chunks of a part
abbrev pub TellsNoRecordOf : Option (List ℕ) → ℕ → PartHead → RenderFail → Type 0
TellsNoRecordOf store base head = TellsNoRecord store base head.shape (IsInSome (chunks_of head))
