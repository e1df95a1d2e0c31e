-- What rendering leaves: the text of the cells that stand in a store, or a prefix of it.
use Rattle.std.specs.Prelude.{◌≡◌, ⊤, ℕ, ◌<◌, ◌≤◌, List, length, map, Option, None, Result, Ok, Err, OnOk, OnErr}
use Rattle.oe_cell.specs.Spelling.{cell_text}
use Rattle.oe_cell.specs.declared.cell.Cell.{Cell}
use Rattle.oe_dims.specs.Dimensions.{Dimensions, cell_count}
use Rattle.oe_outside.specs.Faults.{HasCauseOf}
use Rattle.oe_outside.specs.Stream.{Sends, Stops}
use Rattle.oe_outside.specs.Visible.{Appends, AppendsPrefix, AddsBytes, AddsSome}
use Rattle.oe_outside.specs.declared.failed.Failed.{Failed}
use Rattle.oe_render.specs.Stored.{AreStored}
use Rattle.oe_render.specs.Text.{cube_text, more_text}
use Rattle.oe_render.specs.declared.rendering.RenderFail.{RenderFail}
use Rattle.oe_render.specs.declared.rendering.RenderFail.TheVariants.{SpoolFailed, SpoolDamaged, SinkFailed}

-- cells that are stored at an offset, as many as the shape has, and their text follows what was written
abbrev pub AppendsCube : Option (List ℕ) → ℕ → Dimensions → Option (List ℕ) → Option (List ℕ) → Type 0
AppendsCube store at shape before after =
    (cells : List Cell) × AreStored store at (cell_count shape) cells
    × Appends before (cube_text (record { shape = shape; cells = cells })) after

-- the same of a prefix of their text
abbrev pub AppendsCubePrefix : Option (List ℕ) → ℕ → Dimensions → Option (List ℕ) → Option (List ℕ) → Type 0
AppendsCubePrefix store at shape before after =
    (cells : List Cell) × AreStored store at (cell_count shape) cells
    × AppendsPrefix before (cube_text (record { shape = shape; cells = cells })) after

-- the number of bytes of their text is counted
abbrev pub CountsCube : Option (List ℕ) → ℕ → Dimensions → Option ℕ → Option ℕ → Type 0
CountsCube store at shape size size_after =
    (cells : List Cell) × AreStored store at (cell_count shape) cells
    × AddsBytes size (length (cube_text (record { shape = shape; cells = cells }))) size_after

-- the same of a prefix of their text
abbrev pub CountsCubePrefix : Option (List ℕ) → ℕ → Dimensions → Option ℕ → Option ℕ → Type 0
CountsCubePrefix store at shape size size_after =
    (cells : List Cell) × AreStored store at (cell_count shape) cells
    × AddsSome size (length (cube_text (record { shape = shape; cells = cells }))) size_after

-- Cells that are stored at an offset of a store of type P are rendered to a sink of type O: where that succeeds, their
-- text follows what was written.
abbrev pub WritesCube : {O P T : Type 0} → (O → Option (List ℕ)) → O → O → (P → Option (List ℕ)) → P → ℕ → Dimensions
    → Result T RenderFail → Type 0
WritesCube written before after bytes store at shape result =
    OnOk result (AppendsCube (bytes store) at shape (written before) (written after))

-- the same of a prefix of their text, where it fails
abbrev pub BeginsCube : {O P T : Type 0} → (O → Option (List ℕ)) → O → O → (P → Option (List ℕ)) → P → ℕ → Dimensions
    → Result T RenderFail → Type 0
BeginsCube written before after bytes store at shape result =
    OnErr result (AppendsCubePrefix (bytes store) at shape (written before) (written after))

-- where it succeeds, the number of bytes of their text is counted
abbrev pub CountsText : {O P T : Type 0} → (O → Option ℕ) → O → O → (P → Option (List ℕ)) → P → ℕ → Dimensions
    → Result T RenderFail → Type 0
CountsText size before after bytes store at shape result =
    OnOk result (CountsCube (bytes store) at shape (size before) (size after))

-- the same of a prefix of their text, where it fails
abbrev pub CountsPrefix : {O P T : Type 0} → (O → Option ℕ) → O → O → (P → Option (List ℕ)) → P → ℕ → Dimensions
    → Result T RenderFail → Type 0
CountsPrefix size before after bytes store at shape result =
    OnErr result (CountsCubePrefix (bytes store) at shape (size before) (size after))

-- the cells of a shape stand in the store from an offset on: what is written of them, and what is counted
pub record RendersCube {O P T : Type 0} (at : ℕ) (shape : Dimensions) (written : O → Option (List ℕ))
    (size : O → Option ℕ) (before after : O) (bytes : P → Option (List ℕ)) (store : P) (result : Result T RenderFail)
    : Type 0 where
  pub text : WritesCube written before after bytes store at shape result
  pub prefix : BeginsCube written before after bytes store at shape result
  pub counted : CountsText size before after bytes store at shape result
  pub counted_prefix : CountsPrefix size before after bytes store at shape result

-- `SpoolFailed` only where the fault counter of a store of type P rose
abbrev pub HasSpoolCause : {P T : Type 0} → (P → ℕ) → P → P → Result T RenderFail → Type 0
HasSpoolCause faults before after result = HasCauseOf SpoolFailed (faults before) (faults after) result

-- `SinkFailed` only where that of a sink of type O rose
abbrev pub HasSinkCause : {O T : Type 0} → (O → ℕ) → O → O → Result T RenderFail → Type 0
HasSinkCause faults before after result = HasCauseOf SinkFailed (faults before) (faults after) result

-- what may be refused at the cells from an index to before an end: damage only in a store whose bytes are hidden
abbrev pub IsRefusalWithin : Option (List ℕ) → ℕ → ℕ → RenderFail → Type 0
IsRefusalWithin store from end SpoolFailed = ⊤
IsRefusalWithin store from end SinkFailed = ⊤
IsRefusalWithin store from end (SpoolDamaged position) = (store ≡ None) × (from ≤ position) × (position < end)

-- a failed write as what it refuses
abbrev pub sink_answer : {T : Type 0} → Result T Failed → Result T RenderFail
sink_answer (Ok x) = Ok x
sink_answer (Err e) = Err SinkFailed

-- What a call that sends a text, part of which may have to be read first, promises of a sink of type O.
pub record HasRendered {O T : Type 0} (written : O → Option (List ℕ)) (size : O → Option ℕ) (faults : O → ℕ)
    (before : O) (held text : List ℕ) (after : O) (left : List ℕ) (result : Result T RenderFail) : Type 0 where
  pub sent : OnOk result (Sends (written before) (size before) held text (written after) (size after) left)
  pub stopped : OnErr result (Stops (written before) (size before) held text (written after) (size after))
  pub cause : HasSinkCause faults before after result

-- The same of cells that are stored at an offset, after so many others were sent.
abbrev pub HasSentStored : {O T : Type 0} → Option (List ℕ) → ℕ → ℕ → ℕ → (O → Option (List ℕ))
    → (O → Option ℕ) → (O → ℕ) → O → List ℕ → O → List ℕ → Result T RenderFail → Type 0
HasSentStored store at count index written size faults before held after left result =
    (cells : List Cell) × AreStored store at count cells
    × HasRendered written size faults before held (more_text index (map cell_text cells)) after left result
