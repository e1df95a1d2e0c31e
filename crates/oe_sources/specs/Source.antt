-- What contracts see of a collection that is read, and of its reads.
use Rattle.std.specs.Prelude.{◌≡◌, ℕ, ◌+◌, min, Bool, true, false, List, Option, Some, None, IfSome, IfErr, OnOk, Result, Ok, Err}
use Rattle.std.specs.List.{Contains, list_all}
use Rattle.std.specs.Option.{option_map}
use Rattle.oe_cell.specs.declared.cell.Cell.{Cell}
use Rattle.oe_cell.specs.declared.cell.Cell.TheVariants.{Empty}
use Rattle.oe_cube.specs.Collections.{Collection}
use Rattle.oe_cube.specs.Kinds.{is_null_or_of}
use Rattle.oe_dims.specs.Dimensions.{Dimensions}
use Rattle.oe_dims.specs.Positions.{Position, number_of}
use Rattle.oe_dims.specs.declared.kind.CellKind.{CellKind}
use Rattle.oe_outside.specs.Faults.{HasCauseOf, NeverFalls, Rose, last_count}
use Rattle.oe_sources.specs.declared.source.LookFail.{LookFail}
use Rattle.oe_sources.specs.declared.source.LookFail.TheVariants as look
use Rattle.oe_sources.specs.declared.source.ReadFault.{ReadFault}
use Rattle.oe_sources.specs.declared.source.SourceFail.{SourceFail}
use Rattle.oe_sources.specs.declared.source.SourceFail.TheVariants.{Failed, Damaged}
use Rattle.oe_window.specs.Cells.{cells_on}
use Rattle.oe_window.specs.Windows.{IsIn, position_count}
use Rattle.oe_window.specs.declared.window.Window.{Window}

-- the cells of a source in row-major order, and the row-major numbers of its damaged positions, rising
pub record Contents : Type 0 where
  pub cells : List Cell
  pub damaged : List ℕ

-- the collection that a source with visible contents has
abbrev pub collection_with : Dimensions → CellKind → Contents → Collection
collection_with shape kind contents = record { shape = shape; cells = contents.cells; kind = kind }

-- a source: its shape and kind, its contents where they are visible, its fault counter, and how many cells were asked
-- of it
pub record Source : Type 0 where
  pub shape : Dimensions
  pub kind : CellKind
  pub contents : Option Contents
  pub faults : ℕ
  pub asked : ℕ

-- the collection of a source, where it is visible
abbrev pub collection_of : Source → Option Collection
collection_of s = option_map (collection_with s.shape s.kind) s.contents

-- the number of cells asked after a read of so many, which stays at its last value
abbrev pub asked_after : ℕ → ℕ → ℕ
asked_after asked cells = min (asked + cells) last_count

-- a position of the window is damaged, and this is its number
pub record IsDamagedIn (shape : Dimensions) (contents : Option Contents) (window : Window) (number : ℕ) : Type 0 where
  pub position : Position
  pub inside : IsIn window position
  pub numbered : number_of shape position ≡ number
  pub damaged : IfSome contents (λ c. Contains c.damaged number)

-- no position of the window is damaged
abbrev pub HasNoDamage : Dimensions → Contents → Window → Type 0
HasNoDamage shape contents window =
    (p : Position) → IsIn window p → ¬ Contains contents.damaged (number_of shape p)

-- these are the cells of the window, of which none is damaged
pub record AreCellsOf (shape : Dimensions) (contents : Contents) (window : Window) (cells : List Cell) : Type 0 where
  pub cells_are : cells ≡ cells_on Empty (record { shape = shape; cells = contents.cells }) window
  pub undamaged : HasNoDamage shape contents window

-- what a refusal says of the contents
abbrev pub TellsDamage : Dimensions → Option Contents → Window → SourceFail → Type 0
TellsDamage shape contents window Failed = Unit {0}
TellsDamage shape contents window (Damaged number) = IsDamagedIn shape contents window number

-- A look at a window: what it gives, and what its refusal says. It changes nothing.
pub record Looks (source : Source) (window : Window) (cells : List Cell)
    (result : Result (Unit {0}) SourceFail) : Type 0 where
  pub given : OnOk result (IfSome source.contents (λ c. AreCellsOf source.shape c window cells))
  pub of_kind : OnOk result (list_all (is_null_or_of source.kind) cells ≡ true)
  pub damage : IfErr result (TellsDamage source.shape source.contents window)

-- the same answer without the fault that was met
abbrev pub answer_of : Result (Unit {0}) LookFail → Result (Unit {0}) SourceFail
answer_of (Ok done) = Ok done
answer_of (Err (look.Failed fault)) = Err Failed
answer_of (Err (look.Damaged number)) = Err (Damaged number)

-- the fault that a look met, if it met one
abbrev pub fault_of : Result (Unit {0}) LookFail → Option ReadFault
fault_of (Ok done) = None
fault_of (Err (look.Failed fault)) = Some fault
fault_of (Err (look.Damaged number)) = None

-- it was answered `Failed`
abbrev pub is_failed : Result (Unit {0}) SourceFail → Bool
is_failed (Ok done) = false
is_failed (Err Failed) = true
is_failed (Err (Damaged number)) = false

-- A read of a window: what it gives, what it refuses and why, and that it changes the two counters alone.
pub record Reads (before : Source) (window : Window) (cells : List Cell) (after : Source)
    (result : Result (Unit {0}) SourceFail) : Type 0 where
  pub given : OnOk result (IfSome before.contents (λ c. AreCellsOf before.shape c window cells))
  pub of_kind : OnOk result (list_all (is_null_or_of before.kind) cells ≡ true)
  pub damage : IfErr result (TellsDamage before.shape before.contents window)
  pub cause : HasCauseOf Failed before.faults after.faults result
  pub asked : after.asked ≡ asked_after before.asked (position_count window)
  pub shape : after.shape ≡ before.shape
  pub kind : after.kind ≡ before.kind
  pub contents : after.contents ≡ before.contents

-- so many cells were counted as asked for, and a fault exactly where a look met one; all else is as it was
pub record CountsRead (before : Source) (cells : ℕ) (failed : Bool) (after : Source) : Type 0 where
  pub asked : after.asked ≡ asked_after before.asked cells
  pub falls : NeverFalls before.faults after.faults
  pub rose : failed ≡ true → Rose before.faults after.faults
  pub still : failed ≡ false → after.faults ≡ before.faults
  pub shape : after.shape ≡ before.shape
  pub kind : after.kind ≡ before.kind
  pub contents : after.contents ≡ before.contents
