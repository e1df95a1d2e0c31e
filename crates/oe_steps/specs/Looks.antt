-- Looks at the cells of a step that loads a collection: what may be looked at, and what a look leaves.
use Rattle.std.specs.Prelude.{◌≡◌, ◌<◌, ◌+◌, ◌^◌, ℕ, true, List, length, Some, Result, OnOk}
use Rattle.oe_cell.specs.declared.cell.Cell.{Cell}
use Rattle.oe_check.specs.Checked.{CheckedGraph, collection_of_node}
use Rattle.oe_ops.specs.Needs.{plane_window}
use Rattle.oe_plan.specs.Figures.{shape_of_node}
use Rattle.oe_plan.specs.Schedules.{ScheduleOf, node_at}
use Rattle.oe_plan.specs.Windows.{window_at}
use Rattle.oe_sources.specs.Catalogue.{Row}
use Rattle.oe_window.specs.Windows.{Holds, position_count, span_length, whole_window}
use Rattle.oe_window.specs.declared.window.Window.{Window}
use Rattle.oe_steps.specs.Collections.{AreRead, IsMountedAt}
use Rattle.oe_steps.specs.Loads.{IsLoadedAt}
use Rattle.oe_steps.specs.Steps.{EachLive, loads_at}

-- ---- what is looked at

-- a step of a schedule that loads a collection
pub record IsLoadStep (c : CheckedGraph) (schedule : ScheduleOf) (step : ℕ) : Type 0 where
  pub step_in : step < length schedule.order.steps
  pub loads : loads_at c schedule step ≡ true

-- the collection that a node loads is mounted at an index of the catalogue
abbrev pub IsPlaceOf : CheckedGraph → List Row → ℕ → ℕ → Type 0
IsPlaceOf c rows node place =
    (id : List ℕ) → collection_of_node c node ≡ Some id → IsMountedAt c rows id place

-- a window in the cube of such a step's node, with fewer than 2^64 positions
pub record IsWindowToLoad (c : CheckedGraph) (schedule : ScheduleOf) (step : ℕ) (window : Window) : Type 0 where
  pub load : IsLoadStep c schedule step
  pub within : Holds (whole_window (shape_of_node c (node_at schedule step))) window
  pub few : position_count window < 2 ^ 64

-- a window in that cube on one plane, from the collection at an index of the catalogue
pub record IsPlaneToLoad (c : CheckedGraph) (schedule : ScheduleOf) (rows : List Row) (step place : ℕ)
    (plane : Window) : Type 0 where
  pub load : IsLoadStep c schedule step
  pub mounted : IsPlaceOf c rows (node_at schedule step) place
  pub within : Holds (whole_window (shape_of_node c (node_at schedule step))) plane
  pub one : plane ≡ plane_window plane plane.t.from plane.bands.from

-- such a window of one row: it has as many positions as indices along x
pub record IsRowToLoad (c : CheckedGraph) (schedule : ScheduleOf) (rows : List Row) (step place : ℕ)
    (row : Window) : Type 0 where
  pub plane : IsPlaneToLoad c schedule rows step place row
  pub count : position_count row ≡ span_length row.x

-- how many cells a step has: one for each position of its window
abbrev pub size_at : List Window → ℕ → ℕ
size_at windows step = position_count (window_at windows step)

-- ---- what looks leave

-- over these rows of a catalogue: where the steps before this one that are live are loaded in the old buffers, this one
-- is too in the new ones, unless it was refused
abbrev pub LoadsOver : {E : Type 0} → CheckedGraph → ScheduleOf → List Row → ℕ → List Window → List (List Cell)
    → List (List Cell) → Result (Unit {0}) E → Type 0
LoadsOver c schedule rows step windows old new result =
    EachLive c schedule step (IsLoadedAt c schedule rows windows old)
    → OnOk result (EachLive c schedule (step + 1) (IsLoadedAt c schedule rows windows new))

-- the same over any rows of a catalogue of which reads may have made these
abbrev pub LoadsNext : {E : Type 0} → CheckedGraph → ScheduleOf → List Row → ℕ → List Window → List (List Cell)
    → List (List Cell) → Result (Unit {0}) E → Type 0
LoadsNext c schedule read step windows old new result =
    (rows : List Row) → AreRead rows read → LoadsOver c schedule rows step windows old new result
