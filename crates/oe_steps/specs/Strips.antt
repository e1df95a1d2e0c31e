-- Rows of a hull: what the windows of a step that are strips of it take of them.
use Rattle.std.specs.Prelude.{◌≡◌, ◌≤◌, ℕ, ◌+◌, ◌*◌, List, slice_index}
use Rattle.oe_cell.specs.declared.cell.Cell.{Cell}
use Rattle.oe_plan.specs.Schedules.{ScheduleOf, node_at}
use Rattle.oe_plan.specs.Windows.{window_at}
use Rattle.oe_check.specs.Checked.{CheckedGraph}
use Rattle.oe_sources.specs.Catalogue.{Row}
use Rattle.oe_window.specs.Parts.{row_of}
use Rattle.oe_window.specs.Windows.{IsEmpty, span_length}
use Rattle.oe_window.specs.declared.window.Window.{Window}
use Rattle.oe_steps.specs.Buffers.{buffer_at}
use Rattle.oe_steps.specs.Loads.{AreLoaded, HasLoadedTo, IsLoadedAt}
use Rattle.oe_steps.specs.Steps.{EachLive}

-- a window with positions that differs from a hull along x alone, where its indices are some of the hull's
pub record IsStripOf (hull window : Window) : Type 0 where
  pub filled : ¬ IsEmpty window
  pub t : window.t ≡ hull.t
  pub bands : window.bands ≡ hull.bands
  pub y : window.y ≡ hull.y
  pub from : hull.x.from ≤ window.x.from
  pub to : window.x.to ≤ hull.x.to

-- the steps before this one that are live are loaded, and of this step so many rows of its window
pub record HaveLoadedRows (c : CheckedGraph) (schedule : ScheduleOf) (rows : List Row) (step number : ℕ)
    (windows : List Window) (buffers : List (List Cell)) : Type 0 where
  pub before : EachLive c schedule step (IsLoadedAt c schedule rows windows buffers)
  pub loaded : HasLoadedTo c rows (node_at schedule step) (window_at windows step)
      (number * span_length (window_at windows step).x) (buffer_at buffers (slice_index schedule.order.slots step))

-- over any rows of a catalogue: where these are the cells of a hull's row of a number, and so many rows of a step's
-- window are loaded in the old buffers, one row more is in the new ones
abbrev pub TakesRow : CheckedGraph → ScheduleOf → ℕ → Window → ℕ → List Cell → List Window → List (List Cell)
    → List (List Cell) → Type 0
TakesRow c schedule step hull number cells windows old new =
    (rows : List Row) → AreLoaded c rows (node_at schedule step) (row_of hull number) cells
    → HaveLoadedRows c schedule rows step number windows old
    → HaveLoadedRows c schedule rows step (number + 1) windows new
