-- What the layers above may rely on of schedules.
use Rattle.std.specs.Prelude.{◌≡◌, ◌<◌, ◌≤◌, ℕ, List, length, slice_index}
use Rattle.oe_order.specs.Evaluation.{IsEvaluationOrder}
use Rattle.oe_order.specs.Graph.{IsInRun}
use Rattle.oe_order.specs.Live.{IsSlotted}
use Rattle.oe_order.specs.Order.{IsListing}
use Rattle.oe_check.specs.Checked.{AreFaultless, CheckedGraph}
use Rattle.oe_check.specs.Links.{links_of}
use Rattle.oe_window.specs.Windows.{position_count}
use Rattle.oe_window.specs.declared.grid.ChunkSize.{ChunkSize}
use Rattle.oe_window.specs.declared.window.Window.{Window}
use Rattle.oe_plan.specs.Figures.{most_held_cells, steps_of}
use Rattle.oe_plan.specs.Schedules.{AreWindowsFor, IsSchedule, ScheduleOf, links_along, node_at, part_of, steps_to_last}
use Rattle.oe_plan.specs.Windows.{AreWindows, window_at}

-- the steps of the graph's run are an order to work by
abbrev pub IsOrdered : CheckedGraph → Type 0
IsOrdered c = IsListing (links_of c.nodes) c.result (steps_of c)

-- each window fits a slot
abbrev pub FitSlots : ScheduleOf → List Window → Type 0
FitSlots schedule windows = (s : ℕ) → s < length windows → position_count (window_at windows s) ≤ schedule.largest

-- the window of each step is that of the step of the run at which its node stands
abbrev pub ArePicked : CheckedGraph → ScheduleOf → List Window → List Window → Type 0
ArePicked c schedule windows picked = (s r : ℕ) → s < length picked → r < length (steps_of c)
    → slice_index (steps_of c) r ≡ node_at schedule s → window_at picked s ≡ window_at windows r

-- An order of the nodes that a node of the run needs, of which one may be given, is a schedule. The windows of the run
-- up to its last node serve it, where it has the steps of that run and each of them fits a slot; and so do windows of
-- the graph's run, each taken for the step of its node.
pub record SchedulesServe : Type 0 where
  pub orders : (c : CheckedGraph) (schedule : ScheduleOf) → AreFaultless c → IsOrdered c
      → IsInRun (links_of c.nodes) c.result schedule.last
      → IsListing (links_along c schedule) schedule.last schedule.order.steps
      → IsEvaluationOrder (links_along c schedule) schedule.last schedule.order.steps
      → IsSlotted (links_along c schedule) schedule.last schedule.order → schedule.largest ≤ most_held_cells
      → IsSchedule c schedule
  pub own : (c : CheckedGraph) (schedule : ScheduleOf) → schedule.order.steps ≡ steps_to_last c schedule
      → (size : ChunkSize) (chunk : Window) (windows : List Window) → AreWindows (part_of c schedule) size chunk windows
      → FitSlots schedule windows → AreWindowsFor c schedule windows
  pub picked : (c : CheckedGraph) (schedule : ScheduleOf) → IsSchedule c schedule → IsOrdered c → (size : ChunkSize)
      (chunk : Window) (windows picked : List Window) → AreWindows c size chunk windows
      → length picked ≡ length schedule.order.steps → ArePicked c schedule windows picked → FitSlots schedule picked
      → AreWindowsFor c schedule picked
