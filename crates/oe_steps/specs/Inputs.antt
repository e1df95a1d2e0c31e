-- The cells that a step works on, and those that it gives.
use Rattle.std.specs.Prelude.{◌≡◌, ◌<◌, ℕ, false, List, length, take}
use Rattle.std.specs.List.{All}
use Rattle.oe_cell.specs.declared.cell.Cell.{Cell}
use Rattle.oe_cube.specs.Kinds.{IsOfKind}
use Rattle.oe_check.specs.Checked.{CheckedGraph}
use Rattle.oe_check.specs.Laws.{AreCollectionsOf}
use Rattle.oe_meanings.specs.Graphs.{Collections}
use Rattle.oe_window.specs.Windows.{position_count}
use Rattle.oe_window.specs.declared.window.Window.{Window}
use Rattle.oe_plan.specs.Schedules.{AreWindowsFor, IsSchedule, ScheduleOf, TakesAt, is_load_at, node_at}
use Rattle.oe_plan.specs.Windows.{window_at}
use Rattle.oe_steps.specs.Steps.{AreArguments, AreCells, EachLoad, OfLast, cell_kind_at, node_cells}

-- one cell for each position of the window of a step, each of the kind of its node
pub record IsInput (c : CheckedGraph) (schedule : ScheduleOf) (windows : List Window) (step : ℕ)
    (cells : List Cell) : Type 0 where
  pub within : step < length schedule.order.steps
  pub counted : length cells ≡ position_count (window_at windows step)
  pub of_kind : All (IsOfKind (cell_kind_at c schedule step)) cells

-- they are those of the node's cube over collections
abbrev pub AreNodeCells : Collections → CheckedGraph → ScheduleOf → List Window → ℕ → List Cell → Type 0
AreNodeCells collections c schedule windows step cells =
    cells ≡ node_cells collections c (node_at schedule step) (window_at windows step)

-- a step of a schedule that loads no collection works on the cells of two steps, whose cubes its node takes
pub record WorksOnCells (c : CheckedGraph) (schedule : ScheduleOf) (windows : List Window) (step first second : ℕ)
    (one two : List Cell) : Type 0 where
  pub scheduled : IsSchedule c schedule
  pub step_in : step < length schedule.order.steps
  pub computes : is_load_at c schedule step ≡ false
  pub windows_fit : AreWindowsFor c schedule windows
  pub arguments : AreArguments c schedule step first second
  pub first_input : IsInput c schedule windows first one
  pub second_input : IsInput c schedule windows second two

-- over any collections of the graph, where those that it works on are those of their nodes' cubes, these are those of its
abbrev pub GivesNodeCells : CheckedGraph → ScheduleOf → List Window → ℕ → ℕ → ℕ → List Cell → List Cell → List Cell
    → Type 0
GivesNodeCells c schedule windows step first second one two out =
    (collections : Collections) → AreCollectionsOf c collections
    → AreNodeCells collections c schedule windows first one → AreNodeCells collections c schedule windows second two
    → AreNodeCells collections c schedule windows step out

-- the cells of a step at the front of a buffer, one for each position of its window
abbrev pub cells_of_step : List Window → ℕ → List Cell → List Cell
cells_of_step windows step buffer = take (position_count (window_at windows step)) buffer

-- over any collections of the graph, where the old buffers have the cells of the steps whose cubes a step takes, the
-- new ones have its own
abbrev pub EvaluatesStep : CheckedGraph → ScheduleOf → ℕ → List Window → List (List Cell) → List (List Cell) → Type 0
EvaluatesStep c schedule step windows old new = (collections : Collections) → AreCollectionsOf c collections
    → ((number r : ℕ) → TakesAt c schedule step number r → AreCells collections c schedule windows old r)
    → AreCells collections c schedule windows new step

-- the same where the old ones have those of each step whose cube is loaded or given: the new ones have those of the
-- last node's step
abbrev pub EvaluatesLast : CheckedGraph → ScheduleOf → List Window → List (List Cell) → List (List Cell) → Type 0
EvaluatesLast c schedule windows old new = (collections : Collections) → AreCollectionsOf c collections
    → EachLoad c schedule (AreCells collections c schedule windows old)
    → OfLast schedule (AreCells collections c schedule windows new)
