-- The cells of the steps of a schedule: where they are kept, and when they are those of its nodes.
use Rattle.std.specs.Prelude.{◌≡◌, ◌≢◌, ◌⊎◌, ◌<◌, ℕ, Bool, true, List, length, slice_index, take}
use Rattle.std.specs.List.{All}
use Rattle.oe_cell.specs.declared.cell.Cell.{Cell}
use Rattle.oe_cell.specs.declared.cell.Cell.TheVariants.{Empty}
use Rattle.oe_cube.specs.Kinds.{IsOfKind}
use Rattle.oe_dims.specs.declared.kind.CellKind.{CellKind}
use Rattle.oe_order.specs.Graph.{is_load}
use Rattle.oe_order.specs.Live.{is_live}
use Rattle.oe_check.specs.Checked.{CheckedGraph, outline_of_node}
use Rattle.oe_meanings.specs.Graphs.{Collections}
use Rattle.oe_check.specs.Laws.{meaning_of_node}
use Rattle.oe_check.specs.Links.{links_of}
use Rattle.oe_window.specs.Cells.{cells_on}
use Rattle.oe_window.specs.Windows.{position_count}
use Rattle.oe_window.specs.declared.window.Window.{Window}
use Rattle.oe_plan.specs.Schedules.{AreWindowsFor, IsSchedule, ScheduleOf, TakesAt, is_load_at, links_along, node_at}
use Rattle.oe_plan.specs.Steps.{arguments_of_node}
use Rattle.oe_plan.specs.Windows.{window_at}
use Rattle.oe_steps.specs.Buffers.{AreOfSize, buffer_at}

-- for each slot of a schedule there is a buffer of so many cells as it says
abbrev pub HaveRoomFor : ScheduleOf → List (List Cell) → Type 0
HaveRoomFor schedule buffers = AreOfSize buffers schedule.order.width schedule.largest

-- a schedule of the graph, with a window for each of its steps and a buffer for each of its slots
pub record IsReadySchedule (c : CheckedGraph) (schedule : ScheduleOf) (windows : List Window)
    (buffers : List (List Cell)) : Type 0 where
  pub scheduled : IsSchedule c schedule
  pub windows_fit : AreWindowsFor c schedule windows
  pub room : HaveRoomFor schedule buffers

-- the buffers of all slots but that of a step stay as they were
abbrev pub KeepsOthers : ScheduleOf → ℕ → List (List Cell) → List (List Cell) → Type 0
KeepsOthers schedule step old new =
    (slot : ℕ) → slot ≢ slice_index schedule.order.slots step → buffer_at new slot ≡ buffer_at old slot

-- ---- the cells of a step

-- whether its node loads a collection
abbrev pub loads_at : CheckedGraph → ScheduleOf → ℕ → Bool
loads_at c schedule step = is_load (links_of c.nodes) (node_at schedule step)

-- the kind of its cells
abbrev pub cell_kind_at : CheckedGraph → ScheduleOf → ℕ → CellKind
cell_kind_at c schedule step = (outline_of_node c (node_at schedule step)).kind

-- what buffers hold of it: the front of the buffer of its slot, one cell for each position of its window
abbrev pub buffer_cells_at : ScheduleOf → List Window → List (List Cell) → ℕ → List Cell
buffer_cells_at schedule windows buffers step =
    take (position_count (window_at windows step)) (buffer_at buffers (slice_index schedule.order.slots step))

-- each of these is null, Over or of the node's kind
abbrev pub AreOfKind : CheckedGraph → ScheduleOf → List Window → List (List Cell) → ℕ → Type 0
AreOfKind c schedule windows buffers step =
    All (IsOfKind (cell_kind_at c schedule step)) (buffer_cells_at schedule windows buffers step)

-- the cells of a node's cube on a window, over collections
abbrev pub node_cells : Collections → CheckedGraph → ℕ → Window → List Cell
node_cells collections c node window = cells_on Empty (meaning_of_node collections c node).cube window

-- what buffers hold of a step are the cells of its node on its window
abbrev pub AreCells : Collections → CheckedGraph → ScheduleOf → List Window → List (List Cell) → ℕ → Type 0
AreCells collections c schedule windows buffers step = buffer_cells_at schedule windows buffers step
    ≡ node_cells collections c (node_at schedule step) (window_at windows step)

-- ---- some of the steps

-- each step whose cube is loaded or given
abbrev pub EachLoad : CheckedGraph → ScheduleOf → (ℕ → Type 0) → Type 0
EachLoad c schedule Holds =
    (step : ℕ) → step < length schedule.order.steps → is_load_at c schedule step ≡ true → Holds step

-- the step of the last node
abbrev pub OfLast : ScheduleOf → (ℕ → Type 0) → Type 0
OfLast schedule Holds =
    (step : ℕ) → step < length schedule.order.steps → node_at schedule step ≡ schedule.last → Holds step

-- each step before this one whose node is live at it
abbrev pub EachLive : CheckedGraph → ScheduleOf → ℕ → (ℕ → Type 0) → Type 0
EachLive c schedule step Holds = (i : ℕ) → i < step
    → is_live (links_along c schedule) schedule.last schedule.order.steps step i ≡ true → Holds i

-- the node of a step takes the cubes of the nodes of two steps; one that takes one cube has that one as its second too
pub record AreArguments (c : CheckedGraph) (schedule : ScheduleOf) (step first second : ℕ) : Type 0 where
  pub first_taken : TakesAt c schedule step 0 first
  pub second_taken : TakesAt c schedule step 1 second
      ⊎ ((second ≡ first) × (length (arguments_of_node c (node_at schedule step)) ≡ 1))
