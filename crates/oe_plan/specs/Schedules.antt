-- Schedules: the nodes that a last node needs, in an order to evaluate them by, with a slot for the cells of each.
use Rattle.std.specs.Prelude.{◌≡◌, ◌<◌, ◌≤◌, ℕ, zero, suc, Bool, true, false, List, [], ◌∷◌, length, slice_get, slice_index, Contains, Option, Some, None}
use Rattle.oe_graph.specs.Printed.{node_count}
use Rattle.oe_ops.specs.Needs.{HoldsNeed}
use Rattle.oe_order.specs.Evaluation.{IsEvaluationOrder}
use Rattle.oe_order.specs.Graph.{Node, is_load}
use Rattle.oe_order.specs.Live.{IsSlotted, Steps}
use Rattle.oe_order.specs.Order.{IsListing}
use Rattle.oe_check.specs.Checked.{AreFaultless, CheckedGraph}
use Rattle.oe_check.specs.Links.{links_of}
use Rattle.oe_window.specs.Windows.{Holds, position_count, whole_window}
use Rattle.oe_window.specs.declared.window.Window.{Window}
use Rattle.oe_plan.specs.Figures.{most_held_cells, shape_of_node, steps_of}
use Rattle.oe_plan.specs.Steps.{NeedsOfNode, arguments_of_node}
use Rattle.oe_plan.specs.Windows.{window_at}

-- the last node, the node whose cube is given, if one is, the order of the steps with the slots of their nodes, and how
-- many cells a slot has
pub record ScheduleOf : Type 0 where
  pub last : ℕ
  pub given : Option ℕ
  pub order : Steps
  pub largest : ℕ

-- ---- what a schedule follows

-- the same graph, where a node counts as one that loads, and takes nothing
abbrev pub as_load : List Node → ℕ → List Node
as_load [] n = []
as_load (x ∷ xs) zero = record { load = true; arguments = [] } ∷ xs
as_load (x ∷ xs) (suc n) = x ∷ as_load xs n

-- the same references, where a node whose cube is given counts as one that loads
abbrev pub links_given : List Node → Option ℕ → List Node
links_given links None = links
links_given links (Some node) = as_load links node

abbrev pub links_along : CheckedGraph → ScheduleOf → List Node
links_along c schedule = links_given (links_of c.nodes) schedule.given

-- the graph with the last node of a schedule as its result
abbrev pub part_of : CheckedGraph → ScheduleOf → CheckedGraph
part_of c schedule = record c { result = schedule.last }

-- ---- its steps

-- the nodes that the last node needs, in the order in which they are worked off where no cube is given
abbrev pub steps_to_last : CheckedGraph → ScheduleOf → List ℕ
steps_to_last c schedule = steps_of (part_of c schedule)

-- the node of a step
abbrev pub node_at : ScheduleOf → ℕ → ℕ
node_at schedule step = slice_index schedule.order.steps step

-- whether its cube is loaded or given, and so is not evaluated
abbrev pub is_load_at : CheckedGraph → ScheduleOf → ℕ → Bool
is_load_at c schedule step = is_load (links_along c schedule) (node_at schedule step)

-- the same as `Takes`, along a schedule: the node of step s, which is evaluated, takes the cube of the node of step r as
-- its argument of a number
pub record TakesAt (c : CheckedGraph) (schedule : ScheduleOf) (s number r : ℕ) : Type 0 where
  pub within : s < length schedule.order.steps
  pub earlier : r < s
  pub works : is_load_at c schedule s ≡ false
  pub taken : slice_get (arguments_of_node c (node_at schedule s)) number ≡ Some (node_at schedule r)

-- A schedule of a checked graph: each of its nodes is one of the graph's run, they stand in an order to evaluate by,
-- two that are live at once have two slots, and no slot has more cells than a plan may hold.
pub record IsSchedule (c : CheckedGraph) (schedule : ScheduleOf) : Type 0 where
  pub faultless : AreFaultless c
  pub within : (i : ℕ) → i < length schedule.order.steps → node_at schedule i < node_count c.nodes
  pub of_run : (i : ℕ) → i < length schedule.order.steps → Contains (steps_of c) (node_at schedule i)
  pub listing : IsListing (links_along c schedule) schedule.last schedule.order.steps
  pub evaluation : IsEvaluationOrder (links_along c schedule) schedule.last schedule.order.steps
  pub slotted : IsSlotted (links_along c schedule) schedule.last schedule.order
  pub small : schedule.largest ≤ most_held_cells

-- Windows for the steps of a schedule: each lies in the cube of its node and fits a slot, and that of a step has what
-- the windows of all steps that take its cube need of it.
pub record AreWindowsFor (c : CheckedGraph) (schedule : ScheduleOf) (windows : List Window) : Type 0 where
  pub each : length windows ≡ length schedule.order.steps
  pub inside : (s : ℕ) → s < length schedule.order.steps
      → Holds (whole_window (shape_of_node c (node_at schedule s))) (window_at windows s)
  pub needed : (s number r : ℕ) → TakesAt c schedule s number r
      → HoldsNeed (NeedsOfNode c (node_at schedule s) number) (window_at windows s) (window_at windows r)
  pub few : (s : ℕ) → s < length schedule.order.steps → position_count (window_at windows s) ≤ schedule.largest
