-- A plan: what contracts see of it.
use Rattle.std.specs.Prelude.{◌≡◌, ◌<◌, ◌≤◌, ℕ, length, slice_index, None}
use Rattle.oe_graph.specs.Printed.{node_count}
use Rattle.oe_order.specs.Evaluation.{IsEvaluationOrder}
use Rattle.oe_order.specs.Live.{IsSlotted, Steps}
use Rattle.oe_order.specs.Order.{IsListing}
use Rattle.oe_check.specs.Checked.{AreFaultless, CheckedGraph}
use Rattle.oe_check.specs.Links.{links_of}
use Rattle.oe_window.specs.Chunks.{Tiling, tiling_of}
use Rattle.oe_window.specs.declared.grid.ChunkSize.{ChunkSize}
use Rattle.oe_plan.specs.Figures.{bound_of, largest_window, most_held_cells, scratch_of, shape_of_node, steps_of, width_of_run}
use Rattle.oe_plan.specs.Ranges.{IsWithinRanges}
use Rattle.oe_plan.specs.Schedules.{ScheduleOf}

-- the graph, the sides of the chunks, the number of workers, and the order of the run with the slots of its nodes
pub record PlanOf : Type 0 where
  pub graph : CheckedGraph
  pub size : ChunkSize
  pub workers : ℕ
  pub order : Steps

-- what every plan keeps
pub record IsPlan (p : PlanOf) : Type 0 where
  pub faultless : AreFaultless p.graph
  pub ranges : IsWithinRanges p.size p.workers
  pub steps_are : p.order.steps ≡ steps_of p.graph
  pub within : (i : ℕ) → i < length p.order.steps → slice_index p.order.steps i < node_count p.graph.nodes
  pub listing : IsListing (links_of p.graph.nodes) p.graph.result p.order.steps
  pub evaluation : IsEvaluationOrder (links_of p.graph.nodes) p.graph.result p.order.steps
  pub slotted : IsSlotted (links_of p.graph.nodes) p.graph.result p.order
  pub width_is : p.order.width ≡ width_of_run p.graph
  pub bounded : bound_of p.graph p.size p.workers ≤ most_held_cells

-- the schedule of its run, which ends at the result, and of which no cube is given
abbrev pub schedule_of : PlanOf → ScheduleOf
schedule_of p = record {
  last = p.graph.result;
  given = None;
  order = p.order;
  largest = largest_window p.graph p.size;
}

-- how a plan is kept: with its schedule, the grid of its chunks and the cells that an evaluation needs besides
pub record IsKeptPlan (p : PlanOf) (schedule : ScheduleOf) (grid : Tiling) (scratch : ℕ) : Type 0 where
  pub plan : IsPlan p
  pub schedule_is : schedule ≡ schedule_of p
  pub grid_is : grid ≡ tiling_of (shape_of_node p.graph p.graph.result) p.size
  pub scratch_is : scratch ≡ scratch_of p.graph
