-- What may be planned.
use Rattle.std.specs.Prelude.{◌≡◌, ◌<◌, ◌≤◌, ℕ, List, length, slice_index}
use Rattle.oe_graph.specs.Printed.{node_count}
use Rattle.oe_check.specs.Checked.{CheckedGraph}
use Rattle.oe_window.specs.Chunks.{IsSide}
use Rattle.oe_window.specs.declared.grid.ChunkSize.{ChunkSize}
use Rattle.oe_plan.specs.Figures.{steps_of}

-- the sides are those that chunks may have, and there are 1 to 64 workers
pub record IsWithinRanges (size : ChunkSize) (workers : ℕ) : Type 0 where
  pub x : IsSide size.x
  pub y : IsSide size.y
  pub t : IsSide size.t
  pub least : 1 ≤ workers
  pub most : workers ≤ 64

-- the steps are those of the graph's run, each of a node of the graph
pub record AreStepsOf (c : CheckedGraph) (steps : List ℕ) : Type 0 where
  pub steps_are : steps ≡ steps_of c
  pub within : (i : ℕ) → i < length steps → slice_index steps i < node_count c.nodes

-- a reach beyond so many labels is as good as this one, since no dimension has more
abbrev pub most_reach : ℕ
most_reach = 65536
