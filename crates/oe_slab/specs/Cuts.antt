-- Where the run of a graph over a long time is cut: at the one node that needs all dates, where it reduces them date by
-- date and the result needs no other cube.
use Rattle.std.specs.Prelude.{◌≡◌, ◌<◌, ℕ, true, false, Bool, List, Some}
use Rattle.oe_dims.specs.declared.kind.Kind.TheVariants.{Time}
use Rattle.oe_fold.specs.declared.reducer.Reducer.{Reducer}
use Rattle.oe_graph.specs.Printed.{node_count}
use Rattle.oe_order.specs.Graph.{Node, IsInRun, is_load}
use Rattle.oe_check.specs.Checked.{CheckedGraph}
use Rattle.oe_check.specs.Links.{links_of}
use Rattle.oe_check.specs.Reach.{time_fold_of_node, whole_of_node}
use Rattle.oe_plan.specs.Schedules.{as_load}

-- a node of the run: the result, or one that it reaches by references
abbrev pub IsOfRun : CheckedGraph → ℕ → Type 0
IsOfRun c node = IsInRun (links_of c.nodes) c.result node

-- the references of the part behind a node, whose cube counts as loaded
abbrev pub links_behind : CheckedGraph → ℕ → List Node
links_behind c node = as_load (links_of c.nodes) node

-- the node alone needs all dates, and reduces them date by date
pub record IsLoneFold (c : CheckedGraph) (fold : ℕ) : Type 0 where
  -- (a node of the run is one of the graph)
  pub within : fold < node_count c.nodes
  pub of_run : IsOfRun c fold
  -- it reduces t date by date
  pub reducer : Reducer
  pub ignores_nulls : Bool
  pub folds : time_fold_of_node c fold ≡ Some (reducer, ignores_nulls)
  -- it needs all dates, and no other node of the run does
  pub whole : whole_of_node c fold Time ≡ Some true
  pub only : (node : ℕ) → IsOfRun c node → whole_of_node c node Time ≡ Some true → node ≡ fold

-- the node is the time cut of the run
pub record IsTimeCut (c : CheckedGraph) (fold : ℕ) : Type 0 where
  pub lone : IsLoneFold c fold
  -- each path of references from the result to a node that loads goes through it: the part behind it loads nothing else
  pub through : (node : ℕ) → IsInRun (links_behind c fold) c.result node → is_load (links_of c.nodes) node ≡ false

-- the run has no time cut
abbrev pub HasNoTimeCut : CheckedGraph → Type 0
HasNoTimeCut c = (fold : ℕ) → ¬ IsTimeCut c fold
