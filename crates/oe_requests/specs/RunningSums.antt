-- The callback of `apply_dimension`: each of its nodes is `cumsum` of the list that it sees (rule of this profile).
use Rattle.std.specs.Prelude.{◌≡◌, ◌<◌, ℕ, Bool, true, false, ◌&&◌, List, [], ◌∷◌, Option, Some, None, codes, Contains, is_none, is_some, option_and_then, slice_get, unwrap_or, if◌then◌else◌}
use Rattle.oe_dims.specs.Names.{same_name, names_rise}
use Rattle.oe_expr.specs.Nodes.{node_named}
use Rattle.oe_expr.specs.Requests.{flag_in, passes, read}
use Rattle.oe_graph.specs.Form.{callback_name, node_name}
use Rattle.oe_graph.specs.Faults.{IsLeast}
use Rattle.oe_graph.specs.Printed.{ids_of, node_count}
use Rattle.oe_graph.specs.References.{each_node, references_named}
use Rattle.oe_graph.specs.declared.fault.Fault.{Fault}
use Rattle.oe_graph.specs.Tree as tree
use Rattle.oe_graph.specs.Tree.{Argument, Nodes, PlainGraph, PlainNode}
use Rattle.oe_graph.specs.declared.code.Code.{Code}
use Rattle.oe_graph.specs.declared.code.Code.TheVariants.{ProcessParameterInvalid}

-- a reference to the list
abbrev pub is_data : Argument → Bool
is_data (tree.from_parameter name) = same_name name (codes "data")
is_data _ = false

-- whether a node ignores nulls; none where it is something else
abbrev pub running_sum_at : PlainNode → Option Bool
running_sum_at n =
    if same_name n.process_id (codes "cumsum") && passes is_data (codes "data") n.arguments
    then read flag_in (codes "ignore_nodata") n.arguments else None

-- whether the result node does; of a callback with a fault nothing is meant by this
abbrev pub ignores_nulls : PlainGraph → Bool
ignores_nulls g = unwrap_or (option_and_then running_sum_at (slice_get (each_node g.nodes) g.result)) true

-- the ids of the callback rise, and it has a result node, as a resolved one does
pub record IsWellFormed (g : PlainGraph) : Type 0 where
  pub ids_rise : names_rise (ids_of g.nodes) ≡ true
  pub has_result : g.result < node_count g.nodes

-- the nodes of these names are running sums
abbrev pub are_sums_named : Nodes → List (List ℕ) → Bool
are_sums_named nodes [] = true
are_sums_named nodes (name ∷ names) =
    is_some (option_and_then running_sum_at (node_named name nodes)) && are_sums_named nodes names

-- A fault stands at a node: it is something else, and those that it refers to are running sums. In a resolved callback
-- these refer to no node, so there is no fault at or below them.
abbrev pub fault_stands_at : Nodes → PlainNode → Bool
fault_stands_at nodes n = is_none (running_sum_at n) && are_sums_named nodes (references_named n.arguments)

-- the fault that stands there, in the argument `process` of the node `id`
pub record StandsInSums (g : PlainGraph) (id : List ℕ) (code : Code) (name : List ℕ) : Type 0 where
  pub node : PlainNode
  pub is_node : Contains (each_node g.nodes) node
  pub stands : fault_stands_at g.nodes node ≡ true
  pub code_is : code ≡ ProcessParameterInvalid
  pub name_is : name ≡ node_name (callback_name id (codes "process")) node.id

-- no fault stands there, so in a resolved callback each node is a running sum
abbrev pub AreSums : PlainGraph → Type 0
AreSums g = (id : List ℕ) (code : Code) (name : List ℕ) → ¬ StandsInSums g id code name

-- the least of the faults that stand there, or none where none does
abbrev pub IsSumsFault : PlainGraph → List ℕ → Option Fault → Type 0
IsSumsFault g id None = (code : Code) (name : List ℕ) → ¬ StandsInSums g id code name
IsSumsFault g id (Some fault) = IsLeast (StandsInSums g id) fault

-- ---- for private functions

-- the nodes at these indices are running sums
abbrev pub are_sums_at : Nodes → List ℕ → Bool
are_sums_at nodes [] = true
are_sums_at nodes (index ∷ indices) =
    is_some (option_and_then running_sum_at (slice_get (each_node nodes) index)) && are_sums_at nodes indices
