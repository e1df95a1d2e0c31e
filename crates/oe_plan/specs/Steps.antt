-- The steps of a run: the nodes in the order in which they are worked off, and what each takes of earlier ones.
use Rattle.std.specs.Prelude.{◌≡◌, ◌<◌, ℕ, false, List, length, map, slice_get, slice_index, Option, Some, None, if◌then◌else◌}
use Rattle.oe_dims.specs.Dimensions.{Dimensions}
use Rattle.oe_dims.specs.Positions.{Position}
use Rattle.oe_ops.specs.Needs.{Needs}
use Rattle.oe_order.specs.Graph as order
use Rattle.oe_order.specs.declared.Links.{Links}
use Rattle.oe_check.specs.Checked.{CheckedGraph, operation_of_node}
use Rattle.oe_check.specs.Links.{links_of}
use Rattle.oe_requests.specs.Operations.{Operation}
use Rattle.oe_plan.specs.Figures.{shape_of_node, steps_of}

-- the nodes whose cubes a node takes
abbrev pub arguments_of_node : CheckedGraph → ℕ → List ℕ
arguments_of_node c node = order.arguments (links_of c.nodes) node

-- the shapes of the cubes that a node takes
abbrev pub argument_shapes : CheckedGraph → ℕ → List Dimensions
argument_shapes c node = map (shape_of_node c) (arguments_of_node c node)

-- for the position p of its cube a node needs the position q of its argument of a number
pub record NeedsOfNode (c : CheckedGraph) (node number : ℕ) (p q : Position) : Type 0 where
  pub operation : Operation
  pub operation_is : operation_of_node c node ≡ Some operation
  pub needs : Needs operation (argument_shapes c node) number p q

-- the node of step s takes the cube of the node of step r as its argument of a number; a node that loads takes none
pub record Takes (c : CheckedGraph) (s number r : ℕ) : Type 0 where
  pub within : s < length (steps_of c)
  pub earlier : r < s
  pub works : order.is_load (links_of c.nodes) (slice_index (steps_of c) s) ≡ false
  pub taken : slice_get (arguments_of_node c (slice_index (steps_of c) s)) number ≡ Some (slice_index (steps_of c) r)

-- the node that a node of these links takes as its argument of a number
abbrev pub argument_at : Links → ℕ → Option ℕ
argument_at links number = if links.load then None else slice_get links.arguments.items number
