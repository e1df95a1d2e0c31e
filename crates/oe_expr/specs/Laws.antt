-- What holds of every callback in which no fault stands.
use Rattle.std.specs.Prelude.{◌≡◌, ℕ, true, List, Some, IsSome, Contains}
use Rattle.oe_cell.specs.declared.cell.Cell.{Cell}
use Rattle.oe_graph.specs.References.{references_named}
use Rattle.oe_graph.specs.Resolved.{IsResolvedUnder}
use Rattle.oe_graph.specs.Tree.{PlainNode}
use Rattle.oe_expr.specs.Callback.{Callback, IsFaultlessCallback}
use Rattle.oe_expr.specs.NodeKinds.{kind_at, request_kind}
use Rattle.oe_expr.specs.Nodes.{node_named, result_id}
use Rattle.oe_expr.specs.Requests.{CellRequest, cell_request_at}
use Rattle.oe_expr.specs.Scope.{Environment, scope_parameters}
use Rattle.oe_expr.specs.Value.{node_value, node_value_at, request_value}

-- the callback is resolved, and no fault stands in it
pub record IsValidCallback (c : Callback) : Type 0 where
  pub resolved : IsResolvedUnder true (scope_parameters c.scope) c.graph
  pub faultless : IsFaultlessCallback c

-- The node of a name asks for an operation, and the nodes that it refers to are there: in each environment its value is
-- the operation on their values, and its kind is that of the operation on their kinds.
pub record UnfoldsAtNode (c : Callback) (name : List ℕ) (n : PlainNode) : Type 0 where
  pub request : CellRequest
  pub asks : cell_request_at n ≡ Some request
  pub refers : (other : List ℕ) → Contains (references_named n.arguments) other → IsSome (node_named other c.graph.nodes)
  pub value : (e : Environment)
      → node_value_at e c.graph.nodes name ≡ request_value e (node_value_at e c.graph.nodes) request
  pub kind : kind_at c.scope c.context c.graph.nodes name
      ≡ request_kind c.scope c.context (kind_at c.scope c.context c.graph.nodes) request

-- Each node of a valid callback unfolds so, and the result is one of them. No other values of its nodes are so.
pub record UnfoldAtNodes : Type 0 where
  pub each : (c : Callback) → IsValidCallback c → (name : List ℕ) (n : PlainNode)
      → node_named name c.graph.nodes ≡ Some n → UnfoldsAtNode c name n
  pub result : (c : Callback) → IsValidCallback c → IsSome (node_named (result_id c.graph) c.graph.nodes)
  pub only : (c : Callback) → IsValidCallback c → (e : Environment) (at : List ℕ → Cell)
      → ((name : List ℕ) (n : PlainNode) → node_named name c.graph.nodes ≡ Some n → at name ≡ node_value e at n)
      → (name : List ℕ) → IsSome (node_named name c.graph.nodes) → at name ≡ node_value_at e c.graph.nodes name
