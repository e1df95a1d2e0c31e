-- What the walk gives of a callback without faults: its nodes in an order of evaluation, each with what it asks for.
use Rattle.std.specs.Prelude.{◌≡◌, ◌≢◌, ◌<◌, ℕ, List, Some, slice_get, Contains, AllPairs}
use Rattle.oe_expr.specs.PlainRequests.{plain_cell_request}
use Rattle.oe_expr.specs.Requests.{cell_request_at}
use Rattle.oe_expr.specs.declared.walk.Judged.{Judged}
use Rattle.oe_graph.specs.Printed.{node_count}
use Rattle.oe_graph.specs.References.{each_node, references_named}
use Rattle.oe_graph.specs.Tree.{Nodes, PlainNode}

-- the entry is that of this node, and has what the node's arguments ask for
pub record IsEntryOf (nodes : Nodes) (n : PlainNode) (entry : Judged) : Type 0 where
  pub stands : slice_get (each_node nodes) entry.node ≡ Some n
  pub asks : cell_request_at n ≡ Some (plain_cell_request entry.request)

-- an entry is that of some node
pub record IsEntry (nodes : Nodes) (entry : Judged) : Type 0 where
  pub node : PlainNode
  pub is_entry : IsEntryOf nodes node entry

-- the node of a name has an entry before the index k
pub record StandsBefore (nodes : Nodes) (order : List Judged) (k : ℕ) (name : List ℕ) : Type 0 where
  pub index : ℕ
  pub entry : Judged
  pub node : PlainNode
  pub is_before : index < k
  pub at : slice_get order index ≡ Some entry
  pub is_entry : IsEntryOf nodes node entry
  pub is_named : node.id ≡ name

-- the node at an index has an entry
pub record HasEntry (order : List Judged) (node : ℕ) : Type 0 where
  pub index : ℕ
  pub entry : Judged
  pub at : slice_get order index ≡ Some entry
  pub is_node : entry.node ≡ node

-- each node has one entry, which stands behind those of the nodes that it refers to
pub record IsWalkOrder (nodes : Nodes) (order : List Judged) : Type 0 where
  pub each : (node : ℕ) → node < node_count nodes → HasEntry order node
  pub once : AllPairs (λ (a b : Judged). a.node ≢ b.node) order
  pub entry : (k : ℕ) (entry : Judged) → slice_get order k ≡ Some entry → IsEntry nodes entry
  pub behind :
      (k : ℕ) (entry : Judged) (n : PlainNode) (name : List ℕ)
      → slice_get order k ≡ Some entry → IsEntryOf nodes n entry → Contains (references_named n.arguments) name
      → StandsBefore nodes order k name
