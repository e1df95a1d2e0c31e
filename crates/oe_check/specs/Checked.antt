-- A graph that was checked: what contracts see of it.
use Rattle.std.specs.Prelude.{◌≡◌, ◌<◌, ℕ, List, Option, length, slice_get, option_and_then}
use Rattle.oe_dims.specs.declared.dims.DimsRow.{DimsRow}
use Rattle.oe_graph.specs.Printed.{ids_of, node_count}
use Rattle.oe_graph.specs.References.{each_node}
use Rattle.oe_graph.specs.Tree.{Nodes, PlainNode}
use Rattle.oe_order.specs.Graph as order
use Rattle.oe_order.specs.declared.Links.{Links}
use Rattle.oe_expr.specs.Nodes.{id_at}
use Rattle.oe_meanings.specs.Graphs.{outline_at, operation_at}
use Rattle.oe_check.specs.Links.{links_of, loaded_collection}
use Rattle.oe_requests.specs.Operations.{Operation, Outline}
use Rattle.oe_meanings.specs.SoundNodes.{IsSoundNode}
use Rattle.oe_meanings.specs.Stands.{IsSound}
use Rattle.oe_check.specs.Walked.{AreResolved, IsNodeOf, AreSound, State}

-- the nodes of a graph with the index of its result, and the shapes and kinds of the collections that it was checked
-- over
pub record CheckedGraph : Type 0 where
  pub nodes : Nodes
  pub result : ℕ
  pub rows : List DimsRow

-- ---- a node at an index

-- the shape and the kind of its cube
abbrev pub outline_of_node : CheckedGraph → ℕ → Outline
outline_of_node c node = outline_at c.rows c.nodes (id_at node c.nodes)

-- the operation that it stands for
abbrev pub operation_of_node : CheckedGraph → ℕ → Option Operation
operation_of_node c node = option_and_then (operation_at c.rows c.nodes) (slice_get (each_node c.nodes) node)

-- the collection that it loads
abbrev pub collection_of_node : CheckedGraph → ℕ → Option (List ℕ)
collection_of_node c node = option_and_then loaded_collection (slice_get (each_node c.nodes) node)

-- ---- all nodes

-- the graph is resolved, and no node has a fault at or below it, so that each cube is valid by the laws of meanings
pub record AreFaultless (c : CheckedGraph) : Type 0 where
  pub resolved : AreResolved c.nodes
  pub has_result : c.result < node_count c.nodes
  pub sound : (n : PlainNode) → IsNodeOf c.nodes n → IsSound c.rows c.nodes n.id
  pub sound_cells : (n : PlainNode) → IsNodeOf c.nodes n → IsSoundNode c.rows c.nodes n.id

-- what is kept of such a graph
pub record IsKept (c : CheckedGraph) (ids : List (List ℕ)) (states : List State) (links : List Links) : Type 0 where
  pub resolved : AreResolved c.nodes
  pub has_result : c.result < node_count c.nodes
  pub ids_are : ids ≡ ids_of c.nodes
  pub as_many : length states ≡ node_count c.nodes
  pub sound : AreSound c.rows c.nodes states
  pub links_are : order.graph_of links ≡ links_of c.nodes
