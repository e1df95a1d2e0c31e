-- The nodes of a graph by their indices, as the order of a run names them.
use Rattle.std.specs.Prelude.{ℕ, List, map, Option, Some, None, codes, option_and_then, unwrap_or, Contains}
use Rattle.oe_dims.specs.Names.{same_name}
use Rattle.oe_graph.specs.Indices as indices
use Rattle.oe_graph.specs.Printed.{ids_of}
use Rattle.oe_graph.specs.References.{each_node, references_named}
use Rattle.oe_graph.specs.Tree.{Nodes, PlainNode}
use Rattle.oe_order.specs.Graph as order
use Rattle.oe_requests.specs.Requests.{CubeRequest, load_collection, cube_request_at}

-- the index of the node of a name
abbrev pub index_named : Nodes → List ℕ → Option ℕ
index_named nodes name = indices.index_named nodes name

-- the same where there is such a node, as a reference of a resolved graph has one
abbrev pub index_referred : Nodes → List ℕ → ℕ
index_referred nodes name = unwrap_or (index_named nodes name) 0

-- each name is that of a node
abbrev pub AreNamed : Nodes → List (List ℕ) → Type 0
AreNamed nodes names = (name : List ℕ) → Contains names name → Contains (ids_of nodes) name

-- whether the node loads a collection, and the nodes that it refers to
abbrev pub link_of : Nodes → PlainNode → order.Node
link_of nodes n = record {
  load = same_name n.process_id (codes "load_collection");
  arguments = map (index_referred nodes) (references_named n.arguments);
}

abbrev pub links_of : Nodes → List order.Node
links_of nodes = map (link_of nodes) (each_node nodes)

-- the collection that a request loads
abbrev pub loaded_by : CubeRequest → Option (List ℕ)
loaded_by (load_collection id box time bands) = Some id
loaded_by _ = None

-- the collection that a node loads
abbrev pub loaded_collection : PlainNode → Option (List ℕ)
loaded_collection n = option_and_then loaded_by (cube_request_at n)
