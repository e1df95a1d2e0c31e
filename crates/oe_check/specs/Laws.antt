-- What holds of every checked graph.
use Rattle.std.specs.Prelude.{◌≡◌, ◌<◌, ℕ, Some, None, List, [], ◌∷◌, map, is_some}
use Rattle.oe_dims.specs.Cube.{IsCube}
use Rattle.oe_dims.specs.Dimensions.{IsShape}
use Rattle.oe_expr.specs.Nodes.{id_at}
use Rattle.oe_graph.specs.Printed.{node_count}
use Rattle.oe_graph.specs.References.{references_named}
use Rattle.oe_graph.specs.Tree.{Nodes, PlainNode}
use Rattle.oe_order.specs.Graph as order
use Rattle.oe_meanings.specs.CellKinds.{HasCellsOfKind}
use Rattle.oe_check.specs.Checked.{CheckedGraph, AreFaultless, outline_of_node, operation_of_node, collection_of_node}
use Rattle.oe_meanings.specs.Graphs.{Collections, collection_named, collection_rows, meaning_at}
use Rattle.oe_check.specs.Links.{links_of}
use Rattle.oe_meanings.specs.Meaning.{Datacube, operated, outline}
use Rattle.oe_requests.specs.Operations.{Operation}
use Rattle.oe_requests.specs.Requests.{CubeRequest, cube_ids, cube_request_at}
use Rattle.oe_meanings.specs.SoundNodes.{AreCollections}
use Rattle.oe_check.specs.Walked.{AreResolved, IsNodeOf}

-- A node of a resolved graph refers to the nodes whose cubes its request works on and to no others, in their order.
pub record ReferToCubes : Type 0 where
  pub each : (nodes : Nodes) → AreResolved nodes → (n : PlainNode) → IsNodeOf nodes n
      → (r : CubeRequest) → cube_request_at n ≡ Some r → references_named n.arguments ≡ cube_ids r

-- ---- graphs without a fault

-- the collections are valid, and theirs are the shapes and kinds that the graph was checked over
pub record AreCollectionsOf (c : CheckedGraph) (collections : Collections) : Type 0 where
  pub valid : AreCollections collections
  pub rows_are : collection_rows collections ≡ c.rows

-- what the node at an index means over collections
abbrev pub meaning_of_node : Collections → CheckedGraph → ℕ → Datacube
meaning_of_node collections c node = meaning_at collections c.nodes (id_at node c.nodes)

-- the cube has the shape and the kind that were found for the node; it is valid, with one cell for each tuple of
-- labels, each of them null, Over or of the kind
pub record IsCubeOfNode (c : CheckedGraph) (node : ℕ) (d : Datacube) : Type 0 where
  pub outline_is : outline d ≡ outline_of_node c node
  pub valid : IsShape d.cube.shape
  pub counted : IsCube d.cube
  pub of_kind : HasCellsOfKind d

-- Each node of a graph without a fault means such a cube: its operation on the collection that it loads, or on the
-- cubes of the nodes that it refers to, in their order. By its links it loads a collection exactly where it has one.
pub record GiveCubes : Type 0 where
  pub loads : (c : CheckedGraph) → AreFaultless c → (node : ℕ) → node < node_count c.nodes
      → order.is_load (links_of c.nodes) node ≡ is_some (collection_of_node c node)
  pub cube : (c : CheckedGraph) → AreFaultless c → (collections : Collections) → AreCollectionsOf c collections
      → (node : ℕ) → node < node_count c.nodes → IsCubeOfNode c node (meaning_of_node collections c node)
  pub loaded : (c : CheckedGraph) → AreFaultless c → (collections : Collections) → AreCollectionsOf c collections
      → (node : ℕ) → node < node_count c.nodes → (operation : Operation) → operation_of_node c node ≡ Some operation
      → (id : List ℕ) → collection_of_node c node ≡ Some id
      → meaning_of_node collections c node ≡ operated operation (collection_named collections id ∷ [])
  pub operated : (c : CheckedGraph) → AreFaultless c → (collections : Collections) → AreCollectionsOf c collections
      → (node : ℕ) → node < node_count c.nodes → (operation : Operation) → operation_of_node c node ≡ Some operation
      → collection_of_node c node ≡ None
      → meaning_of_node collections c node
      ≡ operated operation (map (meaning_of_node collections c) (order.arguments (links_of c.nodes) node))
