-- What a resolved graph means over collections (openEO API, process graphs): at each node its operation on the cubes of
-- the nodes that it refers to. Of a graph with a fault nothing is meant by this.
use Rattle.std.specs.Prelude.{ℕ, List, [], ◌∷◌, map, Option, find, option_and_then}
use Rattle.std.specs.Option.{option_map_or}
use Rattle.oe_cube.specs.Collections.{Collection}
use Rattle.oe_dims.specs.Names.{same_name}
use Rattle.oe_dims.specs.declared.dims.DimsRow.{DimsRow}
use Rattle.oe_dims.specs.declared.kind.CellKind.TheVariants.{Numbers}
use Rattle.oe_graph.specs.Tree.{Nodes, PlainGraph, PlainNode}
use Rattle.oe_expr.specs.Nodes.{down_from, result_id}
use Rattle.oe_meanings.specs.Meaning.{Datacube, no_cube, operated, outline}
use Rattle.oe_requests.specs.Operations.{Operation, Outline, no_outline, operation_of, outline_of}
use Rattle.oe_requests.specs.Requests.{CubeRequest, load_collection, cube_ids, cube_request_at}

-- ---- collections

-- collections by their ids
abbrev pub NamedCollection : Type 0
NamedCollection = List ℕ × Collection

abbrev pub Collections : Type 0
Collections = List NamedCollection

abbrev pub no_datacube : Datacube
no_datacube = record { cube = no_cube; kind = Numbers }

abbrev pub datacube_of : Collection → Datacube
datacube_of c = record { cube = record { shape = c.shape; cells = c.cells }; kind = c.kind }

-- the collection of an id
abbrev pub collection_named : Collections → List ℕ → Datacube
collection_named collections id =
    option_map_or (λ (c : NamedCollection). datacube_of c.1)
    (find (λ (c : NamedCollection). same_name c.0 id) collections) no_datacube

-- its outline, by the shapes and kinds of collections alone
abbrev pub row_outline : DimsRow → Outline
row_outline row = record { shape = row.shape; kind = row.kind }

abbrev pub outline_named : List DimsRow → List ℕ → Outline
outline_named rows id = option_map_or row_outline (find (λ (row : DimsRow). same_name row.id id) rows) no_outline

-- the shapes and kinds of collections
abbrev pub collection_row : NamedCollection → DimsRow
collection_row c = record { id = c.0; shape = c.1.shape; kind = c.1.kind }

abbrev pub collection_rows : Collections → List DimsRow
collection_rows collections = map collection_row collections

-- ---- nodes

-- what a request works on: of a load the collection, and else what stands for each node whose cube it takes
abbrev pub request_inputs : {A : Type 0} → (List ℕ → A) → (List ℕ → A) → CubeRequest → List A
request_inputs collection at (load_collection id box time bands) = collection id ∷ []
request_inputs collection at r = map at (cube_ids r)

-- the shape and the kind of a request's cube
abbrev pub request_outline : List DimsRow → (List ℕ → Outline) → CubeRequest → Outline
request_outline rows at r =
    let inputs = request_inputs (outline_named rows) at r in
    option_map_or (λ operation. outline_of operation inputs) (operation_of r inputs) no_outline

-- those of a node, where `at` has those of the nodes that it refers to
abbrev pub node_outline : List DimsRow → (List ℕ → Outline) → PlainNode → Outline
node_outline rows at n = option_map_or (request_outline rows at) (cube_request_at n) no_outline

-- those of the node of a name
abbrev pub outline_at : List DimsRow → Nodes → List ℕ → Outline
outline_at rows nodes name = down_from no_outline (node_outline rows) nodes name

-- the cube of a request: its operation on the cubes that it works on
abbrev pub request_meaning : Collections → (List ℕ → Datacube) → CubeRequest → Datacube
request_meaning collections at r =
    let inputs = request_inputs (collection_named collections) at r in
    option_map_or (λ operation. operated operation inputs) (operation_of r (map outline inputs)) no_datacube

-- of a node, where `at` has the cubes of the nodes that it refers to
abbrev pub node_meaning : Collections → (List ℕ → Datacube) → PlainNode → Datacube
node_meaning collections at n = option_map_or (request_meaning collections at) (cube_request_at n) no_datacube

-- of the node of a name
abbrev pub meaning_at : Collections → Nodes → List ℕ → Datacube
meaning_at collections nodes name = down_from no_datacube (node_meaning collections) nodes name

-- of the graph: that of its result node
abbrev pub meaning : Collections → PlainGraph → Datacube
meaning collections g = meaning_at collections g.nodes (result_id g)

abbrev pub graph_outline : List DimsRow → PlainGraph → Outline
graph_outline rows g = outline_at rows g.nodes (result_id g)

-- the operation that a node stands for in a graph over collections of these shapes and kinds
abbrev pub operation_at : List DimsRow → Nodes → PlainNode → Option Operation
operation_at rows nodes n =
    option_and_then (λ r. operation_of r (request_inputs (outline_named rows) (outline_at rows nodes) r))
    (cube_request_at n)
