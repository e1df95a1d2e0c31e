-- Nodes without a fault, as far as the cells and the shapes of their cubes go, and what then holds of them.
use Rattle.std.specs.Prelude.{◌≡◌, ℕ, true, List, map, All, Contains, Some}
use Rattle.oe_cube.specs.Collections.{IsCollection}
use Rattle.oe_dims.specs.Cube.{IsCube}
use Rattle.oe_dims.specs.Dimensions.{IsShape}
use Rattle.oe_dims.specs.declared.dims.DimsRow.{DimsRow}
use Rattle.oe_expr.specs.Nodes.{node_named}
use Rattle.oe_graph.specs.References.{references_named, Leads}
use Rattle.oe_graph.specs.Tree.{Nodes, PlainNode}
use Rattle.oe_meanings.specs.CellKinds.{HasCellsOfKind, IsSoundOn}
use Rattle.oe_meanings.specs.Graphs.{NamedCollection, Collections, collection_named, collection_rows, request_inputs, outline_named, outline_at, node_meaning, node_outline, meaning_at, operation_at}
use Rattle.oe_meanings.specs.Meaning.{operated}
use Rattle.oe_requests.specs.Operations.{Operation, Outline, operation_of, shape_of}
use Rattle.oe_requests.specs.Requests.{CubeRequest, cube_request_at}
use Rattle.oe_meanings.specs.ValidShapes.{BringsLabels, is_within_limits}

-- no references lead from a node back to itself
abbrev pub AreAcyclic : Nodes → Type 0
AreAcyclic nodes = (id : List ℕ) → ¬ Leads nodes id id

-- the meaning of a node is its operation on the meanings of the nodes that it refers to, and so with outlines;
-- `operated` says it of the operation itself, which is found by outlines alone
pub record UnfoldAtNodes : Type 0 where
  pub meaning : (collections : Collections) (nodes : Nodes) → AreAcyclic nodes → (name : List ℕ) (n : PlainNode)
      → node_named name nodes ≡ Some n
      → meaning_at collections nodes name ≡ node_meaning collections (meaning_at collections nodes) n
  pub outline : (rows : List DimsRow) (nodes : Nodes) → AreAcyclic nodes → (name : List ℕ) (n : PlainNode)
      → node_named name nodes ≡ Some n → outline_at rows nodes name ≡ node_outline rows (outline_at rows nodes) n
  pub operated : (collections : Collections) (nodes : Nodes) → AreAcyclic nodes → (name : List ℕ) (n : PlainNode)
      → node_named name nodes ≡ Some n → (r : CubeRequest) (operation : Operation) → cube_request_at n ≡ Some r
      → operation_at (collection_rows collections) nodes n ≡ Some operation
      → meaning_at collections nodes name
      ≡ operated operation (request_inputs (collection_named collections) (meaning_at collections nodes) r)

-- what a check has seen of an operation on cubes of these outlines that has no fault: kinds, labels and limits together
pub record IsSoundOperation (operation : Operation) (cubes : List Outline) : Type 0 where
  pub kinds : IsSoundOn operation cubes
  pub labels : BringsLabels operation
  pub limits : is_within_limits (shape_of operation (map (λ (o : Outline). o.shape) cubes)) ≡ true

module _ (rows : List DimsRow) (nodes : Nodes) where
  -- the outlines of the cubes that a request works on
  abbrev pub input_outlines : CubeRequest → List Outline
  input_outlines r = request_inputs (outline_named rows) (outline_at rows nodes) r

  -- the operation of a node has no fault
  abbrev pub HasSoundOperation : PlainNode → Type 0
  HasSoundOperation n =
      (r : CubeRequest) (operation : Operation) → cube_request_at n ≡ Some r → operation_of r (input_outlines r)
      ≡ Some operation
      → IsSoundOperation operation (input_outlines r)

  -- no fault at the node of a name or below it
  pub data IsSoundNode : List ℕ → Type 0 where
    sound_node : {name : List ℕ} {n : PlainNode}
        → node_named name nodes ≡ Some n
        → ((other : List ℕ) → Contains (references_named n.arguments) other → IsSoundNode other)
        → HasSoundOperation n → IsSoundNode name

-- each collection is one: its shape is valid, and its cells are of its kind
abbrev pub AreCollections : Collections → Type 0
AreCollections collections = All (λ (c : NamedCollection). IsCollection c.1) collections

-- In a graph without a cycle over collections, the cube of a node that has no fault at or below it has a valid shape,
-- one cell for each tuple of labels, and cells of its kind: null, Over, numbers in a cube of numbers and flags in one
-- of flags.
pub record AreSound : Type 0 where
  pub cells : (collections : Collections) (nodes : Nodes) → AreCollections collections → AreAcyclic nodes
      → (name : List ℕ) → IsSoundNode (collection_rows collections) nodes name
      → HasCellsOfKind (meaning_at collections nodes name)
  pub shape : (collections : Collections) (nodes : Nodes) → AreCollections collections → AreAcyclic nodes
      → (name : List ℕ) → IsSoundNode (collection_rows collections) nodes name
      → IsShape (meaning_at collections nodes name).cube.shape
  pub counted : (collections : Collections) (nodes : Nodes) → AreCollections collections → AreAcyclic nodes
      → (name : List ℕ) → IsSoundNode (collection_rows collections) nodes name
      → IsCube (meaning_at collections nodes name).cube
