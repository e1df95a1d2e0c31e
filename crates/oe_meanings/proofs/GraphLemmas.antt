-- In a graph without a cycle the meaning unfolds at each node; cells are of their kind and shapes valid where no fault is.
use Rattle.std.proofs.Common.{◌≡◌, ℕ, zero, suc, ◌<◌, Bool, true, false, List, [], ◌∷◌, length, map, refl, sym, ap, subst, arith, Option, Some, None, Contains, ◌∙◌}
use Rattle.std.specs.Prelude.{All, slice_index_or}
use Rattle.std.specs.List.{list_all}
use Rattle.std.specs.Option.{option_and_then, option_map_or}
use Rattle.oe_cell.specs.declared.cell.Cell.{Cell}
use Rattle.oe_cell.specs.declared.cell.Cell.TheVariants.{Empty, Flag, Number, Over}
use Rattle.oe_cube.specs.Collections.{Collection, IsCollection}
use Rattle.oe_cube.specs.Kinds.{IsOfKind, is_null_or_of}
use Rattle.oe_dims.proofs.CubeLemmas.{length-tuples, IsCube-tabulate}
use Rattle.oe_dims.specs.Cube.{Cube, IsCube}
use Rattle.oe_dims.specs.Dimensions.{IsShape}
use Rattle.oe_dims.specs.Names.{same_name}
use Rattle.oe_dims.specs.declared.dims.DimsRow.{DimsRow}
use Rattle.oe_dims.specs.declared.kind.CellKind.{CellKind}
use Rattle.oe_dims.specs.declared.kind.CellKind.TheVariants.{Numbers, Flags}
use Rattle.oe_expr.proofs.NodeLemmas.{unfolds}
use Rattle.oe_expr.specs.Nodes.{node_named}
use Rattle.oe_graph.specs.References.{references_named}
use Rattle.oe_graph.specs.Tree.{Nodes, PlainNode}
use Rattle.oe_meanings.proofs.OrderedLemmas.{left_of, right_of}
use Rattle.oe_meanings.proofs.OutlineLemmas.{outline_given, inputs_outlined, at_outlined}
use Rattle.oe_meanings.proofs.RequestLemmas.{EachOf, of_node_request, outline_looks_down, meaning_looks_down}
use Rattle.oe_meanings.proofs.SoundLemmas.{nothing_fits, gives_cells_of_kind}
use Rattle.oe_meanings.proofs.ValidLemmas.{no_dimensions_is_shape, gives_valid_shapes}
use Rattle.oe_meanings.specs.CellKinds.{HasCellsOfKind}
use Rattle.oe_requests.specs.Extents.{shape_of_restriction}
use Rattle.oe_requests.specs.Labels.{shape_of_merge}
use Rattle.oe_meanings.specs.Graphs.{Collections, no_datacube, datacube_of, collection_named, collection_rows, request_inputs, outline_named, outline_at, node_meaning, node_outline, request_meaning, meaning_at, operation_at}
use Rattle.oe_meanings.specs.Meaning.{Datacube, no_cube, operated, outline}
use Rattle.oe_requests.specs.Operations.{Operation, Outline, no_outline, operation_of, keep, each_cell, convolve, reduce, aggregate, accumulate, merge, cover, give_back, first_or, second_or, without_dimension, shape_of_aggregation}
use Rattle.oe_requests.specs.Requests.{CubeRequest, load_collection, filter_bbox, filter_temporal, filter_bands, apply, apply_kernel, reduce_dimension, aggregate_temporal, aggregate_temporal_period, apply_dimension, merge_cubes, mask, save_result, cube_ids, cube_request_at}
use Rattle.oe_meanings.specs.SoundNodes.{AreAcyclic, UnfoldAtNodes, IsSoundOperation, input_outlines, HasSoundOperation, IsSoundNode, sound_node, AreCollections, AreSound}

-- ---- unfolding

meaning_unfolds : (collections : Collections) (nodes : Nodes) → AreAcyclic nodes → (name : List ℕ) (n : PlainNode) → node_named name nodes ≡ Some n → meaning_at collections nodes name ≡ node_meaning collections (meaning_at collections nodes) n
meaning_unfolds collections nodes acyclic name n e =
    unfolds nodes no_datacube (node_meaning collections) (meaning_looks_down collections) acyclic name n e

outline_unfolds : (rows : List DimsRow) (nodes : Nodes) → AreAcyclic nodes → (name : List ℕ) (n : PlainNode) → node_named name nodes ≡ Some n → outline_at rows nodes name ≡ node_outline rows (outline_at rows nodes) n
outline_unfolds rows nodes acyclic name n e =
    unfolds nodes no_outline (node_outline rows) (outline_looks_down rows) acyclic name n e

by_operation : (o : Option Operation) (operation : Operation) (inputs : List Datacube) → o ≡ Some operation
    → option_map_or (λ (p : Operation). operated p inputs) o no_datacube ≡ operated operation inputs
by_operation None operation inputs e = absurd cc
by_operation (Some p) operation inputs e = by cc
  where
    by : p ≡ operation → operated p inputs ≡ operated operation inputs
    by same = ap (λ q. operated q inputs) same

by_request : (collections : Collections) (at : List ℕ → Datacube) (o : Option CubeRequest) (r : CubeRequest) → o ≡ Some r
    → option_map_or (request_meaning collections at) o no_datacube ≡ request_meaning collections at r
by_request collections at o r e = ap (λ p. option_map_or (request_meaning collections at) p no_datacube) e

asked : (o : Option CubeRequest) (r : CubeRequest) (f : CubeRequest → Option Operation) → o ≡ Some r → option_and_then f o ≡ f r
asked o r f e = ap (λ p. option_and_then f p) e

-- the meaning of a node is its operation on the meanings of the nodes that it refers to
operation_unfolds : (collections : Collections) (nodes : Nodes) → AreAcyclic nodes → (name : List ℕ) (n : PlainNode) → node_named name nodes ≡ Some n
    → (r : CubeRequest) (operation : Operation) → cube_request_at n ≡ Some r → operation_at (collection_rows collections) nodes n ≡ Some operation
    → meaning_at collections nodes name ≡ operated operation (request_inputs (collection_named collections) (meaning_at collections nodes) r)
operation_unfolds collections nodes acyclic name n is r operation asks gives =
    let at = meaning_at collections nodes in
    let to = outline_at (collection_rows collections) nodes in
    let inputs = request_inputs (collection_named collections) at r in
    let same = inputs_outlined collections at to (at_outlined collections nodes) r in
    let there : operation_of r (map outline inputs) ≡ Some operation =
    ap (operation_of r) same
    ∙ sym (asked (cube_request_at n) r (λ q. operation_of q (request_inputs (outline_named (collection_rows collections)) to q)) asks) ∙ gives in
    meaning_unfolds collections nodes acyclic name n is
    ∙ by_request collections at (cube_request_at n) r asks
    ∙ by_operation (operation_of r (map outline inputs)) operation inputs there

pub unfold_at_nodes : UnfoldAtNodes
unfold_at_nodes = record { meaning = meaning_unfolds; outline = outline_unfolds; operated = operation_unfolds }

-- ---- what holds of a cube: cells of its kind, and a valid shape

pub record IsValid (d : Datacube) : Type 0 where
  pub cells : HasCellsOfKind d
  pub shape : IsShape d.cube.shape
  pub counted : IsCube d.cube

nothing_valid : IsValid no_datacube
nothing_valid = record { cells = nothing_fits; shape = no_dimensions_is_shape; counted = refl }

-- ---- collections

cell_of_kind : (kind : CellKind) (c : Cell) → is_null_or_of kind c ≡ true → IsOfKind kind c
cell_of_kind Numbers Empty h = tt
cell_of_kind Flags Empty h = tt
cell_of_kind Numbers (Flag b) h = absurd cc
cell_of_kind Numbers (Number q) h = tt
cell_of_kind Flags (Flag b) h = tt
cell_of_kind Flags (Number q) h = absurd cc
cell_of_kind Numbers Over h = absurd cc
cell_of_kind Flags Over h = absurd cc

pub cells_of_kind : (kind : CellKind) (cells : List Cell) → list_all (is_null_or_of kind) cells ≡ true → All (IsOfKind kind) cells
cells_of_kind kind [] h k d l = absurd (omega arith)
cells_of_kind kind (c ∷ cells) h k d l = by k l (cells_of_kind kind cells (right_of (is_null_or_of kind c) _ h))
  where
    by : (k : ℕ) → k < suc (length cells) → All (IsOfKind kind) cells → IsOfKind kind (slice_index_or (c ∷ cells) k d)
    by zero l rest = cell_of_kind kind c (left_of (is_null_or_of kind c) _ h)
    by (suc k) l rest = rest k d (omega arith)

collection_valid : (c : Collection) → IsCollection c → IsValid (datacube_of c)
collection_valid c h = record { cells = cells_of_kind c.kind c.cells h.of_kind; shape = h.valid; counted = h.counted ∙ sym (length-tuples c.shape) }

named_valid : (collections : Collections) (id : List ℕ) → AreCollections collections → IsValid (collection_named collections id)
named_valid [] id h = nothing_valid
named_valid (c ∷ collections) id h = by (same_name c.0 id) refl (named_valid collections id (λ k d l. h (suc k) d (omega arith)))
  where
    by : (b : Bool) → same_name c.0 id ≡ b → IsValid (collection_named collections id) → IsValid (collection_named (c ∷ collections) id)
    by true is rest = rw is (collection_valid c.1 (h 0 c (omega arith)))
    by false is rest = rw is rest

-- ---- inputs

module _ (collections : Collections) (valid : AreCollections collections) (at : List ℕ → Datacube) where
  one_valid : (a : Datacube) → IsValid a → All IsValid (a ∷ [])
  one_valid a h zero d l = h
  one_valid a h (suc k) d l = absurd (omega arith)

  two_valid : (a b : Datacube) → IsValid a → IsValid b → All IsValid (a ∷ b ∷ [])
  two_valid a b h k zero d l = h
  two_valid a b h k (suc zero) d l = k
  two_valid a b h k (suc (suc i)) d l = absurd (omega arith)

  inputs_valid : (r : CubeRequest) → EachOf (λ id. IsValid (at id)) (cube_ids r) → All IsValid (request_inputs (collection_named collections) at r)
  inputs_valid (load_collection id box time bands) h = one_valid (collection_named collections id) (named_valid collections id valid)
  inputs_valid (filter_bbox data_id box) h = one_valid (at data_id) h.0
  inputs_valid (filter_temporal data_id time name) h = one_valid (at data_id) h.0
  inputs_valid (filter_bands data_id bands) h = one_valid (at data_id) h.0
  inputs_valid (apply data_id c) h = one_valid (at data_id) h.0
  inputs_valid (apply_kernel data_id kernel factor border replace) h = one_valid (at data_id) h.0
  inputs_valid (reduce_dimension data_id name c) h = one_valid (at data_id) h.0
  inputs_valid (aggregate_temporal data_id intervals name c) h = one_valid (at data_id) h.0
  inputs_valid (aggregate_temporal_period data_id period name c) h = one_valid (at data_id) h.0
  inputs_valid (apply_dimension data_id callback) h = one_valid (at data_id) h.0
  inputs_valid (merge_cubes one two resolver) h = two_valid (at one) (at two) h.0 h.1.0
  inputs_valid (mask data_id mask_id replacement) h = two_valid (at data_id) (at mask_id) h.0 h.1.0
  inputs_valid (save_result data_id format) h = one_valid (at data_id) h.0

-- ---- operations

-- one cell for each tuple
abbrev first_cube : List Datacube → Cube Cell
first_cube inputs = first_or no_cube (map (λ (d : Datacube). d.cube) inputs)

abbrev second_cube : List Datacube → Cube Cell
second_cube inputs = second_or no_cube (map (λ (d : Datacube). d.cube) inputs)

first_counted : (inputs : List Datacube) → All IsValid inputs → IsCube (first_cube inputs)
first_counted [] h = refl
first_counted (a ∷ inputs) h = (h 0 a (omega arith)).counted

operated_counted : (operation : Operation) (inputs : List Datacube) → All IsValid inputs → IsCube (operated operation inputs).cube
operated_counted (keep r) inputs h = IsCube-tabulate (shape_of_restriction r (first_cube inputs).shape) _
operated_counted (each_cell c) inputs h = IsCube-tabulate (first_cube inputs).shape _
operated_counted (convolve kernel factor border replace) inputs h = IsCube-tabulate (first_cube inputs).shape _
operated_counted (reduce kind c) inputs h = IsCube-tabulate (without_dimension kind (first_cube inputs).shape) _
operated_counted (aggregate intervals c) inputs h = IsCube-tabulate (shape_of_aggregation intervals (first_cube inputs).shape) _
operated_counted (accumulate ignore) inputs h = IsCube-tabulate (first_cube inputs).shape _
operated_counted (merge resolver) inputs h = IsCube-tabulate (shape_of_merge (first_cube inputs).shape (second_cube inputs).shape) _
operated_counted (cover replacement) inputs h = IsCube-tabulate (first_cube inputs).shape _
operated_counted give_back inputs h = first_counted inputs h

shapes_of_outlines : (inputs : List Datacube) → All IsValid inputs → All IsShape (map (λ (o : Outline). o.shape) (map outline inputs))
shapes_of_outlines [] h k d l = absurd (omega arith)
shapes_of_outlines (a ∷ inputs) h k d l = by k l (shapes_of_outlines inputs (λ i e m. h (suc i) e (omega arith)))
  where
    by : (k : ℕ) → k < suc (length (map (λ (o : Outline). o.shape) (map outline inputs))) → All IsShape (map (λ (o : Outline). o.shape) (map outline inputs))
        → IsShape (slice_index_or (a.cube.shape ∷ map (λ (o : Outline). o.shape) (map outline inputs)) k d)
    by zero l rest = (h 0 a (omega arith)).shape
    by (suc k) l rest = rest k d (omega arith)

operated_valid : (operation : Operation) (inputs : List Datacube) → IsSoundOperation operation (map outline inputs) → All IsValid inputs → IsValid (operated operation inputs)
operated_valid operation inputs s h = record {
  cells = gives_cells_of_kind.each operation inputs s.kinds (λ k d l. (h k d l).cells);
  shape =
      subst (λ (o : Outline). IsShape o.shape) (sym (outline_given operation inputs))
      (gives_valid_shapes.each operation (map (λ (o : Outline). o.shape) (map outline inputs)) s.labels (shapes_of_outlines inputs h) s.limits);
  counted = operated_counted operation inputs h;
}

-- ---- nodes

module _ (collections : Collections) (valid : AreCollections collections) (nodes : Nodes) (acyclic : AreAcyclic nodes) where
  abbrev rows : List DimsRow
  rows = collection_rows collections

  abbrev means : List ℕ → Datacube
  means = meaning_at collections nodes

  same_outlines : (r : CubeRequest) → map outline (request_inputs (collection_named collections) means r) ≡ input_outlines rows nodes r
  same_outlines r = inputs_outlined collections means (outline_at rows nodes) (at_outlined collections nodes) r

  request_valid : (n : PlainNode) (r : CubeRequest) → cube_request_at n ≡ Some r → HasSoundOperation rows nodes n → EachOf (λ id. IsValid (means id)) (cube_ids r) → IsValid (request_meaning collections means r)
  request_valid n r e sound below = by (operation_of r (map outline (request_inputs (collection_named collections) means r))) refl
    where
      by : (o : Option Operation) → operation_of r (map outline (request_inputs (collection_named collections) means r)) ≡ o
          → IsValid (option_map_or (λ operation. operated operation (request_inputs (collection_named collections) means r)) o no_datacube)
      by None is = nothing_valid
      by (Some operation) is =
          let named : operation_of r (input_outlines rows nodes r) ≡ Some operation = subst (λ cubes. operation_of r cubes ≡ Some operation) (same_outlines r) is in
          operated_valid operation (request_inputs (collection_named collections) means r)
          (subst (IsSoundOperation operation) (sym (same_outlines r)) (sound r operation e named))
          (inputs_valid collections valid means r below)

  node_valid : (n : PlainNode) → HasSoundOperation rows nodes n → ((other : List ℕ) → Contains (references_named n.arguments) other → IsValid (means other)) → IsValid (node_meaning collections means n)
  node_valid n sound below = by (cube_request_at n) refl
    where
      by : (o : Option CubeRequest) → cube_request_at n ≡ o → IsValid (option_map_or (request_meaning collections means) o no_datacube)
      by None is = nothing_valid
      by (Some r) is = request_valid n r is sound (of_node_request (λ id. IsValid (means id)) n r is below)

  sound_valid : (name : List ℕ) → IsSoundNode rows nodes name → IsValid (means name)
  sound_valid name (sound_node {n = n} is below sound) =
      subst IsValid (sym (meaning_unfolds collections nodes acyclic name n is)) (node_valid n sound (λ other h. sound_valid other (below other h)))

pub are_sound : AreSound
are_sound = record {
  cells = λ collections nodes valid acyclic name sound. (sound_valid collections valid nodes acyclic name sound).cells;
  shape = λ collections nodes valid acyclic name sound. (sound_valid collections valid nodes acyclic name sound).shape;
  counted = λ collections nodes valid acyclic name sound. (sound_valid collections valid nodes acyclic name sound).counted;
}
