-- The shape and the kind of a cube are found without cells.
use Rattle.std.proofs.Common.{◌≡◌, ℕ, zero, suc, ◌∷◌, [], List, Bool, true, false, Option, Some, None, refl, sym, ap, ◌∙◌, map}
use Rattle.std.specs.Option.{option_map_or}
use Rattle.oe_cell.specs.declared.cell.Cell.{Cell}
use Rattle.oe_dims.specs.Cube.{Cube}
use Rattle.oe_dims.specs.Dimensions.{Dimensions}
use Rattle.oe_dims.specs.Names.{same_name}
use Rattle.oe_dims.specs.declared.kind.CellKind.{CellKind}
use Rattle.oe_graph.specs.Printed.{node_count}
use Rattle.oe_graph.specs.Tree.{Nodes, PlainNode}
use Rattle.oe_expr.specs.Nodes.{node_named, within_turns, down_from}
use Rattle.oe_requests.specs.Extents.{shape_of_restriction}
use Rattle.oe_meanings.specs.Graphs.{Collections, no_datacube, collection_named, outline_named, collection_rows, request_inputs, request_outline, node_outline, outline_at, request_meaning, node_meaning, meaning_at}
use Rattle.oe_requests.specs.Labels.{shape_of_merge}
use Rattle.oe_meanings.specs.Laws.{AreFoundWithoutCells}
use Rattle.oe_meanings.specs.Meaning.{Datacube, no_cube, cube_of, operated, outline}
use Rattle.oe_requests.specs.Operations.{Operation, keep, each_cell, convolve, reduce, aggregate, accumulate, merge, cover, give_back, Outline, no_outline, no_dimensions, first_or, second_or, without_dimension, shape_of_aggregation, shape_of, operation_kind, outline_of, operation_of}
use Rattle.oe_requests.specs.Requests.{CubeRequest, load_collection, filter_bbox, filter_temporal, filter_bands, apply, apply_kernel, reduce_dimension, aggregate_temporal, aggregate_temporal_period, apply_dimension, merge_cubes, mask, save_result, cube_request_at}

-- ---- one operation

first_map : {A B : Type 0} (f : A → B) (other : A) (things : List A) → f (first_or other things) ≡ first_or (f other) (map f things)
first_map f other [] = cc
first_map f other (a ∷ things) = refl

second_map : {A B : Type 0} (f : A → B) (other : A) (things : List A) → f (second_or other things) ≡ second_or (f other) (map f things)
second_map f other [] = refl
second_map f other (a ∷ []) = refl
second_map f other (a ∷ b ∷ things) = refl

abbrev the_shape : Cube Cell → Dimensions
the_shape cube = cube.shape

-- the shape of what an operation gives
shape_given : (operation : Operation) (cubes : List (Cube Cell)) → (cube_of operation cubes).shape ≡ shape_of operation (map the_shape cubes)
shape_given (keep r) cubes = ap (shape_of_restriction r) (first_map the_shape no_cube cubes)
shape_given (each_cell c) cubes = first_map the_shape no_cube cubes
shape_given (convolve kernel factor border replace) cubes = first_map the_shape no_cube cubes
shape_given (reduce kind c) cubes = ap (without_dimension kind) (first_map the_shape no_cube cubes)
shape_given (aggregate intervals c) cubes = ap (shape_of_aggregation intervals) (first_map the_shape no_cube cubes)
shape_given (accumulate ignore) cubes = first_map the_shape no_cube cubes
shape_given (merge resolver) cubes =
    ap (λ d. shape_of_merge d (second_or no_cube cubes).shape) (first_map the_shape no_cube cubes)
    ∙ ap (shape_of_merge (first_or no_dimensions (map the_shape cubes))) (second_map the_shape no_cube cubes)
shape_given (cover replacement) cubes = first_map the_shape no_cube cubes
shape_given give_back cubes = first_map the_shape no_cube cubes

map_map : {A B C : Type 0} (g : B → C) (f : A → B) (things : List A) → map g (map f things) ≡ map (λ a. g (f a)) things
map_map g f [] = refl
map_map g f (a ∷ things) = ap (λ rest. g (f a) ∷ rest) (map_map g f things)

pub outline_given : (operation : Operation) (inputs : List Datacube) → outline (operated operation inputs) ≡ outline_of operation (map outline inputs)
outline_given operation inputs =
    let shapes : map the_shape (map (λ (d : Datacube). d.cube) inputs) ≡ map (λ (o : Outline). o.shape) (map outline inputs)
    = map_map the_shape (λ (d : Datacube). d.cube) inputs ∙ sym (map_map (λ (o : Outline). o.shape) outline inputs) in
    let kinds : map (λ (d : Datacube). d.kind) inputs ≡ map (λ (o : Outline). o.kind) (map outline inputs)
    = sym (map_map (λ (o : Outline). o.kind) outline inputs) in
    let cubes = map (λ (d : Datacube). d.cube) inputs in
    let given_kind = operation_kind operation (map (λ (d : Datacube). d.kind) inputs) in
    ap (λ (d : Dimensions). record { shape = d; kind = given_kind }) (shape_given operation cubes ∙ ap (shape_of operation) shapes)
    ∙ ap (λ (k : CellKind). record { shape = shape_of operation (map (λ (o : Outline). o.shape) (map outline inputs)); kind = k }) (ap (operation_kind operation) kinds)

-- ---- collections

abbrev found_or : {A B : Type 0} → (A → B) → B → Option A → B
found_or f other found = option_map_or f found other

outline_named_is : (collections : Collections) (id : List ℕ) → outline (collection_named collections id) ≡ outline_named (collection_rows collections) id
outline_named_is [] id = refl
outline_named_is (c ∷ collections) id = by (same_name c.0 id) refl (outline_named_is collections id)
  where
    by : (b : Bool) → same_name c.0 id ≡ b → outline (collection_named collections id) ≡ outline_named (collection_rows collections) id
        → outline (collection_named (c ∷ collections) id) ≡ outline_named (collection_rows (c ∷ collections)) id
    by true is rest = rw is refl
    by false is rest = rw is rest

-- ---- graphs

module _ (collections : Collections) where
  pub inputs_outlined : (at : List ℕ → Datacube) (to : List ℕ → Outline) → ((id : List ℕ) → outline (at id) ≡ to id)
      → (r : CubeRequest) → map outline (request_inputs (collection_named collections) at r) ≡ request_inputs (outline_named (collection_rows collections)) to r
  inputs_outlined at to same (load_collection id box time bands) = ap (λ o. o ∷ []) (outline_named_is collections id)
  inputs_outlined at to same (filter_bbox data_id box) = ap (λ o. o ∷ []) (same data_id)
  inputs_outlined at to same (filter_temporal data_id time name) = ap (λ o. o ∷ []) (same data_id)
  inputs_outlined at to same (filter_bands data_id bands) = ap (λ o. o ∷ []) (same data_id)
  inputs_outlined at to same (apply data_id c) = ap (λ o. o ∷ []) (same data_id)
  inputs_outlined at to same (apply_kernel data_id kernel factor border replace) = ap (λ o. o ∷ []) (same data_id)
  inputs_outlined at to same (reduce_dimension data_id name c) = ap (λ o. o ∷ []) (same data_id)
  inputs_outlined at to same (aggregate_temporal data_id intervals name c) = ap (λ o. o ∷ []) (same data_id)
  inputs_outlined at to same (aggregate_temporal_period data_id period name c) = ap (λ o. o ∷ []) (same data_id)
  inputs_outlined at to same (apply_dimension data_id callback) = ap (λ o. o ∷ []) (same data_id)
  inputs_outlined at to same (merge_cubes one two resolver) = ap (λ o. o ∷ outline (at two) ∷ []) (same one) ∙ ap (λ o. to one ∷ o ∷ []) (same two)
  inputs_outlined at to same (mask data_id mask_id replacement) = ap (λ o. o ∷ outline (at mask_id) ∷ []) (same data_id) ∙ ap (λ o. to data_id ∷ o ∷ []) (same mask_id)
  inputs_outlined at to same (save_result data_id format) = ap (λ o. o ∷ []) (same data_id)

  operated_or : (o : Option Operation) (inputs : List Datacube)
      → outline (option_map_or (λ operation. operated operation inputs) o no_datacube) ≡ option_map_or (λ operation. outline_of operation (map outline inputs)) o no_outline
  operated_or None inputs = refl
  operated_or (Some operation) inputs = outline_given operation inputs

  abbrev outlined_from : CubeRequest → List Outline → Outline
  outlined_from r cubes = option_map_or (λ operation. outline_of operation cubes) (operation_of r cubes) no_outline

  module _ (at : List ℕ → Datacube) (to : List ℕ → Outline) (same : (id : List ℕ) → outline (at id) ≡ to id) where
    request_outlined : (r : CubeRequest) → outline (request_meaning collections at r) ≡ request_outline (collection_rows collections) to r
    request_outlined r =
        let inputs = request_inputs (collection_named collections) at r in
        operated_or (operation_of r (map outline inputs)) inputs ∙ ap (outlined_from r) (inputs_outlined at to same r)

    requested_or : (o : Option CubeRequest)
        → outline (option_map_or (request_meaning collections at) o no_datacube) ≡ option_map_or (request_outline (collection_rows collections) to) o no_outline
    requested_or None = refl
    requested_or (Some r) = request_outlined r

    node_outlined : (n : PlainNode) → outline (node_meaning collections at n) ≡ node_outline (collection_rows collections) to n
    node_outlined n = requested_or (cube_request_at n)

    there_or : (o : Option PlainNode)
        → outline (option_map_or (node_meaning collections at) o no_datacube) ≡ option_map_or (node_outline (collection_rows collections) to) o no_outline
    there_or None = refl
    there_or (Some n) = node_outlined n

  within_outlined : (nodes : Nodes) (turns : ℕ) (name : List ℕ)
      → outline (within_turns turns no_datacube (node_meaning collections) nodes name) ≡ within_turns turns no_outline (node_outline (collection_rows collections)) nodes name
  within_outlined nodes zero name = refl
  within_outlined nodes (suc turns) name =
      there_or (within_turns turns no_datacube (node_meaning collections) nodes) (within_turns turns no_outline (node_outline (collection_rows collections)) nodes)
      (within_outlined nodes turns) (node_named name nodes)

  pub at_outlined : (nodes : Nodes) (name : List ℕ) → outline (meaning_at collections nodes name) ≡ outline_at (collection_rows collections) nodes name
  unfolding down_from
  at_outlined nodes name = within_outlined nodes (node_count nodes) name

pub found_without_cells : AreFoundWithoutCells
found_without_cells = record { of_operation = outline_given; of_node = at_outlined }
