-- What the nodes of a graph without a fault mean.
use Rattle.std.proofs.Common.{◌≡◌, ℕ, suc, ◌<◌, List, [], ◌∷◌, map, Contains, Some, None, refl, sym, ap, ◌∙◌, subst, arith}
use Rattle.std.specs.Option.{option_and_then}
use Rattle.oe_dims.specs.declared.dims.DimsRow.{DimsRow}
use Rattle.oe_graph.specs.Printed.{node_count}
use Rattle.oe_graph.specs.References.{references_named}
use Rattle.oe_graph.specs.Tree.{Nodes, PlainNode}
use Rattle.oe_graph.proofs.ResolvedLemmas.{SomeNode, node_below}
use Rattle.oe_order.specs.Graph as order
use Rattle.oe_expr.specs.Nodes.{node_named, id_at}
use Rattle.oe_expr.proofs.NodeLemmas.{id_at_is, contains_node}
use Rattle.oe_check.specs.Checked.{CheckedGraph, AreFaultless, operation_of_node, collection_of_node}
use Rattle.oe_meanings.specs.Graphs.{Collections, collection_named, collection_rows, request_inputs, outline_at, meaning_at, operation_at}
use Rattle.oe_check.specs.Laws.{ReferToCubes, AreCollectionsOf, meaning_of_node, IsCubeOfNode, GiveCubes}
use Rattle.oe_check.specs.Links.{index_referred, links_of, loaded_by, loaded_collection}
use Rattle.oe_meanings.specs.Meaning.{Datacube, operated}
use Rattle.oe_requests.specs.Operations.{Operation}
use Rattle.oe_requests.specs.Requests.{CubeRequest, load_collection, filter_bbox, filter_temporal, filter_bands, apply, apply_kernel, reduce_dimension, aggregate_temporal, aggregate_temporal_period, apply_dimension, merge_cubes, mask, save_result, cube_ids, cube_request_at}
use Rattle.oe_meanings.specs.SoundNodes.{AreAcyclic, IsSoundNode}
use Rattle.oe_check.specs.Walked.{AreResolved, IsNodeOf}
use Rattle.oe_meanings.proofs.GraphLemmas.{unfold_at_nodes, are_sound}
use Rattle.oe_check.proofs.LoadLemmas.{loads_where}
use Rattle.oe_meanings.proofs.OutlineLemmas.{found_without_cells}
use Rattle.oe_check.proofs.ReferenceLemmas.{references_are}
use Rattle.oe_meanings.proofs.RequestLemmas.{found}
use Rattle.oe_check.proofs.LinkLemmas.{object, named_at, referred, index_is, links_arguments}

pub refer : (nodes : Nodes) → AreResolved nodes → (n : PlainNode) → IsNodeOf nodes n → (r : CubeRequest) → cube_request_at n ≡ Some r
    → references_named n.arguments ≡ cube_ids r
refer nodes is n has r asks = references_are _ n r ((object nodes is).each n has) asks

pub refer_to_cubes : ReferToCubes
refer_to_cubes = record { each = refer }

-- ---- the inputs of a node by their indices

pub map_twice : {A : Type 0} (f : ℕ → A) (g : List ℕ → ℕ) (h : List ℕ → A) (names : List (List ℕ))
    → ((name : List ℕ) → Contains names name → f (g name) ≡ h name) → map f (map g names) ≡ map h names
map_twice f g h [] same = refl
map_twice f g h (name ∷ names) same =
    let first : f (g name) ≡ h name = same name (0, omega arith, refl) in
    let rest = map_twice f g h names (λ other has. let below = has.1 in same other (suc has.0, omega arith, has.2)) in
    rw (first, rest) refl

-- what a request works on that loads no collection
pub no_load : {A : Type 0} (collection at : List ℕ → A) (r : CubeRequest) → loaded_by r ≡ None → request_inputs collection at r ≡ map at (cube_ids r)
no_load collection at (load_collection id box time bands) none = absurd cc
no_load collection at (filter_bbox data_id box) none = refl
no_load collection at (filter_temporal data_id time name) none = refl
no_load collection at (filter_bands data_id bands) none = refl
no_load collection at (apply data_id c) none = refl
no_load collection at (apply_kernel data_id kernel factor border replace) none = refl
no_load collection at (reduce_dimension data_id name c) none = refl
no_load collection at (aggregate_temporal data_id intervals name c) none = refl
no_load collection at (aggregate_temporal_period data_id period name c) none = refl
no_load collection at (apply_dimension data_id callback) none = refl
no_load collection at (merge_cubes one two resolver) none = refl
no_load collection at (mask data_id mask_id replacement) none = refl
no_load collection at (save_result data_id format) none = refl

-- and that loads one
a_load : {A : Type 0} (collection at : List ℕ → A) (r : CubeRequest) (id : List ℕ) → loaded_by r ≡ Some id → request_inputs collection at r ≡ collection id ∷ []
a_load collection at (load_collection name box time bands) id e = let same : name ≡ id = cc in ap (λ i. collection i ∷ []) same
a_load collection at (filter_bbox data_id box) id e = absurd cc
a_load collection at (filter_temporal data_id time name) id e = absurd cc
a_load collection at (filter_bands data_id bands) id e = absurd cc
a_load collection at (apply data_id c) id e = absurd cc
a_load collection at (apply_kernel data_id kernel factor border replace) id e = absurd cc
a_load collection at (reduce_dimension data_id name c) id e = absurd cc
a_load collection at (aggregate_temporal data_id intervals name c) id e = absurd cc
a_load collection at (aggregate_temporal_period data_id period name c) id e = absurd cc
a_load collection at (apply_dimension data_id callback) id e = absurd cc
a_load collection at (merge_cubes one two resolver) id e = absurd cc
a_load collection at (mask data_id mask_id replacement) id e = absurd cc
a_load collection at (save_result data_id format) id e = absurd cc

module _ (c : CheckedGraph) (f : AreFaultless c) (collections : Collections) (has : AreCollectionsOf c collections)
    (index : ℕ) (below : index < node_count c.nodes) where
  there : SomeNode c.nodes index
  there = node_below c.nodes index below

  id_there : id_at index c.nodes ≡ there.node.id
  id_there = id_at_is c.nodes index there.node there.is_there

  named : node_named there.node.id c.nodes ≡ Some there.node
  named = named_at c.nodes f.resolved index there.node there.is_there

  sound : IsSoundNode (collection_rows collections) c.nodes there.node.id
  sound =
      subst (λ (rows : List DimsRow). IsSoundNode rows c.nodes there.node.id) (sym has.rows_are)
      (f.sound_cells there.node (contains_node c.nodes index there.node there.is_there))

  acyclic_here : AreAcyclic c.nodes
  acyclic_here = (object c.nodes f.resolved).acyclic

  cube_here : IsCubeOfNode c index (meaning_of_node collections c index)
  cube_here = subst (λ id. IsCubeOfNode c index (meaning_at collections c.nodes id)) (sym id_there) (record {
    outline_is =
        found_without_cells.of_node collections c.nodes there.node.id
        ∙ (ap (λ (rows : List DimsRow). outline_at rows c.nodes there.node.id) has.rows_are
        ∙ ap (outline_at c.rows c.nodes) (sym id_there));
    valid = are_sound.shape collections c.nodes has.valid acyclic_here there.node.id sound;
    counted = are_sound.counted collections c.nodes has.valid acyclic_here there.node.id sound;
    of_kind = are_sound.cells collections c.nodes has.valid acyclic_here there.node.id sound;
  })

  module _ (operation : Operation) (is : operation_of_node c index ≡ Some operation) where
    abbrev inputs : CubeRequest → List Datacube
    inputs r = request_inputs (collection_named collections) (meaning_at collections c.nodes) r

    operation_there : operation_at c.rows c.nodes there.node ≡ Some operation
    operation_there = sym (ap (option_and_then (operation_at c.rows c.nodes)) there.is_there) ∙ is

    request_there : (r : CubeRequest) × (cube_request_at there.node ≡ Some r)
    request_there = let r = found _ (cube_request_at there.node) operation operation_there in (r.0, r.1)

    by_request : (r : CubeRequest) → cube_request_at there.node ≡ Some r → meaning_of_node collections c index ≡ operated operation (inputs r)
    by_request r asks =
        ap (meaning_at collections c.nodes) id_there
        ∙ unfold_at_nodes.operated collections c.nodes acyclic_here there.node.id there.node named r operation asks
        (subst (λ (rows : List DimsRow). operation_at rows c.nodes there.node ≡ Some operation) (sym has.rows_are) operation_there)

    collection_there : (r : CubeRequest) → cube_request_at there.node ≡ Some r → collection_of_node c index ≡ loaded_by r
    collection_there r asks = ap (option_and_then loaded_collection) there.is_there ∙ ap (option_and_then loaded_by) asks

    loaded_here : (id : List ℕ) → collection_of_node c index ≡ Some id
        → meaning_of_node collections c index ≡ operated operation (collection_named collections id ∷ [])
    loaded_here id loads =
        let r = request_there in
        by_request r.0 r.1
        ∙ ap (operated operation)
        (a_load (collection_named collections) (meaning_at collections c.nodes) r.0 id (sym (collection_there r.0 r.1) ∙ loads))

    -- the cube of a reference by its index
    by_index : (name : List ℕ) → Contains (references_named there.node.arguments) name
        → meaning_of_node collections c (index_referred c.nodes name) ≡ meaning_at collections c.nodes name
    by_index name refers =
        let to = referred c.nodes f.resolved index there.node name there.is_there refers in
        let at = index_is c.nodes f.resolved name to in
        ap (λ i. meaning_at collections c.nodes (id_at i c.nodes)) at
        ∙ ap (meaning_at collections c.nodes) (id_at_is c.nodes to.index to.node to.is_there ∙ to.is_named)

    operated_here : collection_of_node c index ≡ None
        → meaning_of_node collections c index
        ≡ operated operation (map (meaning_of_node collections c) (order.arguments (links_of c.nodes) index))
    operated_here none =
        let r = request_there in
        let refs = refer c.nodes f.resolved there.node (contains_node c.nodes index there.node there.is_there) r.0 r.1 in
        let means = meaning_at collections c.nodes in
        by_request r.0 r.1
        ∙ ap (operated operation) (
        no_load (collection_named collections) means r.0 (sym (collection_there r.0 r.1) ∙ none)
        ∙ (ap (map means) (sym refs)
        ∙ (sym (map_twice (meaning_of_node collections c) (index_referred c.nodes) means (references_named there.node.arguments) by_index)
        ∙ ap (map (meaning_of_node collections c)) (sym (links_arguments c.nodes index there.node there.is_there)))))

pub give_cubes : GiveCubes
give_cubes = record {
  loads = loads_where;
  cube = cube_here;
  loaded = loaded_here;
  operated = operated_here;
}
