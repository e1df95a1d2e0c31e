-- The nodes that a request names are those that the arguments of its node refer to.
use Rattle.std.proofs.Common.{◌≡◌, ℕ, Bool, true, false, List, [], ◌∷◌, map, Option, Some, None, refl, sym, ap, ◌∙◌, subst, Contains, if◌then◌else◌}
use Rattle.std.specs.Prelude.{⊤, codes}
use Rattle.std.specs.Option.{option_map, option_and_then, option_map_or}
use Rattle.std.proofs.lemmas.List.Elements.{Contains-push, Contains-append_left, Contains-append_right}
use Rattle.oe_dims.specs.Names.{same_name}
use Rattle.oe_graph.specs.References.{argument_named, references_in, references_named}
use Rattle.oe_graph.specs.Tree as tree
use Rattle.oe_graph.specs.Tree.{Argument, Named, PlainNode, PlainGraph}
use Rattle.oe_expr.specs.Nodes.{LooksDown}
use Rattle.oe_expr.specs.Requests.{with_both, read, is_null, passes, where_passed}
use Rattle.oe_dims.specs.declared.dims.DimsRow.{DimsRow}
use Rattle.oe_meanings.specs.Graphs.{Collections, no_datacube, collection_named, outline_named, request_inputs, request_outline, node_outline, request_meaning, node_meaning}
use Rattle.oe_meanings.specs.Meaning.{Datacube, operated, outline}
use Rattle.oe_requests.specs.Operations.{Outline, no_outline, operation_of, outline_of}
use Rattle.oe_requests.specs.Parameters.{cube_in, callback_in, text_in, is_time_name, period_in, number_in, literal_in, box_in, extent_in, bands_in, some_bands_in, kernel_in, border_in, null_or, is_empty_list, is_empty_object, is_null_or_empty_object}
use Rattle.oe_requests.specs.declared.process.CubeProcess.{CubeProcess}
use Rattle.oe_requests.specs.declared.process.CubeProcess.TheVariants.{AggregateTemporal, AggregateTemporalPeriod, Apply, ApplyDimension, ApplyKernel, FilterBands, FilterBbox, FilterTemporal, LoadCollection, Mask, MergeCubes, ReduceDimension, SaveResult}
use Rattle.oe_requests.specs.Requests.{cube_process_named, called, CubeRequest, load_collection, filter_bbox, filter_temporal, filter_bands, apply, apply_kernel, reduce_dimension, aggregate_temporal, aggregate_temporal_period, apply_dimension, merge_cubes, mask, save_result, cube_ids, called_in, intervals_in, resolver_in, cube_request_of, cube_request_at}

-- ---- readers that found something

pub found : {A B : Type 0} (f : A → Option B) (o : Option A) (b : B) → option_and_then f o ≡ Some b → (a : A) × (o ≡ Some a) × (f a ≡ Some b)
found f None b e = absurd cc
found f (Some a) b e = (a, refl, e)

pub both_found : {A B C : Type 0} (f : A → B → C) (o : Option A) (p : Option B) (c : C) → with_both f o p ≡ Some c → (a : A) × (b : B) × (o ≡ Some a) × (p ≡ Some b) × (f a b ≡ c)
both_found f None p c e = absurd cc
both_found f (Some a) None c e = absurd cc
both_found f (Some a) (Some b) c e = (a, b, refl, refl, cc)

pub passed : {A : Type 0} (b : Bool) (o : Option A) (a : A) → where_passed b o ≡ Some a → o ≡ Some a
passed true o a e = e
passed false o a e = absurd cc

-- ---- what is referred to

is_cube : (a : Argument) (id : List ℕ) → cube_in a ≡ Some id → a ≡ tree.from_node id
is_cube tree.null id e = absurd cc
is_cube (tree.flag b) id e = absurd cc
is_cube (tree.whole z) id e = absurd cc
is_cube tree.inexact id e = absurd cc
is_cube (tree.text s) id e = absurd cc
is_cube (tree.list rest) id e = absurd cc
is_cube (tree.object ms) id e = absurd cc
is_cube (tree.from_node name) id e = let same : name ≡ id = cc in ap tree.from_node same
is_cube (tree.from_parameter name) id e = absurd cc
is_cube (tree.callback ns result) id e = absurd cc

referred_there : (name : List ℕ) (given : Named) (id : List ℕ) → argument_named name given ≡ Some (tree.from_node id) → Contains (references_named given) id
referred_there name tree.no_named id e = absurd cc
referred_there name (tree.named k a rest) id e = by (same_name k name) e (referred_there name rest id)
  where
    by : (b : Bool) → (if b then Some a else argument_named name rest) ≡ Some (tree.from_node id)
        → (argument_named name rest ≡ Some (tree.from_node id) → Contains (references_named rest) id) → Contains (references_named (tree.named k a rest)) id
    by true e later =
        let same : a ≡ tree.from_node id = cc in
        Contains-append_left (references_in a) (references_named rest) id (subst (λ r. Contains (references_in r) id) (sym same) (Contains-push [] id))
    by false e later = Contains-append_right (references_in a) (references_named rest) id (later e)

-- ---- each node that a request names

abbrev pub EachOf : (List ℕ → Type 0) → List (List ℕ) → Type 0
EachOf P [] = ⊤
EachOf P (id ∷ ids) = P id × EachOf P ids

module _ (P : List ℕ → Type 0) (given : Named) (all : (id : List ℕ) → Contains (references_named given) id → P id) where
  of_cube : (name id : List ℕ) → read cube_in name given ≡ Some id → P id
  of_cube name id e =
      let a = found cube_in (argument_named name given) id e in
      all id (referred_there name given id (subst (λ x. argument_named name given ≡ Some x) (is_cube a.0 id a.2) a.1))

  abbrev Each : CubeRequest → Type 0
  Each r = EachOf P (cube_ids r)

  of_load : (r : CubeRequest) → cube_request_of LoadCollection given ≡ Some r → Each r
  of_load r e =
      let p = passed (passes is_null_or_empty_object (codes "properties") given) _ r e in
      let id = found _ (read text_in (codes "id") given) r p in
      let box = found _ (read (null_or box_in) (codes "spatial_extent") given) r id.2 in
      let rest = both_found (load_collection id.0 box.0) (read (null_or extent_in) (codes "temporal_extent") given) (read (null_or some_bands_in) (codes "bands") given) r box.2 in
      subst Each rest.4 tt

  of_filter_bbox : (r : CubeRequest) → cube_request_of FilterBbox given ≡ Some r → Each r
  of_filter_bbox r e =
      let b = both_found filter_bbox (read cube_in (codes "data") given) (read box_in (codes "extent") given) r e in
      subst Each b.4 (of_cube (codes "data") b.0 b.2, tt)

  of_filter_temporal : (r : CubeRequest) → cube_request_of FilterTemporal given ≡ Some r → Each r
  of_filter_temporal r e =
      let d = found _ (read cube_in (codes "data") given) r e in
      let b = both_found (filter_temporal d.0) (read extent_in (codes "extent") given) (read (null_or text_in) (codes "dimension") given) r d.2 in
      subst Each b.4 (of_cube (codes "data") d.0 d.1, tt)

  of_filter_bands : (r : CubeRequest) → cube_request_of FilterBands given ≡ Some r → Each r
  of_filter_bands r e =
      let p = passed (passes is_empty_list (codes "wavelengths") given) _ r e in
      let b = both_found filter_bands (read cube_in (codes "data") given) (read bands_in (codes "bands") given) r p in
      subst Each b.4 (of_cube (codes "data") b.0 b.2, tt)

  of_apply : (r : CubeRequest) → cube_request_of Apply given ≡ Some r → Each r
  of_apply r e =
      let b = both_found apply (read cube_in (codes "data") given) (called_in (codes "process") given) r e in
      subst Each b.4 (of_cube (codes "data") b.0 b.2, tt)

  of_apply_kernel : (r : CubeRequest) → cube_request_of ApplyKernel given ≡ Some r → Each r
  of_apply_kernel r e =
      let d = found _ (read cube_in (codes "data") given) r e in
      let k = found _ (read kernel_in (codes "kernel") given) r d.2 in
      let f = found _ (read number_in (codes "factor") given) r k.2 in
      let b = both_found (apply_kernel d.0 k.0 f.0) (read border_in (codes "border") given) (read number_in (codes "replace_invalid") given) r f.2 in
      subst Each b.4 (of_cube (codes "data") d.0 d.1, tt)

  of_reduce : (r : CubeRequest) → cube_request_of ReduceDimension given ≡ Some r → Each r
  of_reduce r e =
      let d = found _ (read cube_in (codes "data") given) r e in
      let b = both_found (reduce_dimension d.0) (read text_in (codes "dimension") given) (called_in (codes "reducer") given) r d.2 in
      subst Each b.4 (of_cube (codes "data") d.0 d.1, tt)

  of_aggregate : (r : CubeRequest) → cube_request_of AggregateTemporal given ≡ Some r → Each r
  of_aggregate r e =
      let d = found _ (read cube_in (codes "data") given) r e in
      let i = found _ (intervals_in given) r d.2 in
      let b = both_found (aggregate_temporal d.0 i.0) (read (null_or text_in) (codes "dimension") given) (called_in (codes "reducer") given) r i.2 in
      subst Each b.4 (of_cube (codes "data") d.0 d.1, tt)

  of_period : (r : CubeRequest) → cube_request_of AggregateTemporalPeriod given ≡ Some r → Each r
  of_period r e =
      let d = found _ (read cube_in (codes "data") given) r e in
      let p = found _ (read period_in (codes "period") given) r d.2 in
      let b = both_found (aggregate_temporal_period d.0 p.0) (read (null_or text_in) (codes "dimension") given) (called_in (codes "reducer") given) r p.2 in
      subst Each b.4 (of_cube (codes "data") d.0 d.1, tt)

  of_dimension : (r : CubeRequest) → cube_request_of ApplyDimension given ≡ Some r → Each r
  of_dimension r e =
      let t = passed (passes is_time_name (codes "dimension") given) _ r e in
      let u = passed (passes is_null (codes "target_dimension") given) _ r t in
      let c = found _ (read literal_in (codes "context") given) r u in
      let b = both_found apply_dimension (read cube_in (codes "data") given) (read callback_in (codes "process") given) r c.2 in
      subst Each b.4 (of_cube (codes "data") b.0 b.2, tt)

  of_merge : (r : CubeRequest) → cube_request_of MergeCubes given ≡ Some r → Each r
  of_merge r e =
      let one = found _ (read cube_in (codes "cube1") given) r e in
      let b = both_found (merge_cubes one.0) (read cube_in (codes "cube2") given) (resolver_in given) r one.2 in
      subst Each b.4 (of_cube (codes "cube1") one.0 one.1, (of_cube (codes "cube2") b.0 b.2, tt))

  of_mask : (r : CubeRequest) → cube_request_of Mask given ≡ Some r → Each r
  of_mask r e =
      let d = found _ (read cube_in (codes "data") given) r e in
      let b = both_found (mask d.0) (read cube_in (codes "mask") given) (read literal_in (codes "replacement") given) r d.2 in
      subst Each b.4 (of_cube (codes "data") d.0 d.1, (of_cube (codes "mask") b.0 b.2, tt))

  of_save : (r : CubeRequest) → cube_request_of SaveResult given ≡ Some r → Each r
  of_save r e =
      let p = passed (passes is_empty_object (codes "options") given) _ r e in
      let b = both_found save_result (read cube_in (codes "data") given) (read text_in (codes "format") given) r p in
      subst Each b.4 (of_cube (codes "data") b.0 b.2, tt)

  of_request : (process : CubeProcess) (r : CubeRequest) → cube_request_of process given ≡ Some r → Each r
  of_request AggregateTemporal r e = of_aggregate r e
  of_request AggregateTemporalPeriod r e = of_period r e
  of_request Apply r e = of_apply r e
  of_request ApplyDimension r e = of_dimension r e
  of_request ApplyKernel r e = of_apply_kernel r e
  of_request FilterBands r e = of_filter_bands r e
  of_request FilterBbox r e = of_filter_bbox r e
  of_request FilterTemporal r e = of_filter_temporal r e
  of_request LoadCollection r e = of_load r e
  of_request Mask r e = of_mask r e
  of_request MergeCubes r e = of_merge r e
  of_request ReduceDimension r e = of_reduce r e
  of_request SaveResult r e = of_save r e

-- what holds of the nodes that a node refers to holds of those that its request names
pub of_node_request : (P : List ℕ → Type 0) (n : PlainNode) (r : CubeRequest) → cube_request_at n ≡ Some r
    → ((id : List ℕ) → Contains (references_named n.arguments) id → P id) → EachOf P (cube_ids r)
of_node_request P n r e all =
    let process = found _ (cube_process_named n.process_id) r e in of_request P n.arguments all process.0 r process.2

-- ---- the steps of the recursions look down alone

same_inputs : {A : Type 0} (collection f g : List ℕ → A) (r : CubeRequest) → EachOf (λ id. f id ≡ g id) (cube_ids r) → request_inputs collection f r ≡ request_inputs collection g r
same_inputs collection f g (load_collection id box time bands) h = refl
same_inputs collection f g (filter_bbox data_id box) h = ap (λ a. a ∷ []) h.0
same_inputs collection f g (filter_temporal data_id time name) h = ap (λ a. a ∷ []) h.0
same_inputs collection f g (filter_bands data_id bands) h = ap (λ a. a ∷ []) h.0
same_inputs collection f g (apply data_id c) h = ap (λ a. a ∷ []) h.0
same_inputs collection f g (apply_kernel data_id kernel factor border replace) h = ap (λ a. a ∷ []) h.0
same_inputs collection f g (reduce_dimension data_id name c) h = ap (λ a. a ∷ []) h.0
same_inputs collection f g (aggregate_temporal data_id intervals name c) h = ap (λ a. a ∷ []) h.0
same_inputs collection f g (aggregate_temporal_period data_id period name c) h = ap (λ a. a ∷ []) h.0
same_inputs collection f g (apply_dimension data_id callback) h = ap (λ a. a ∷ []) h.0
same_inputs collection f g (merge_cubes one two resolver) h = ap (λ a. a ∷ f two ∷ []) h.0 ∙ ap (λ a. g one ∷ a ∷ []) h.1.0
same_inputs collection f g (mask data_id mask_id replacement) h = ap (λ a. a ∷ f mask_id ∷ []) h.0 ∙ ap (λ a. g data_id ∷ a ∷ []) h.1.0
same_inputs collection f g (save_result data_id format) h = ap (λ a. a ∷ []) h.0

abbrev outline_on : CubeRequest → List Outline → Outline
outline_on r inputs = option_map_or (λ operation. outline_of operation inputs) (operation_of r inputs) no_outline

abbrev meaning_on : CubeRequest → List Datacube → Datacube
meaning_on r inputs = option_map_or (λ operation. operated operation inputs) (operation_of r (map outline inputs)) no_datacube

pub outline_looks_down : (rows : List DimsRow) → LooksDown (node_outline rows)
outline_looks_down rows n f g h = by (cube_request_at n) refl
  where
    by : (o : Option CubeRequest) → cube_request_at n ≡ o → option_map_or (request_outline rows f) o no_outline ≡ option_map_or (request_outline rows g) o no_outline
    by None is = refl
    by (Some r) is = ap (outline_on r) (same_inputs (outline_named rows) f g r (of_node_request (λ id. f id ≡ g id) n r is h))

pub meaning_looks_down : (collections : Collections) → LooksDown (node_meaning collections)
meaning_looks_down collections n f g h = by (cube_request_at n) refl
  where
    by : (o : Option CubeRequest) → cube_request_at n ≡ o → option_map_or (request_meaning collections f) o no_datacube ≡ option_map_or (request_meaning collections g) o no_datacube
    by None is = refl
    by (Some r) is = ap (meaning_on r) (same_inputs (collection_named collections) f g r (of_node_request (λ id. f id ≡ g id) n r is h))
