-- The nodes of a graph without a fault, as far as a time cut goes.
use Rattle.std.proofs.Common.{◌≡◌, ◌<◌, ℕ, zero, suc, true, inl, inr, List, [], ◌∷◌, length, map, Option, Some, None, refl, sym, ap, ◌∙◌, subst, arith}
use Rattle.std.proofs.lemmas.Option.{same_Some}
use Rattle.std.proofs.lemmas.List.{length-map}
use Rattle.std.specs.Option.{option_and_then, option_map}
use Rattle.std.specs.Prelude.{Contains, codes, is_some, slice_get}
use Rattle.oe_plan.proofs.NodeLemmas.{no_early_fault, some_request}
use Rattle.oe_dims.specs.declared.kind.Kind.{Kind}
use Rattle.oe_dims.specs.declared.kind.Kind.TheVariants.{Time}
use Rattle.oe_expr.specs.Callback.{Callback}
use Rattle.oe_expr.specs.Nodes.{node_named}
use Rattle.oe_expr.specs.Scope.{scope_parameters}
use Rattle.oe_expr.proofs.NodeLemmas.{contains_node}
use Rattle.oe_graph.proofs.StateLemmas.{within_nodes}
use Rattle.oe_graph.proofs.ResolvedLemmas.{node_below}
use Rattle.oe_graph.specs.Printed.{node_count}
use Rattle.oe_graph.specs.References.{each_node, references_named}
use Rattle.oe_graph.specs.Resolved.{IsResolvedUnder}
use Rattle.oe_graph.specs.Tree.{PlainNode}
use Rattle.oe_graph.proofs.SearchLemmas.{each_count}
use Rattle.oe_order.specs.Graph.{Reaches, arguments, is_load}
use Rattle.oe_order.proofs.Reach.{IsInRun-within}
use Rattle.oe_meanings.specs.Callbacks.{IsResolvedCallback}
use Rattle.oe_check.specs.Checked.{AreFaultless, CheckedGraph, operation_of_node}
use Rattle.oe_meanings.specs.Graphs.{operation_at, outline_at}
use Rattle.oe_check.specs.Links.{index_referred, link_of, links_of, loaded_by, loaded_collection}
use Rattle.oe_requests.specs.Operations.{Outline, aggregate, callback_under, dimension_named, first_or, no_outline, operation_of, reduce, reduction_scope}
use Rattle.oe_requests.specs.declared.extent.Interval.{Interval}
use Rattle.oe_requests.specs.Requests.{Called, CubeRequest, aggregate_temporal, aggregate_temporal_period, apply_dimension, apply, apply_kernel, cube_ids, filter_bands, filter_bbox, filter_temporal, load_collection, mask, merge_cubes, reduce_dimension, cube_request_at, save_result}
use Rattle.oe_meanings.specs.SoundNodes.{input_outlines}
use Rattle.oe_meanings.specs.Stands.{HasNoFault, IsSound, callback_in, early_rows, sound}
use Rattle.oe_expr.specs.Rows.{first_row}
use Rattle.oe_check.proofs.BuildableLemmas.{buildable, none_holds}
use Rattle.oe_check.proofs.CheckedLemmas.{refer}
use Rattle.oe_check.proofs.LinkLemmas.{index_is, links_arguments, named_at, referred, refers_within}
use Rattle.oe_check.proofs.LoadLemmas.{loads_where}
use Rattle.oe_meanings.proofs.RequestLemmas.{found}
use Rattle.oe_slab.proofs.ApartLemmas.{ComesFrom, onwards_from}

-- ---- what a node asks for

-- an aggregation is no reduction
not_reduced : (intervals : List Interval) (c callback : Callback) → Some (aggregate intervals c) ≡ Some (reduce Time callback) → ⊥
not_reduced intervals c callback e = absurd cc

-- what reduces t was asked to reduce a dimension
reducing : (r : CubeRequest) (cubes : List Outline) (callback : Callback) → operation_of r cubes ≡ Some (reduce Time callback)
    → (data_id : List ℕ) × (name : List ℕ) × (call : Called) × (r ≡ reduce_dimension data_id name call)
reducing (load_collection id box time bands) cubes callback is = absurd cc
reducing (filter_bbox data_id box) cubes callback is = absurd cc
reducing (filter_temporal data_id time name) cubes callback is = absurd cc
reducing (filter_bands data_id bands) cubes callback is = absurd cc
reducing (apply data_id call) cubes callback is = absurd cc
reducing (apply_kernel data_id kernel factor border replace) cubes callback is = absurd cc
reducing (reduce_dimension data_id name call) cubes callback is = (data_id, name, call, refl)
reducing (aggregate_temporal data_id intervals name call) cubes callback is = absurd cc
reducing (aggregate_temporal_period data_id period name call) cubes callback is = absurd (not_reduced _ _ callback is)
reducing (apply_dimension data_id sums) cubes callback is = absurd cc
reducing (merge_cubes one two resolver) cubes callback is = absurd cc
reducing (mask data_id mask_id replacement) cubes callback is = absurd cc
reducing (save_result data_id format) cubes callback is = absurd cc

-- what loads nothing takes a cube
cube_taken : (r : CubeRequest) → loaded_by r ≡ None → (id : List ℕ) × Contains (cube_ids r) id
cube_taken (load_collection id box time bands) e = absurd cc
cube_taken (filter_bbox data_id box) e = (data_id, (0, omega arith, refl))
cube_taken (filter_temporal data_id time name) e = (data_id, (0, omega arith, refl))
cube_taken (filter_bands data_id bands) e = (data_id, (0, omega arith, refl))
cube_taken (apply data_id c) e = (data_id, (0, omega arith, refl))
cube_taken (apply_kernel data_id kernel factor border replace) e = (data_id, (0, omega arith, refl))
cube_taken (reduce_dimension data_id name c) e = (data_id, (0, omega arith, refl))
cube_taken (aggregate_temporal data_id intervals name c) e = (data_id, (0, omega arith, refl))
cube_taken (aggregate_temporal_period data_id period name c) e = (data_id, (0, omega arith, refl))
cube_taken (apply_dimension data_id callback) e = (data_id, (0, omega arith, refl))
cube_taken (merge_cubes one two resolver) e = (one, (0, omega arith, refl))
cube_taken (mask data_id mask_id replacement) e = (data_id, (0, omega arith, refl))
cube_taken (save_result data_id format) e = (data_id, (0, omega arith, refl))

pub mapped : (g : List ℕ → ℕ) (names : List (List ℕ)) (name : List ℕ) → Contains names name → Contains (map g names) (g name)
mapped g [] name has = let under = has.1 in absurd (omega arith)
mapped g (n ∷ names) name (zero, under, e) = (0, omega arith, ap g e)
mapped g (n ∷ names) name (suc k, under, e) =
    let rest = mapped g names name (k, omega arith, e) in
    let below = rest.1 in
    (suc rest.0, omega arith, rest.2)

-- the callback of a reduction of t is the one that was asked for
by_kind : (cube : Outline) (callback : Callback) (call : Called) (kind : Option Kind)
    → option_map (λ k. reduce k (callback_under (reduction_scope k cube) call)) kind ≡ Some (reduce Time callback)
    → IsResolvedUnder true (codes "data" ∷ codes "context" ∷ []) call.graph
    → IsResolvedUnder true (scope_parameters callback.scope) callback.graph
by_kind cube callback call None e resolved = absurd cc
by_kind cube callback call (Some kind) e resolved =
    let both = same_Some _ _ (ap callback_in (same_Some _ _ e)) in
    let same : callback_under (reduction_scope kind cube) call ≡ callback = ap (λ (p : List ℕ × Callback). p.1) both in
    subst (λ (k : Callback). IsResolvedUnder true (scope_parameters k.scope) k.graph) same resolved

-- ---- each node loads, or takes what comes from one that does

module _ (c : CheckedGraph) (f : AreFaultless c) where
  -- it loads where its request does
  loads_here : (index : ℕ) (n : PlainNode) (r : CubeRequest) (id : List ℕ) → slice_get (each_node c.nodes) index ≡ Some n
      → cube_request_at n ≡ Some r → loaded_by r ≡ Some id → is_load (links_of c.nodes) index ≡ true
  loads_here index n r id at asks loads =
      loads_where c f index (within_nodes c.nodes index n at)
      ∙ (ap (λ o. is_some (option_and_then loaded_collection o)) at
      ∙ (ap (λ o. is_some (option_and_then loaded_by o)) asks ∙ ap is_some loads))

  -- what it takes stands at an index
  abbrev pub ComeFrom : List (List ℕ) → Type 0
  ComeFrom names = (name : List ℕ) → Contains names name → (index : ℕ) (n : PlainNode) → slice_get (each_node c.nodes) index ≡ Some n
      → node_named name c.nodes ≡ Some n → ComesFrom (links_of c.nodes) index

  comes_step : (index : ℕ) (n : PlainNode) (r : CubeRequest) → slice_get (each_node c.nodes) index ≡ Some n → cube_request_at n ≡ Some r
      → ComeFrom (references_named n.arguments) → ComesFrom (links_of c.nodes) index
  comes_step index n r at asks below = by (loaded_by r) refl
    where
      by : (o : Option (List ℕ)) → loaded_by r ≡ o → ComesFrom (links_of c.nodes) index
      by (Some id) is = record { load = index; loads = loads_here index n r id at asks is; at = inl refl }
      by None is =
          let taken = cube_taken r is in
          let has : Contains (references_named n.arguments) taken.0 =
          subst (λ names. Contains names taken.0) (sym (refer c.nodes f.resolved n (contains_node c.nodes index n at) r asks)) taken.1 in
          let to = referred c.nodes f.resolved index n taken.0 at has in
          let named : node_named taken.0 c.nodes ≡ Some to.node =
          subst (λ name. node_named name c.nodes ≡ Some to.node) to.is_named (named_at c.nodes f.resolved to.index to.node to.is_there) in
          let argument : Contains (arguments (links_of c.nodes) index) to.index =
          subst (λ xs. Contains xs to.index) (sym (links_arguments c.nodes index n at))
          (subst (λ k. Contains (map (index_referred c.nodes) (references_named n.arguments)) k) (index_is c.nodes f.resolved taken.0 to)
          (mapped (index_referred c.nodes) (references_named n.arguments) taken.0 has)) in
          onwards_from (links_of c.nodes) index to.index argument (below taken.0 has to.index to.node to.is_there named)

  comes : (name : List ℕ) → IsSound c.rows c.nodes name → (index : ℕ) (n : PlainNode) → slice_get (each_node c.nodes) index ≡ Some n
      → node_named name c.nodes ≡ Some n → ComesFrom (links_of c.nodes) index
  comes name (sound {n = m} is below none) index n at named =
      let same : m ≡ n = same_Some m n (sym is ∙ named) in
      let r = some_request c.rows (outline_at c.rows c.nodes) m none in
      comes_step index n r.0 at (subst (λ k. cube_request_at k ≡ Some r.0) same r.1)
      (λ other has i k there called. comes other (below other (subst (λ q. Contains (references_named q.arguments) other) (sym same) has)) i k there called)

  pub comes_from : (index : ℕ) → index < node_count c.nodes → ComesFrom (links_of c.nodes) index
  comes_from index below =
      let there = node_below c.nodes index below in
      comes there.node.id (f.sound there.node (contains_node c.nodes index there.node there.is_there)) index there.node there.is_there
      (named_at c.nodes f.resolved index there.node there.is_there)

  counted : length (links_of c.nodes) ≡ node_count c.nodes
  counted = length-map (each_node c.nodes) (link_of c.nodes) ∙ each_count c.nodes

  -- what a node reaches is a node
  pub reached_below : (a n : ℕ) → a < node_count c.nodes → Reaches (links_of c.nodes) a n → n < node_count c.nodes
  reached_below a n below path =
      subst (λ k. n < k) counted
      (IsInRun-within (links_of c.nodes) a n (refers_within c.nodes f.resolved) (subst (λ k. a < k) (sym counted) below) (inr path))

  -- ---- a reduction of t has a resolved callback

  no_fault_at : (name : List ℕ) (n : PlainNode) → IsSound c.rows c.nodes name → node_named name c.nodes ≡ Some n
      → HasNoFault c.rows (outline_at c.rows c.nodes) n
  no_fault_at name n (sound {n = m} is below none) named =
      subst (HasNoFault c.rows (outline_at c.rows c.nodes)) (same_Some m n (sym is ∙ named)) none

  resolved_at : (n : PlainNode) (index : ℕ) → slice_get (each_node c.nodes) index ≡ Some n → (callback : Callback)
      → (data_id name : List ℕ) (call : Called) → let r = reduce_dimension data_id name call in
      cube_request_at n ≡ Some r → operation_of r (input_outlines c.rows c.nodes r) ≡ Some (reduce Time callback)
      → first_row (early_rows c.rows r (input_outlines c.rows c.nodes r)) ≡ None
      → IsResolvedUnder true (scope_parameters callback.scope) callback.graph
  resolved_at n index at callback data_id name call asks is clean =
      let r : CubeRequest = reduce_dimension data_id name call in
      let built : IsResolvedCallback (codes "data" ∷ codes "context" ∷ []) call = buildable c.nodes f.resolved n (contains_node c.nodes index n at) r (input_outlines c.rows c.nodes r) asks
      (none_holds c.rows r (input_outlines c.rows c.nodes r) clean) tt in
      by_kind (first_or no_outline (input_outlines c.rows c.nodes r)) callback call (dimension_named name) is built.resolved

  resolved_by : (n : PlainNode) (index : ℕ) → slice_get (each_node c.nodes) index ≡ Some n → (callback : Callback) (r : CubeRequest)
      → cube_request_at n ≡ Some r → operation_of r (input_outlines c.rows c.nodes r) ≡ Some (reduce Time callback)
      → first_row (early_rows c.rows r (input_outlines c.rows c.nodes r)) ≡ None
      → IsResolvedUnder true (scope_parameters callback.scope) callback.graph
  resolved_by n index at callback r asks is clean =
      let d = reducing r (input_outlines c.rows c.nodes r) callback is in
      resolved_at n index at callback d.0 d.1 d.2 (asks ∙ ap Some d.3)
      (subst (λ q. operation_of q (input_outlines c.rows c.nodes q) ≡ Some (reduce Time callback)) d.3 is)
      (subst (λ q. first_row (early_rows c.rows q (input_outlines c.rows c.nodes q)) ≡ None) d.3 clean)

  pub resolved_there : (index : ℕ) → index < node_count c.nodes → (callback : Callback)
      → operation_of_node c index ≡ Some (reduce Time callback) → IsResolvedUnder true (scope_parameters callback.scope) callback.graph
  resolved_there index below callback is =
      let there = node_below c.nodes index below in
      let here : operation_at c.rows c.nodes there.node ≡ Some (reduce Time callback) =
      sym (ap (option_and_then (operation_at c.rows c.nodes)) there.is_there) ∙ is in
      let r = found (λ q. operation_of q (input_outlines c.rows c.nodes q)) (cube_request_at there.node) (reduce Time callback) here in
      let clean = no_fault_at there.node.id there.node (f.sound there.node (contains_node c.nodes index there.node there.is_there))
      (named_at c.nodes f.resolved index there.node there.is_there) in
      resolved_by there.node index there.is_there callback r.0 r.1 r.2
      (no_early_fault c.rows (outline_at c.rows c.nodes) there.node r.0 r.1 clean)
