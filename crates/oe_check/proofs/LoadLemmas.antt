-- The links of a node say that it loads a collection exactly where it has one.
use Rattle.std.proofs.Common.{◌≡◌, ℕ, zero, suc, ◌<◌, List, [], ◌∷◌, map, slice_get, Option, Some, None, refl, sym, ap, ◌∙◌, codes}
use Rattle.std.specs.Option.{option_and_then}
use Rattle.std.specs.Prelude.{is_some}
use Rattle.oe_dims.specs.Names.{same_name}
use Rattle.oe_graph.specs.Printed.{node_count}
use Rattle.oe_graph.specs.References.{each_node}
use Rattle.oe_graph.specs.Tree.{Named, PlainNode}
use Rattle.oe_graph.specs.declared.code.Code.TheVariants.{ProcessParameterInvalid}
use Rattle.oe_graph.proofs.ResolvedLemmas.{node_below}
use Rattle.oe_order.specs.Graph as order
use Rattle.oe_expr.proofs.NodeLemmas.{contains_node}
use Rattle.oe_expr.specs.Requests.{read, is_null, passes}
use Rattle.oe_check.specs.Checked.{CheckedGraph, AreFaultless, collection_of_node}
use Rattle.oe_check.specs.Links.{link_of, links_of, loaded_by, loaded_collection}
use Rattle.oe_requests.specs.Parameters.{cube_in, callback_in, text_in, is_time_name, period_in, number_in, literal_in, box_in, extent_in, bands_in, some_bands_in, kernel_in, border_in, null_or, is_empty_list, is_empty_object, is_null_or_empty_object}
use Rattle.oe_requests.specs.Requests.{cube_processes, cube_process_named, CubeRequest, load_collection, filter_bbox, filter_temporal, filter_bands, apply, apply_kernel, reduce_dimension, aggregate_temporal, aggregate_temporal_period, apply_dimension, merge_cubes, mask, save_result, called_in, intervals_in, resolver_in, cube_request_of, cube_request_at}
use Rattle.oe_meanings.specs.Stands.{IsSound, sound, asks_for_nothing}
use Rattle.oe_requests.specs.declared.process.CubeProcess.{CubeProcess}
use Rattle.oe_requests.specs.declared.process.CubeProcess.TheVariants.{AggregateTemporal, AggregateTemporalPeriod, Apply, ApplyDimension, ApplyKernel, FilterBands, FilterBbox, FilterTemporal, LoadCollection, Mask, MergeCubes, ReduceDimension, SaveResult}
use Rattle.oe_check.proofs.LinkLemmas.{one_node}
use Rattle.oe_check.proofs.ReferenceLemmas.{id_of, id_is, all_named, passed_so}
use Rattle.oe_meanings.proofs.RequestLemmas.{found, both_found}

-- the request of a process loads a collection where the process is the one that does
loads_by : (process : CubeProcess) (given : Named) (r : CubeRequest) → cube_request_of process given ≡ Some r
    → is_some (loaded_by r) ≡ same_name (id_of process) (codes "load_collection")
loads_by AggregateTemporal given r e =
    let d = found _ (read cube_in (codes "data") given) r e in
    let i = found _ (intervals_in given) r d.2 in
    let b = both_found (aggregate_temporal d.0 i.0) (read (null_or text_in) (codes "dimension") given) (called_in (codes "reducer") given) r i.2 in
    ap (λ q. is_some (loaded_by q)) (sym b.4)
loads_by AggregateTemporalPeriod given r e =
    let d = found _ (read cube_in (codes "data") given) r e in
    let p = found _ (read period_in (codes "period") given) r d.2 in
    let b = both_found (aggregate_temporal_period d.0 p.0) (read (null_or text_in) (codes "dimension") given) (called_in (codes "reducer") given) r p.2 in
    ap (λ q. is_some (loaded_by q)) (sym b.4)
loads_by Apply given r e =
    let b = both_found apply (read cube_in (codes "data") given) (called_in (codes "process") given) r e in
    ap (λ q. is_some (loaded_by q)) (sym b.4)
loads_by ApplyDimension given r e =
    let t = passed_so (passes is_time_name (codes "dimension") given) _ r e in
    let u = passed_so (passes is_null (codes "target_dimension") given) _ r t.1 in
    let c = found _ (read literal_in (codes "context") given) r u.1 in
    let b = both_found apply_dimension (read cube_in (codes "data") given) (read callback_in (codes "process") given) r c.2 in
    ap (λ q. is_some (loaded_by q)) (sym b.4)
loads_by ApplyKernel given r e =
    let d = found _ (read cube_in (codes "data") given) r e in
    let k = found _ (read kernel_in (codes "kernel") given) r d.2 in
    let f = found _ (read number_in (codes "factor") given) r k.2 in
    let b = both_found (apply_kernel d.0 k.0 f.0) (read border_in (codes "border") given) (read number_in (codes "replace_invalid") given) r f.2 in
    ap (λ q. is_some (loaded_by q)) (sym b.4)
loads_by FilterBands given r e =
    let p = passed_so (passes is_empty_list (codes "wavelengths") given) _ r e in
    let b = both_found filter_bands (read cube_in (codes "data") given) (read bands_in (codes "bands") given) r p.1 in
    ap (λ q. is_some (loaded_by q)) (sym b.4)
loads_by FilterBbox given r e =
    let b = both_found filter_bbox (read cube_in (codes "data") given) (read box_in (codes "extent") given) r e in
    ap (λ q. is_some (loaded_by q)) (sym b.4)
loads_by FilterTemporal given r e =
    let d = found _ (read cube_in (codes "data") given) r e in
    let b = both_found (filter_temporal d.0) (read extent_in (codes "extent") given) (read (null_or text_in) (codes "dimension") given) r d.2 in
    ap (λ q. is_some (loaded_by q)) (sym b.4)
loads_by LoadCollection given r e =
    let p = passed_so (passes is_null_or_empty_object (codes "properties") given) _ r e in
    let id = found _ (read text_in (codes "id") given) r p.1 in
    let box = found _ (read (null_or box_in) (codes "spatial_extent") given) r id.2 in
    let b = both_found (load_collection id.0 box.0) (read (null_or extent_in) (codes "temporal_extent") given) (read (null_or some_bands_in) (codes "bands") given) r box.2 in
    ap (λ q. is_some (loaded_by q)) (sym b.4)
loads_by Mask given r e =
    let d = found _ (read cube_in (codes "data") given) r e in
    let b = both_found (mask d.0) (read cube_in (codes "mask") given) (read literal_in (codes "replacement") given) r d.2 in
    ap (λ q. is_some (loaded_by q)) (sym b.4)
loads_by MergeCubes given r e =
    let one = found _ (read cube_in (codes "cube1") given) r e in
    let b = both_found (merge_cubes one.0) (read cube_in (codes "cube2") given) (resolver_in given) r one.2 in
    ap (λ q. is_some (loaded_by q)) (sym b.4)
loads_by ReduceDimension given r e =
    let d = found _ (read cube_in (codes "data") given) r e in
    let b = both_found (reduce_dimension d.0) (read text_in (codes "dimension") given) (called_in (codes "reducer") given) r d.2 in
    ap (λ q. is_some (loaded_by q)) (sym b.4)
loads_by SaveResult given r e =
    let p = passed_so (passes is_empty_object (codes "options") given) _ r e in
    let b = both_found save_result (read cube_in (codes "data") given) (read text_in (codes "format") given) r p.1 in
    ap (λ q. is_some (loaded_by q)) (sym b.4)

loads_here : (n : PlainNode) (r : CubeRequest) → cube_request_at n ≡ Some r → same_name n.process_id (codes "load_collection") ≡ is_some (loaded_collection n)
loads_here n r e =
    let process = found _ (cube_process_named n.process_id) r e in
    let id = id_is n.process_id cube_processes process.0 all_named process.1 in
    ap (λ i. same_name i (codes "load_collection")) id
    ∙ (sym (loads_by process.0 n.arguments r process.2) ∙ ap (λ o. is_some (option_and_then loaded_by o)) (sym e))

is_load_at : (f : PlainNode → order.Node) (ns : List PlainNode) (k : ℕ) (n : PlainNode) → slice_get ns k ≡ Some n
    → order.is_load (map f ns) k ≡ (f n).load
is_load_at f [] k n at = absurd cc
is_load_at f (m ∷ ns) zero n at = let same : m ≡ n = cc in ap (λ (x : PlainNode). (f x).load) same
is_load_at f (m ∷ ns) (suc k) n at = is_load_at f ns k n at

pub loads_where : (c : CheckedGraph) → AreFaultless c → (index : ℕ) → index < node_count c.nodes
    → order.is_load (links_of c.nodes) index ≡ is_some (collection_of_node c index)
loads_where c f index below =
    let there = node_below c.nodes index below in
    is_load_at (link_of c.nodes) (each_node c.nodes) index there.node there.is_there
    ∙ (by (cube_request_at there.node) refl ∙ ap (λ o. is_some (option_and_then loaded_collection o)) (sym there.is_there))
  where
    n : PlainNode
    n = (node_below c.nodes index below).node

    asks : IsSound c.rows c.nodes n.id → cube_request_at n ≡ None → ⊥
    asks (sound {n = m} is refs none) nothing =
        let same : n ≡ m = one_node c.nodes f.resolved n index m (node_below c.nodes index below).is_there is in
        none ProcessParameterInvalid m.id (asks_for_nothing (ap cube_request_at (sym same) ∙ nothing))

    by : (o : Option CubeRequest) → cube_request_at n ≡ o → same_name n.process_id (codes "load_collection") ≡ is_some (loaded_collection n)
    by None is = absurd (asks (f.sound n (contains_node c.nodes index n (node_below c.nodes index below).is_there)) is)
    by (Some r) is = loads_here n r is
