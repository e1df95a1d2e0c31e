-- The cube that a reduction takes.
use Rattle.std.proofs.Common.{◌≡◌, ℕ, ◌+◌, ◌*◌, ◌<◌, Bool, List, [], length, map, Some, slice_get, refl, sym, ap, ◌∙◌, subst}
use Rattle.std.proofs.lemmas.Option.{get_or_from_slice_get}
use Rattle.std.proofs.lemmas.List.{length-map}
use Rattle.std.specs.Option.{option_and_then}
use Rattle.std.specs.Prelude.{IfOk, Result, Ok, Err}
use Rattle.oe_dims.specs.declared.kind.Kind.TheVariants.{Time, Bands, Y, X}
use Rattle.oe_expr.specs.Callback.{Callback}
use Rattle.oe_expr.proofs.NodeLemmas.{contains_node}
use Rattle.oe_fold.specs.declared.reducer.Reducer.{Reducer}
use Rattle.oe_graph.proofs.ResolvedLemmas.{node_below}
use Rattle.oe_graph.specs.Printed.{node_count}
use Rattle.oe_order.specs.Live.{Steps, width_of}
use Rattle.oe_plan.specs.Steps.{arguments_of_node}
use Rattle.oe_check.specs.Checked.{AreFaultless, CheckedGraph, operation_of_node}
use Rattle.oe_meanings.specs.Graphs.{operation_at}
use Rattle.oe_check.specs.Links.{index_referred, links_of}
use Rattle.oe_requests.specs.Operations.{Operation, keep, each_cell, convolve, reduce, aggregate, accumulate, merge, cover, give_back, Outline, operation_of}
use Rattle.oe_check.specs.Reach.{time_fold, time_fold_of_node}
use Rattle.oe_requests.specs.Requests.{CubeRequest, aggregate_temporal, aggregate_temporal_period, apply_dimension, apply, apply_kernel, cube_ids, filter_bands, filter_bbox, filter_temporal, load_collection, mask, merge_cubes, reduce_dimension, cube_request_at, save_result}
use Rattle.oe_meanings.specs.SoundNodes.{input_outlines}
use Rattle.oe_check.proofs.CheckedLemmas.{refer}
use Rattle.oe_check.proofs.LinkLemmas.{links_arguments}
use Rattle.oe_meanings.proofs.RequestLemmas.{found}
use Rattle.oe_plan.specs.Figures.{scratch_of, steps_of}
use Rattle.oe_window.specs.declared.grid.ChunkSize.{ChunkSize}
use Rattle.oe_slab.specs.Figures.{largest_plane, largest_slab, slab_bound, taken_by, width_before, width_behind}

-- a reduction
pub folds_reduce : (operation : Operation) (x : Reducer × Bool) → time_fold operation ≡ Some x
    → (callback : Callback) × (operation ≡ reduce Time callback)
folds_reduce (keep restriction) x e = absurd cc
folds_reduce (each_cell callback) x e = absurd cc
folds_reduce (convolve kernel factor border replace) x e = absurd cc
folds_reduce (reduce Time callback) x e = (callback, refl)
folds_reduce (reduce Bands callback) x e = absurd cc
folds_reduce (reduce Y callback) x e = absurd cc
folds_reduce (reduce X callback) x e = absurd cc
folds_reduce (aggregate intervals callback) x e = absurd cc
folds_reduce (accumulate ignore) x e = absurd cc
folds_reduce (merge resolver) x e = absurd cc
folds_reduce (cover replacement) x e = absurd cc
folds_reduce give_back x e = absurd cc

-- takes one cube
reduces_one : (r : CubeRequest) (cubes : List Outline) (callback : Callback) → operation_of r cubes ≡ Some (reduce Time callback)
    → length (cube_ids r) ≡ 1
reduces_one (load_collection id box time bands) cubes callback e = absurd cc
reduces_one (filter_bbox data_id box) cubes callback e = refl
reduces_one (filter_temporal data_id time name) cubes callback e = refl
reduces_one (filter_bands data_id bands) cubes callback e = refl
reduces_one (apply data_id c) cubes callback e = refl
reduces_one (apply_kernel data_id kernel factor border replace) cubes callback e = refl
reduces_one (reduce_dimension data_id name c) cubes callback e = refl
reduces_one (aggregate_temporal data_id intervals name c) cubes callback e = refl
reduces_one (aggregate_temporal_period data_id period name c) cubes callback e = refl
reduces_one (apply_dimension data_id g) cubes callback e = refl
reduces_one (merge_cubes one two resolver) cubes callback e = absurd cc
reduces_one (mask data_id mask_id replacement) cubes callback e = absurd cc
reduces_one (save_result data_id format) cubes callback e = refl

pub fold_takes : (c : CheckedGraph) → AreFaultless c → (node : ℕ) → node < node_count c.nodes → (x : Reducer × Bool)
    → time_fold_of_node c node ≡ Some x → length (arguments_of_node c node) ≡ 1
fold_takes c f node below x folds =
    let there = node_below c.nodes node below in
    let op = found time_fold (operation_of_node c node) x folds in
    let reduces = folds_reduce op.0 x op.2 in
    let here : operation_at c.rows c.nodes there.node ≡ Some op.0 =
    sym (ap (option_and_then (operation_at c.rows c.nodes)) there.is_there) ∙ op.1 in
    let r = found (λ q. operation_of q (input_outlines c.rows c.nodes q)) (cube_request_at there.node) op.0 here in
    let one = reduces_one r.0 (input_outlines c.rows c.nodes r.0) reduces.0 (r.2 ∙ ap Some reduces.1) in
    let arguments_are : arguments_of_node c node ≡ map (index_referred c.nodes) (cube_ids r.0) =
    links_arguments c.nodes node there.node there.is_there
    ∙ ap (map (index_referred c.nodes)) (refer c.nodes f.resolved there.node (contains_node c.nodes node there.node there.is_there) r.0 r.1) in
    ap length arguments_are ∙ (length-map (cube_ids r.0) (index_referred c.nodes) ∙ one)

-- what an order is of the cube that is taken, by the name that the code has for it
pub of_taken : {E : Type 0} (c : CheckedGraph) (fold taken : ℕ) (r : Result Steps E) → slice_get (arguments_of_node c fold) 0 ≡ Some taken
    → (P : ℕ → Steps → Type 0) → IfOk r (P taken) → IfOk r (P (taken_by c fold))
of_taken c fold taken (Ok o) at P h =
    let is : taken_by c fold ≡ taken = get_or_from_slice_get (arguments_of_node c fold) 0 taken 0 at in
    subst (λ n. P n o) (sym is) h
of_taken c fold taken (Err e) at P h = tt

-- the width of the run of the cube that is taken
pub before_is : {E : Type 0} (c : CheckedGraph) (fold : ℕ) (r : Result Steps E)
    → IfOk r (λ o. o.steps ≡ steps_of (record c { result = taken_by c fold }))
    → IfOk r (λ o. o.width ≡ width_of (links_of c.nodes) (taken_by c fold) o.steps) → IfOk r (λ o. o.width ≡ width_before c fold)
before_is c fold (Ok o) steps_are width_is = width_is ∙ ap (width_of (links_of c.nodes) (taken_by c fold)) steps_are
before_is c fold (Err e) steps_are width_is = tt

-- the bound of a run that is cut there
pub bound_is : (c : CheckedGraph) (size : ChunkSize) (fold before behind plane slab scratch bound : ℕ) → before ≡ width_before c fold
    → behind ≡ width_behind c fold → plane ≡ largest_plane c size → slab ≡ largest_slab c size → scratch ≡ scratch_of c
    → bound ≡ before * slab + 2 * plane + behind * plane + scratch → bound ≡ slab_bound c size fold
bound_is c size fold before behind plane slab scratch bound before_are behind_are plane_is slab_is scratch_is is =
    is ∙ ap (λ (n : ℕ). n * slab + 2 * plane + behind * plane + scratch) before_are
    ∙ ap (λ (n : ℕ). width_before c fold * slab + 2 * plane + n * plane + scratch) behind_are
    ∙ ap (λ (n : ℕ). width_before c fold * slab + 2 * n + width_behind c fold * n + scratch) plane_is
    ∙ ap (λ (n : ℕ). width_before c fold * n + 2 * largest_plane c size + width_behind c fold * largest_plane c size + scratch) slab_is
    ∙ ap (λ (n : ℕ). width_before c fold * largest_slab c size + 2 * largest_plane c size + width_behind c fold * largest_plane c size + n) scratch_is
