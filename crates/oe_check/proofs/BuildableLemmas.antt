-- A request at which no row holds that the faults of its callback wait for can be built: its callback is resolved, its kernel
-- is one, and the labels that it brings are valid.
use Rattle.std.proofs.Common.{◌≡◌, ◌<◌, ◌≤◌, ◌^◌, ◌*◌, ◌%◌, ℕ, zero, suc, Bool, true, false, ◌||◌, List, [], ◌∷◌, ◌++◌, length, slice_get, Contains, Option, Some, None, refl, sym, ap, ◌∙◌, subst, arith, if◌then◌else◌}
use Rattle.std.specs.Prelude.{⊤, codes, All, IfSome, nat_lt}
use Rattle.std.specs.List.{list_any}
use Rattle.std.specs.Option.{option_map_or}
use Rattle.std.proofs.lemmas.Bool.Decides.{nat_tests}
use Rattle.oe_dims.proofs.OrderLemmas.{same_name_is}
use Rattle.oe_dims.specs.Names.{same_name}
use Rattle.oe_dims.specs.declared.dims.DimsRow.{DimsRow}
use Rattle.oe_kernel.specs.Kernels.{KernelValues, IsKernel, largest_size}
use Rattle.oe_graph.proofs.ResolvedLemmas.{resolved_object}
use Rattle.oe_graph.specs.Catalogue.{Process, process_named}
use Rattle.oe_graph.specs.References.{callbacks_named}
use Rattle.oe_graph.specs.Resolved.{IsResolvedUnder, scope_inside, inside}
use Rattle.oe_graph.specs.Tree.{Nodes, PlainNode, PlainGraph}
use Rattle.oe_graph.specs.declared.code.Code.{Code}
use Rattle.oe_graph.specs.declared.code.Code.TheVariants.{DimensionNotAvailable, TemporalExtentEmpty, KernelDimensionsUneven, KernelTooLarge, DistinctDimensionLabelsRequired}
use Rattle.oe_expr.specs.Requests.{read, is_null, passes}
use Rattle.oe_expr.specs.Rows.{JudgedRow, first_row}
use Rattle.oe_check.proofs.ReadLemmas.{IsCounted, IsReadCallback, IsRead, labels_read, parts_read}
use Rattle.oe_meanings.proofs.RequestLemmas.{found, both_found, passed}
use Rattle.oe_meanings.specs.Callbacks.{IsResolvedCallback, AreIntervals, IsBuildable}
use Rattle.oe_requests.specs.Extents.{is_empty_extent}
use Rattle.oe_check.specs.Inputs.{HasFewIntervals}
use Rattle.oe_requests.specs.Operations.{Outline}
use Rattle.oe_requests.specs.Parameters.{null_or, text_in, is_time_name, period_in, cube_in, callback_in, literal_in, number_in, box_in, extent_in, bands_in, some_bands_in, kernel_in, border_in, is_empty_list, is_empty_object, is_null_or_empty_object}
use Rattle.oe_requests.specs.Requests.{NamedProcess, cube_processes, process_among, cube_process_named, Called, CubeRequest, load_collection, filter_bbox, filter_temporal, filter_bands, apply, apply_kernel, reduce_dimension, aggregate_temporal, aggregate_temporal_period, apply_dimension, merge_cubes, mask, save_result, called_in, intervals_in, resolver_in, cube_request_of, cube_request_at}
use Rattle.oe_meanings.specs.Results.{HasValidLabels}
use Rattle.oe_meanings.specs.Rows.{is_even, temporal_extent_empty, kernel_dimensions_uneven, kernel_too_large, distinct_labels_required, dimension_not_available}
use Rattle.oe_meanings.specs.Stands.{early_rows}
use Rattle.oe_check.specs.Walked.{AreResolved, IsNodeOf}
use Rattle.oe_requests.specs.declared.extent.Interval.{Interval}
use Rattle.oe_requests.specs.declared.process.CubeProcess.{CubeProcess}
use Rattle.oe_requests.specs.declared.process.CubeProcess.TheVariants.{AggregateTemporal, AggregateTemporalPeriod, Apply, ApplyDimension, ApplyKernel, FilterBands, FilterBbox, FilterTemporal, LoadCollection, Mask, MergeCubes, ReduceDimension, SaveResult}
use Rattle.oe_requests.specs.RunningSums.{IsWellFormed}

-- ---- rows that do not hold

pub none_of : (rows : List JudgedRow) → first_row rows ≡ None → (k : ℕ) (code : Code) (b : Bool) → slice_get rows k ≡ Some (code, b) → b ≡ false
none_of [] e k code b at = absurd cc
none_of (row ∷ rows) e k code b at = by row.1 refl e k at (none_of rows)
  where
    by : (t : Bool) → row.1 ≡ t → (if t then Some row.0 else first_row rows) ≡ None → (k : ℕ) → slice_get (row ∷ rows) k ≡ Some (code, b)
        → (first_row rows ≡ None → (j : ℕ) (code : Code) (b : Bool) → slice_get rows j ≡ Some (code, b) → b ≡ false) → b ≡ false
    by true is e k at later = absurd cc
    by false is e zero at later = let same : row ≡ (code, b) = cc in sym (ap (λ (x : JudgedRow). x.1) same) ∙ is
    by false is e (suc j) at later = later e j code b at

-- the rows that the building of an operation asks after
pub record NoneHolds (r : CubeRequest) (cubes : List Outline) : Type 0 where
  pub dimension : dimension_not_available r cubes ≡ false
  pub extent : temporal_extent_empty r ≡ false
  pub uneven : kernel_dimensions_uneven r ≡ false
  pub large : kernel_too_large r ≡ false
  pub distinct : distinct_labels_required r ≡ false

pub none_holds : (rows : List DimsRow) (r : CubeRequest) (cubes : List Outline) → first_row (early_rows rows r cubes) ≡ None → NoneHolds r cubes
none_holds rows r cubes none =
    let no_row = none_of (early_rows rows r cubes) none in
    record {
      dimension = no_row 3 DimensionNotAvailable (dimension_not_available r cubes) refl;
      extent = no_row 4 TemporalExtentEmpty (temporal_extent_empty r) refl;
      uneven = no_row 7 KernelDimensionsUneven (kernel_dimensions_uneven r) refl;
      large = no_row 8 KernelTooLarge (kernel_too_large r) refl;
      distinct = no_row 9 DistinctDimensionLabelsRequired (distinct_labels_required r) refl;
    }

-- ---- kernels

pub or_false : (a b : Bool) → (a || b) ≡ false → (a ≡ false) × (b ≡ false)
or_false true b e = absurd cc
or_false false b e = (refl, e)

odd : (n : ℕ) → is_even n ≡ false → n % 2 ≡ 1
odd n e = grind (arith, nat_tests)

most : (n : ℕ) → nat_lt largest_size n ≡ false → n ≤ largest_size
most n e = grind (arith, nat_tests)

pub is_kernel : (k : KernelValues) → length k.values ≡ k.width * k.height → (is_even k.width || is_even k.height) ≡ false
    → (nat_lt largest_size k.width || nat_lt largest_size k.height) ≡ false → IsKernel k
is_kernel k counted uneven large =
    let odds = or_false _ _ uneven in
    let few = or_false _ _ large in
    record {
      counted = counted;
      width_odd = odd k.width odds.0;
      height_odd = odd k.height odds.1;
      width_most = most k.width few.0;
      height_most = most k.height few.1;
    }

-- ---- intervals

any_false : {A : Type 0} (test : A → Bool) (xs : List A) → list_any test xs ≡ false → All (λ x. test x ≡ false) xs
any_false test [] e k d below = absurd (omega arith)
any_false test (x ∷ xs) e zero d below = (or_false (test x) (list_any test xs) e).0
any_false test (x ∷ xs) e (suc k) d below = any_false test xs (or_false (test x) (list_any test xs) e).1 k d (omega arith)

pub are_intervals : (intervals : List Interval) → list_any (λ (i : Interval). is_empty_extent i.extent) intervals ≡ false → length intervals < 2 ^ 32 → AreIntervals intervals
are_intervals intervals empty few = record { not_empty = any_false (λ (i : Interval). is_empty_extent i.extent) intervals empty; few = few }

-- ---- the parameters that callbacks see, by the ids of the processes

abbrev id_of : CubeProcess → List ℕ
id_of AggregateTemporal = codes "aggregate_temporal"
id_of AggregateTemporalPeriod = codes "aggregate_temporal_period"
id_of Apply = codes "apply"
id_of ApplyDimension = codes "apply_dimension"
id_of ApplyKernel = codes "apply_kernel"
id_of FilterBands = codes "filter_bands"
id_of FilterBbox = codes "filter_bbox"
id_of FilterTemporal = codes "filter_temporal"
id_of LoadCollection = codes "load_collection"
id_of Mask = codes "mask"
id_of MergeCubes = codes "merge_cubes"
id_of ReduceDimension = codes "reduce_dimension"
id_of SaveResult = codes "save_result"

abbrev HaveIds : List NamedProcess → Type 0
HaveIds [] = ⊤
HaveIds (p ∷ others) = (p.0 ≡ id_of p.1) × HaveIds others

id_among : (id : List ℕ) (processes : List NamedProcess) (process : CubeProcess) → HaveIds processes → process_among id processes ≡ Some process → id ≡ id_of process
id_among id [] process h e = absurd cc
id_among id (p ∷ others) process h e = by (same_name p.0 id) refl e (id_among id others process h.1)
  where
    by : (b : Bool) → same_name p.0 id ≡ b → (if b then Some p.1 else process_among id others) ≡ Some process
        → (process_among id others ≡ Some process → id ≡ id_of process) → id ≡ id_of process
    by true is e later =
        let same : p.1 ≡ process = cc in
        same_name_is p.0 id is ∙ (h.0 ∙ ap id_of same)
    by false is e later = later e

id_named : (id : List ℕ) (process : CubeProcess) → cube_process_named id ≡ Some process → id ≡ id_of process
id_named id process e = id_among id cube_processes process (refl, (refl, (refl, (refl, (refl, (refl, (refl, (refl, (refl, (refl, (refl, (refl, (refl, tt))))))))))))) e

abbrev scope_named : List ℕ → List (List ℕ)
scope_named id = option_map_or (λ (p : Process). p.callback_parameters) (process_named id) [] ++ []

module _ (nodes : Nodes) (is : AreResolved nodes) (n : PlainNode) (at : IsNodeOf nodes n) where
  -- a callback in an argument of the node is resolved under the parameters that its process gives it
  under : (g : PlainGraph) → Contains (callbacks_named n.arguments) g → IsResolvedUnder true (scope_inside n []) g
  under g has = λ in_callback scope inner result within. is.resolved in_callback scope inner result (inside at has within)

  resolved_callback : (process : CubeProcess) (names : List (List ℕ)) (c : Called) → cube_process_named n.process_id ≡ Some process
      → scope_named (id_of process) ≡ names → IsReadCallback n.arguments c → IsResolvedCallback names c
  resolved_callback process names c e sees read_so = record {
    resolved =
        subst (λ scope. IsResolvedUnder true scope c.graph) (ap scope_named (id_named n.process_id process e) ∙ sees)
        (under c.graph read_so.among);
    context = read_so.context;
  }

  -- and so the ids of one rise, and it has a result node
  well_formed : (g : PlainGraph) → Contains (callbacks_named n.arguments) g → IsWellFormed g
  well_formed g has =
      let object = resolved_object true (scope_inside n []) g (under g has) in
      record { ids_rise = object.ids_rise; has_result = object.has_result }

  -- what a request needs to be built, but that no row holds
  abbrev Read : CubeRequest → Type 0
  Read (load_collection id box time bands) = ⊤
  Read (filter_bbox data_id box) = ⊤
  Read (filter_temporal data_id time name) = ⊤
  Read (filter_bands data_id bands) = ⊤
  Read (apply data_id c) = IsResolvedCallback (codes "x" ∷ codes "context" ∷ []) c
  Read (apply_kernel data_id kernel factor border replace) = IsCounted kernel
  Read (reduce_dimension data_id name c) = IsResolvedCallback (codes "data" ∷ codes "context" ∷ []) c
  Read (aggregate_temporal data_id intervals name c) = IsResolvedCallback (codes "data" ∷ codes "context" ∷ []) c
  Read (aggregate_temporal_period data_id period name c) = IsResolvedCallback (codes "data" ∷ codes "context" ∷ []) c
  Read (apply_dimension data_id callback) = IsWellFormed callback
  Read (merge_cubes one two resolver) = IfSome resolver (IsResolvedCallback (codes "x" ∷ codes "y" ∷ codes "context" ∷ []))
  Read (mask data_id mask_id replacement) = ⊤
  Read (save_result data_id format) = ⊤

  each_resolver : (resolver : Option Called) → cube_process_named n.process_id ≡ Some MergeCubes → IfSome resolver (IsReadCallback n.arguments)
      → IfSome resolver (IsResolvedCallback (codes "x" ∷ codes "y" ∷ codes "context" ∷ []))
  each_resolver None e h = tt
  each_resolver (Some c) e h = resolved_callback MergeCubes _ c e refl h

  is_read : (process : CubeProcess) (r : CubeRequest) → cube_process_named n.process_id ≡ Some process → cube_request_of process n.arguments ≡ Some r
      → IsRead n.arguments r → Read r
  is_read AggregateTemporal r p e h =
      let d = found _ (read cube_in (codes "data") n.arguments) r e in
      let i = found _ (intervals_in n.arguments) r d.2 in
      let b = both_found (aggregate_temporal d.0 i.0) (read (null_or text_in) (codes "dimension") n.arguments) (called_in (codes "reducer") n.arguments) r i.2 in
      subst Read b.4 (resolved_callback AggregateTemporal _ b.1 p refl (subst (IsRead n.arguments) (sym b.4) h))
  is_read AggregateTemporalPeriod r p e h =
      let d = found _ (read cube_in (codes "data") n.arguments) r e in
      let q = found _ (read period_in (codes "period") n.arguments) r d.2 in
      let b = both_found (aggregate_temporal_period d.0 q.0) (read (null_or text_in) (codes "dimension") n.arguments) (called_in (codes "reducer") n.arguments) r q.2 in
      subst Read b.4 (resolved_callback AggregateTemporalPeriod _ b.1 p refl (subst (IsRead n.arguments) (sym b.4) h))
  is_read Apply r p e h =
      let b = both_found apply (read cube_in (codes "data") n.arguments) (called_in (codes "process") n.arguments) r e in
      subst Read b.4 (resolved_callback Apply _ b.1 p refl (subst (IsRead n.arguments) (sym b.4) h))
  is_read ApplyDimension r p e h =
      let t = passed (passes is_time_name (codes "dimension") n.arguments) _ r e in
      let u = passed (passes is_null (codes "target_dimension") n.arguments) _ r t in
      let c = found _ (read literal_in (codes "context") n.arguments) r u in
      let b = both_found apply_dimension (read cube_in (codes "data") n.arguments) (read callback_in (codes "process") n.arguments) r c.2 in
      subst Read b.4 (well_formed b.1 (subst (IsRead n.arguments) (sym b.4) h))
  is_read ApplyKernel r p e h =
      let d = found _ (read cube_in (codes "data") n.arguments) r e in
      let k = found _ (read kernel_in (codes "kernel") n.arguments) r d.2 in
      let f = found _ (read number_in (codes "factor") n.arguments) r k.2 in
      let b = both_found (apply_kernel d.0 k.0 f.0) (read border_in (codes "border") n.arguments) (read number_in (codes "replace_invalid") n.arguments) r f.2 in
      subst Read b.4 (subst (IsRead n.arguments) (sym b.4) h)
  is_read FilterBands r p e h =
      let q = passed (passes is_empty_list (codes "wavelengths") n.arguments) _ r e in
      let b = both_found filter_bands (read cube_in (codes "data") n.arguments) (read bands_in (codes "bands") n.arguments) r q in
      subst Read b.4 tt
  is_read FilterBbox r p e h =
      let b = both_found filter_bbox (read cube_in (codes "data") n.arguments) (read box_in (codes "extent") n.arguments) r e in subst Read b.4 tt
  is_read FilterTemporal r p e h =
      let d = found _ (read cube_in (codes "data") n.arguments) r e in
      let b = both_found (filter_temporal d.0) (read extent_in (codes "extent") n.arguments) (read (null_or text_in) (codes "dimension") n.arguments) r d.2 in
      subst Read b.4 tt
  is_read LoadCollection r p e h =
      let q = passed (passes is_null_or_empty_object (codes "properties") n.arguments) _ r e in
      let id = found _ (read text_in (codes "id") n.arguments) r q in
      let box = found _ (read (null_or box_in) (codes "spatial_extent") n.arguments) r id.2 in
      let rest = both_found (load_collection id.0 box.0) (read (null_or extent_in) (codes "temporal_extent") n.arguments) (read (null_or some_bands_in) (codes "bands") n.arguments) r box.2 in
      subst Read rest.4 tt
  is_read Mask r p e h =
      let d = found _ (read cube_in (codes "data") n.arguments) r e in
      let b = both_found (mask d.0) (read cube_in (codes "mask") n.arguments) (read literal_in (codes "replacement") n.arguments) r d.2 in
      subst Read b.4 tt
  is_read MergeCubes r p e h =
      let one = found _ (read cube_in (codes "cube1") n.arguments) r e in
      let b = both_found (merge_cubes one.0) (read cube_in (codes "cube2") n.arguments) (resolver_in n.arguments) r one.2 in
      subst Read b.4 (each_resolver b.1 p (subst (IsRead n.arguments) (sym b.4) h))
  is_read ReduceDimension r p e h =
      let d = found _ (read cube_in (codes "data") n.arguments) r e in
      let b = both_found (reduce_dimension d.0) (read text_in (codes "dimension") n.arguments) (called_in (codes "reducer") n.arguments) r d.2 in
      subst Read b.4 (resolved_callback ReduceDimension _ b.1 p refl (subst (IsRead n.arguments) (sym b.4) h))
  is_read SaveResult r p e h =
      let q = passed (passes is_empty_object (codes "options") n.arguments) _ r e in
      let b = both_found save_result (read cube_in (codes "data") n.arguments) (read text_in (codes "format") n.arguments) r q in
      subst Read b.4 tt

  from_read : (r : CubeRequest) (cubes : List Outline) → Read r → NoneHolds r cubes → HasFewIntervals r → IsBuildable r
  from_read (load_collection id box time bands) cubes h none few = tt
  from_read (filter_bbox data_id box) cubes h none few = tt
  from_read (filter_temporal data_id time name) cubes h none few = tt
  from_read (filter_bands data_id bands) cubes h none few = tt
  from_read (apply data_id c) cubes h none few = h
  from_read (apply_kernel data_id kernel factor border replace) cubes h none few = is_kernel kernel h none.uneven none.large
  from_read (reduce_dimension data_id name c) cubes h none few = h
  from_read (aggregate_temporal data_id intervals name c) cubes h none few = (are_intervals intervals none.extent few, h)
  from_read (aggregate_temporal_period data_id period name c) cubes h none few = h
  from_read (apply_dimension data_id callback) cubes h none few = h
  from_read (merge_cubes one two resolver) cubes h none few = h
  from_read (mask data_id mask_id replacement) cubes h none few = tt
  from_read (save_result data_id format) cubes h none few = tt

  pub buildable : (r : CubeRequest) (cubes : List Outline) → cube_request_at n ≡ Some r → NoneHolds r cubes → HasFewIntervals r → IsBuildable r
  buildable r cubes asks none few =
      let process = found _ (cube_process_named n.process_id) r asks in
      from_read r cubes (is_read process.0 r process.1 process.2 (parts_read n r asks)) none few

-- ---- the labels that it brings

pub valid_labels : (n : PlainNode) (r : CubeRequest) (cubes : List Outline) → cube_request_at n ≡ Some r → NoneHolds r cubes → HasValidLabels r
valid_labels n r cubes asks none = labels_read n r asks none.distinct
