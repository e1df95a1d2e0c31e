-- What reading alone makes sure of in a request: its labels, its kernel, and its callbacks.
use Rattle.std.proofs.Common.{◌≡◌, ℕ, ◌*◌, ◌+◌, ◌==◌, ◌&&◌, ◌++◌, Bool, true, false, ℤ, List, [], ◌∷◌, length, refl, subst, arith, Option, Some, None, Contains, if◌then◌else◌}
use Rattle.std.specs.Prelude.{⊤, IfSome, codes}
use Rattle.std.specs.List.{list_all, flat_map}
use Rattle.std.specs.Option.{option_map}
use Rattle.std.proofs.lemmas.Bool.{and_parts, eqb-true, not-false}
use Rattle.std.proofs.lemmas.List.{length-append}
use Rattle.std.proofs.lemmas.List.Elements.{Contains-push}
use Rattle.oe_cell.specs.Fraction.{Fraction}
use Rattle.oe_cell.specs.Kinds.{is_over}
use Rattle.oe_cell.specs.declared.cell.Cell.{Cell}
use Rattle.oe_cell.specs.declared.cell.Cell.TheVariants.{Empty, Flag}
use Rattle.oe_dims.specs.Indices.{same_number}
use Rattle.oe_graph.proofs.ResolvedLemmas.{callbacks_of_argument}
use Rattle.oe_graph.specs.References.{argument_named, callbacks_in, callbacks_named}
use Rattle.oe_graph.specs.Tree as tree
use Rattle.oe_graph.specs.Tree.{Argument, Named, PlainGraph, PlainNode}
use Rattle.oe_kernel.specs.Kernels.{KernelValues}
use Rattle.oe_expr.specs.Requests.{read, is_null, passes, whole_cell}
use Rattle.oe_meanings.proofs.BringsLemmas.{Brings, request_brings}
use Rattle.oe_requests.proofs.KernelLemmas.{all_rows}
use Rattle.oe_meanings.proofs.RequestLemmas.{found, both_found, passed}
use Rattle.oe_requests.specs.Labels.{are_distinct}
use Rattle.oe_requests.specs.Parameters.{null_or, list_in, cube_in, callback_in, text_in, is_time_name, period_in, whole_in, number_in, literal_in, box_in, extent_in, bands_in, some_bands_in, kernel_in, kernel_of, border_in, is_given, is_empty_list, is_empty_object, is_null_or_empty_object}
use Rattle.oe_requests.specs.Requests.{Called, called, cube_process_named, CubeRequest, load_collection, filter_bbox, filter_temporal, filter_bands, apply, apply_kernel, reduce_dimension, aggregate_temporal, aggregate_temporal_period, apply_dimension, merge_cubes, mask, save_result, called_in, intervals_in, resolver_in, cube_request_of, cube_request_at}
use Rattle.oe_meanings.specs.Results.{HasValidLabels}
use Rattle.oe_meanings.specs.Rows.{distinct_labels_required}
use Rattle.oe_meanings.specs.ValidShapes.{labels_of}
use Rattle.oe_requests.specs.declared.process.CubeProcess.{CubeProcess}
use Rattle.oe_requests.specs.declared.process.CubeProcess.TheVariants.{AggregateTemporal, AggregateTemporalPeriod, Apply, ApplyDimension, ApplyKernel, FilterBands, FilterBbox, FilterTemporal, LoadCollection, Mask, MergeCubes, ReduceDimension, SaveResult}

-- ---- labels

labels_valid : (r : CubeRequest) → Brings r → distinct_labels_required r ≡ false → HasValidLabels r
labels_valid (load_collection id box time bands) b d = b
labels_valid (filter_bbox data_id box) b d = tt
labels_valid (filter_temporal data_id time name) b d = tt
labels_valid (filter_bands data_id bands) b d = b
labels_valid (apply data_id c) b d = tt
labels_valid (apply_kernel data_id kernel factor border replace) b d = tt
labels_valid (reduce_dimension data_id name c) b d = tt
labels_valid (aggregate_temporal data_id intervals name c) b d =
    record { differ = not-false (are_distinct same_number (labels_of intervals)) d; in_range = b }
labels_valid (aggregate_temporal_period data_id period name c) b d = tt
labels_valid (apply_dimension data_id callback) b d = tt
labels_valid (merge_cubes one two resolver) b d = tt
labels_valid (mask data_id mask_id replacement) b d = tt
labels_valid (save_result data_id format) b d = tt

-- the bands and the labels of intervals that a node asks for are valid, where no two of the intervals have one label
pub labels_read : (n : PlainNode) (r : CubeRequest) → cube_request_at n ≡ Some r → distinct_labels_required r ≡ false → HasValidLabels r
labels_read n r e d =
    let process = found (λ p. cube_request_of p n.arguments) (cube_process_named n.process_id) r e in
    labels_valid r (request_brings n.arguments process.0 r process.2) d

-- ---- kernels

-- how many values rows of one width have
rows_length : (width : ℕ) (rows : List (List Fraction)) → list_all (λ (row : List Fraction). length row == width) rows ≡ true
    → length (flat_map (λ (values : List Fraction). values) rows) ≡ width * length rows
rows_length width [] h = omega arith
rows_length width (row ∷ rows) h =
    let parts = and_parts (length row == width) (list_all (λ (other : List Fraction). length other == width) rows) h in
    let first : length row ≡ width = eqb-true (length row) width parts.0 in
    let rest : length (flat_map (λ (values : List Fraction). values) rows) ≡ width * length rows = rows_length width rows parts.1 in
    let whole : length (row ++ flat_map (λ (values : List Fraction). values) rows) ≡ length row + length (flat_map (λ (values : List Fraction). values) rows)
    = length-append row (flat_map (λ (values : List Fraction). values) rows) in
    omega (arith, first, rest, whole)

abbrev pub IsCounted : KernelValues → Type 0
IsCounted k = length k.values ≡ k.width * k.height

counted_rows : (row : List Fraction) (rows : List (List Fraction)) → list_all (λ (other : List Fraction). length other == length row) rows ≡ true
    → IsCounted (all_rows row rows)
counted_rows row rows h =
    let rest : length (flat_map (λ (values : List Fraction). values) rows) ≡ length row * length rows = rows_length (length row) rows h in
    let whole : length (row ++ flat_map (λ (values : List Fraction). values) rows) ≡ length row + length (flat_map (λ (values : List Fraction). values) rows)
    = length-append row (flat_map (λ (values : List Fraction). values) rows) in
    omega (arith, rest, whole)

pub kernel_counted : (rows : List (List Fraction)) (k : KernelValues) → kernel_of rows ≡ Some k → IsCounted k
kernel_counted [] k e = absurd cc
kernel_counted (row ∷ rows) k e =
    by (is_given row && list_all (λ (other : List Fraction). length other == length row) rows) refl e
  where
    by : (b : Bool) → (is_given row && list_all (λ (other : List Fraction). length other == length row) rows) ≡ b
        → (if b then Some (all_rows row rows) else None) ≡ Some k → IsCounted k
    by true is e =
        let same : all_rows row rows ≡ k = cc in
        subst IsCounted same (counted_rows row rows (and_parts (is_given row) (list_all (λ (other : List Fraction). length other == length row) rows) is).1)
    by false is e = absurd cc

-- ---- callbacks

-- it is one of the callbacks in the arguments, and its `context` is a literal
pub record IsReadCallback (given : Named) (c : Called) : Type 0 where
  pub among : Contains (callbacks_named given) c.graph
  pub context : is_over c.context ≡ false

within_itself : (a : Argument) (g : PlainGraph) → callback_in a ≡ Some g → Contains (callbacks_in a) g
within_itself tree.null g e = absurd cc
within_itself (tree.flag b) g e = absurd cc
within_itself (tree.whole z) g e = absurd cc
within_itself tree.inexact g e = absurd cc
within_itself (tree.text s) g e = absurd cc
within_itself (tree.list rest) g e = absurd cc
within_itself (tree.object ms) g e = absurd cc
within_itself (tree.from_node name) g e = absurd cc
within_itself (tree.from_parameter name) g e = absurd cc
within_itself (tree.callback ns result) g e =
    let same : record { nodes = ns; result = result } ≡ g = cc in
    subst (λ (f : PlainGraph). Contains (callbacks_in (tree.callback ns result)) f) same (Contains-push [] (record { nodes = ns; result = result }))

whole_literal : (o : Option ℤ) (c : Cell) → option_map whole_cell o ≡ Some c → is_over c ≡ false
whole_literal None c e = absurd cc
whole_literal (Some z) c e = let same : whole_cell z ≡ c = cc in subst (λ x. is_over x ≡ false) same refl

pub literal_fits : (a : Argument) (c : Cell) → literal_in a ≡ Some c → is_over c ≡ false
literal_fits tree.null c e = let same : Empty ≡ c = cc in subst (λ x. is_over x ≡ false) same refl
literal_fits (tree.flag b) c e = let same : Flag b ≡ c = cc in subst (λ x. is_over x ≡ false) same refl
literal_fits (tree.whole z) c e = whole_literal (whole_in (tree.whole z)) c e
literal_fits tree.inexact c e = absurd cc
literal_fits (tree.text s) c e = absurd cc
literal_fits (tree.list rest) c e = absurd cc
literal_fits (tree.object ms) c e = absurd cc
literal_fits (tree.from_node name) c e = absurd cc
literal_fits (tree.from_parameter name) c e = absurd cc
literal_fits (tree.callback ns result) c e = absurd cc

-- where null or a callback was read
one_of_two : (a : Argument) (o : Option PlainGraph) → null_or callback_in a ≡ Some o → IfSome o (Contains (callbacks_in a))
one_of_two tree.null o e = let same : None ≡ o = cc in subst (λ x. IfSome x (Contains (callbacks_in tree.null))) same tt
one_of_two (tree.flag b) o e = absurd cc
one_of_two (tree.whole z) o e = absurd cc
one_of_two tree.inexact o e = absurd cc
one_of_two (tree.text s) o e = absurd cc
one_of_two (tree.list rest) o e = absurd cc
one_of_two (tree.object ms) o e = absurd cc
one_of_two (tree.from_node name) o e = absurd cc
one_of_two (tree.from_parameter name) o e = absurd cc
one_of_two (tree.callback ns result) o e =
    let same : Some (record { nodes = ns; result = result }) ≡ o = cc in
    subst (λ x. IfSome x (Contains (callbacks_in (tree.callback ns result)))) same (within_itself (tree.callback ns result) (record { nodes = ns; result = result }) refl)

module _ (given : Named) where
  callback_read : (name : List ℕ) (c : Called) → called_in name given ≡ Some c → IsReadCallback given c
  callback_read name c e =
      let b = both_found called (read callback_in name given) (read literal_in (codes "context") given) c e in
      let graph = found callback_in (argument_named name given) b.0 b.2 in
      let context = found literal_in (argument_named (codes "context") given) b.1 b.3 in
      subst (IsReadCallback given) b.4 (record {
        among = callbacks_of_argument name given graph.0 b.0 graph.1 (within_itself graph.0 b.0 graph.2);
        context = literal_fits context.0 b.1 context.2;
      })

  resolver_by : (context : Cell) (o : Option PlainGraph) → is_over context ≡ false → IfSome o (Contains (callbacks_named given))
      → IfSome (option_map (λ graph. called graph context) o) (IsReadCallback given)
  resolver_by context None fits has = tt
  resolver_by context (Some graph) fits has = record { among = has; context = fits }

  named_by : (name : List ℕ) (a : Argument) (o : Option PlainGraph) → argument_named name given ≡ Some a
      → IfSome o (Contains (callbacks_in a)) → IfSome o (Contains (callbacks_named given))
  named_by name a None is has = tt
  named_by name a (Some graph) is has = callbacks_of_argument name given a graph is has

  resolver_read : (resolver : Option Called) → resolver_in given ≡ Some resolver → IfSome resolver (IsReadCallback given)
  resolver_read resolver e =
      let b = both_found (λ resolver context. option_map (λ graph. called graph context) resolver) (read (null_or callback_in) (codes "overlap_resolver") given) (read literal_in (codes "context") given) resolver e in
      let graph = found (null_or callback_in) (argument_named (codes "overlap_resolver") given) b.0 b.2 in
      let context = found literal_in (argument_named (codes "context") given) b.1 b.3 in
      subst (λ o. IfSome o (IsReadCallback given)) b.4
      (resolver_by b.1 b.0 (literal_fits context.0 b.1 context.2) (named_by (codes "overlap_resolver") graph.0 b.0 graph.1 (one_of_two graph.0 b.0 graph.2)))

-- ---- requests

-- a kernel has rows of one length, and each callback is one of the arguments with a literal `context`
abbrev pub IsRead : Named → CubeRequest → Type 0
IsRead given (load_collection id box time bands) = ⊤
IsRead given (filter_bbox data_id box) = ⊤
IsRead given (filter_temporal data_id time name) = ⊤
IsRead given (filter_bands data_id bands) = ⊤
IsRead given (apply data_id c) = IsReadCallback given c
IsRead given (apply_kernel data_id kernel factor border replace) = IsCounted kernel
IsRead given (reduce_dimension data_id name c) = IsReadCallback given c
IsRead given (aggregate_temporal data_id intervals name c) = IsReadCallback given c
IsRead given (aggregate_temporal_period data_id period name c) = IsReadCallback given c
IsRead given (apply_dimension data_id callback) = Contains (callbacks_named given) callback
IsRead given (merge_cubes one two resolver) = IfSome resolver (IsReadCallback given)
IsRead given (mask data_id mask_id replacement) = ⊤
IsRead given (save_result data_id format) = ⊤

module _ (given : Named) where
  request_read : (process : CubeProcess) (r : CubeRequest) → cube_request_of process given ≡ Some r → IsRead given r
  request_read AggregateTemporal r e =
      let d = found _ (read cube_in (codes "data") given) r e in
      let i = found _ (intervals_in given) r d.2 in
      let b = both_found (aggregate_temporal d.0 i.0) (read (null_or text_in) (codes "dimension") given) (called_in (codes "reducer") given) r i.2 in
      subst (IsRead given) b.4 (callback_read given (codes "reducer") b.1 b.3)
  request_read AggregateTemporalPeriod r e =
      let d = found _ (read cube_in (codes "data") given) r e in
      let p = found _ (read period_in (codes "period") given) r d.2 in
      let b = both_found (aggregate_temporal_period d.0 p.0) (read (null_or text_in) (codes "dimension") given) (called_in (codes "reducer") given) r p.2 in
      subst (IsRead given) b.4 (callback_read given (codes "reducer") b.1 b.3)
  request_read ApplyDimension r e =
      let t = passed (passes is_time_name (codes "dimension") given) _ r e in
      let u = passed (passes is_null (codes "target_dimension") given) _ r t in
      let c = found _ (read literal_in (codes "context") given) r u in
      let b = both_found apply_dimension (read cube_in (codes "data") given) (read callback_in (codes "process") given) r c.2 in
      let graph = found callback_in (argument_named (codes "process") given) b.1 b.3 in
      subst (IsRead given) b.4 (callbacks_of_argument (codes "process") given graph.0 b.1 graph.1 (within_itself graph.0 b.1 graph.2))
  request_read FilterBands r e =
      let p = passed (passes is_empty_list (codes "wavelengths") given) _ r e in
      let b = both_found filter_bands (read cube_in (codes "data") given) (read bands_in (codes "bands") given) r p in
      subst (IsRead given) b.4 tt
  request_read LoadCollection r e =
      let p = passed (passes is_null_or_empty_object (codes "properties") given) _ r e in
      let id = found _ (read text_in (codes "id") given) r p in
      let box = found _ (read (null_or box_in) (codes "spatial_extent") given) r id.2 in
      let rest = both_found (load_collection id.0 box.0) (read (null_or extent_in) (codes "temporal_extent") given) (read (null_or some_bands_in) (codes "bands") given) r box.2 in
      subst (IsRead given) rest.4 tt
  request_read Apply r e =
      let b = both_found apply (read cube_in (codes "data") given) (called_in (codes "process") given) r e in
      subst (IsRead given) b.4 (callback_read given (codes "process") b.1 b.3)
  request_read ApplyKernel r e =
      let d = found _ (read cube_in (codes "data") given) r e in
      let k = found _ (read kernel_in (codes "kernel") given) r d.2 in
      let f = found _ (read number_in (codes "factor") given) r k.2 in
      let b = both_found (apply_kernel d.0 k.0 f.0) (read border_in (codes "border") given) (read number_in (codes "replace_invalid") given) r f.2 in
      let kernel = found kernel_in (argument_named (codes "kernel") given) k.0 k.1 in
      let rows = found kernel_of (list_in (list_in number_in) kernel.0) k.0 kernel.2 in
      subst (IsRead given) b.4 (kernel_counted rows.0 k.0 rows.2)
  request_read FilterBbox r e =
      let b = both_found filter_bbox (read cube_in (codes "data") given) (read box_in (codes "extent") given) r e in
      subst (IsRead given) b.4 tt
  request_read FilterTemporal r e =
      let d = found _ (read cube_in (codes "data") given) r e in
      let b = both_found (filter_temporal d.0) (read extent_in (codes "extent") given) (read (null_or text_in) (codes "dimension") given) r d.2 in
      subst (IsRead given) b.4 tt
  request_read Mask r e =
      let d = found _ (read cube_in (codes "data") given) r e in
      let b = both_found (mask d.0) (read cube_in (codes "mask") given) (read literal_in (codes "replacement") given) r d.2 in
      subst (IsRead given) b.4 tt
  request_read MergeCubes r e =
      let one = found _ (read cube_in (codes "cube1") given) r e in
      let b = both_found (merge_cubes one.0) (read cube_in (codes "cube2") given) (resolver_in given) r one.2 in
      subst (IsRead given) b.4 (resolver_read given b.1 b.3)
  request_read ReduceDimension r e =
      let d = found _ (read cube_in (codes "data") given) r e in
      let b = both_found (reduce_dimension d.0) (read text_in (codes "dimension") given) (called_in (codes "reducer") given) r d.2 in
      subst (IsRead given) b.4 (callback_read given (codes "reducer") b.1 b.3)
  request_read SaveResult r e =
      let p = passed (passes is_empty_object (codes "options") given) _ r e in
      let b = both_found save_result (read cube_in (codes "data") given) (read text_in (codes "format") given) r p in
      subst (IsRead given) b.4 tt

-- of what a node asks for
pub parts_read : (n : PlainNode) (r : CubeRequest) → cube_request_at n ≡ Some r → IsRead n.arguments r
parts_read n r e =
    let process = found (λ p. cube_request_of p n.arguments) (cube_process_named n.process_id) r e in
    request_read n.arguments process.0 r process.2
