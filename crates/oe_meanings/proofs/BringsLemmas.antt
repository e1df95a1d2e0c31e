-- The labels that a request brings with it are valid.
use Rattle.std.proofs.Common.{◌≡◌, ℕ, Bool, true, false, ◌&&◌, List, [], ◌∷◌, refl, sym, ap, ◌∙◌, subst, arith, Option, Some, None, ℤ, Result, Ok, Err, if◌then◌else◌}
use Rattle.std.specs.Prelude.{⊤, IfSome, codes, int_le}
use Rattle.std.specs.List.{list_all}
use Rattle.std.specs.Option.{option_map, option_map_or}
use Rattle.std.proofs.lemmas.Bool.{and_from}
use Rattle.std.proofs.lemmas.Int.{ints}
use Rattle.oe_dims.proofs.SpellingLemmas.{read_exactly}
use Rattle.oe_dims.specs.Dimensions.{all_differ, first_instant, last_instant, number_labels, IsShape}
use Rattle.oe_dims.specs.Instant.{instant_read, IsInstant}
use Rattle.oe_dims.specs.Names.{is_name}
use Rattle.oe_dims.specs.declared.instant.InstantFault.{InstantFault}
use Rattle.oe_graph.specs.Tree as tree
use Rattle.oe_graph.specs.Tree.{Argument, ListValues, Named, PlainNode}
use Rattle.oe_graph.specs.References.{argument_named}
use Rattle.oe_expr.specs.Requests.{with_both, read, is_null, passes}
use Rattle.oe_expr.specs.Scope as scope
use Rattle.oe_expr.specs.Scope.{read_or_none}
use Rattle.oe_meanings.proofs.OrderedLemmas.{left_of, right_of}
use Rattle.oe_meanings.proofs.RequestLemmas.{found, both_found, passed}
use Rattle.oe_meanings.specs.Brings.{HasDistinctLabels, BringValidLabels}
use Rattle.oe_requests.specs.declared.extent.TemporalExtent.{TemporalExtent}
use Rattle.oe_requests.specs.Operations.{Operation, keep, each_cell, convolve, aggregate, accumulate, merge, cover, give_back, Outline, operation_of, dimension_named, callback_under, first_or, no_outline, interval_scope}
use Rattle.oe_requests.specs.Parameters.{where_it, null_or, each_in, list_in, name_in, text_in, is_time_name, period_in, box_in, cube_in, callback_in, literal_in, number_in, kernel_in, border_in, bands_in, is_given, some_bands_in, instant_in, extent_from, is_limited, extent_in, labelled_interval, by_starts, by_labels, intervals_of, is_empty_list, is_null_or_empty_object}
use Rattle.oe_requests.specs.declared.extent.Interval.{Interval}
use Rattle.oe_requests.specs.declared.process.CubeProcess.{CubeProcess}
use Rattle.oe_requests.specs.declared.process.CubeProcess.TheVariants.{AggregateTemporal, AggregateTemporalPeriod, Apply, ApplyDimension, ApplyKernel, FilterBands, FilterBbox, FilterTemporal, LoadCollection, Mask, MergeCubes, ReduceDimension, SaveResult}
use Rattle.oe_requests.specs.Requests.{cube_process_named, CubeRequest, load_collection, filter_bbox, filter_temporal, filter_bands, apply, apply_kernel, reduce_dimension, aggregate_temporal, aggregate_temporal_period, apply_dimension, merge_cubes, mask, save_result, called_in, intervals_in, resolver_in, cube_request_of}
use Rattle.oe_meanings.specs.ValidShapes.{AreBands, labels_of, BringsLabels}
use Rattle.oe_requests.specs.Periods.{period_intervals}
use Rattle.oe_dims.specs.declared.kind.Kind.TheVariants.{Time}
use Rattle.oe_meanings.proofs.PeriodLemmas.{period_labels}
use Rattle.oe_requests.specs.RunningSums.{ignores_nulls}

-- ---- lists of what a reader reads

where_passed_it : {A : Type 0} (test : A → Bool) (a b : A) → where_it test a ≡ Some b → (a ≡ b) × (test b ≡ true)
where_passed_it test a b e = by (test a) refl e
  where
    by : (t : Bool) → test a ≡ t → (if t then Some a else None) ≡ Some b → (a ≡ b) × (test b ≡ true)
    by true is e = let same : a ≡ b = cc in (same, subst (λ x. test x ≡ true) same is)
    by false is e = absurd cc

each_passes : {A : Type 0} (reader : Argument → Option A) (p : A → Bool) → ((a : Argument) (x : A) → reader a ≡ Some x → p x ≡ true)
    → (rest : ListValues) (xs : List A) → each_in reader rest ≡ Some xs → list_all p xs ≡ true
each_passes reader p h tree.no_arguments xs e = let none : [] ≡ xs = cc in subst (λ l. list_all p l ≡ true) none refl
each_passes reader p h (tree.argument a rest) xs e =
    let both = both_found (λ x l. x ∷ l) (reader a) (each_in reader rest) xs e in
    subst (λ l. list_all p l ≡ true) both.4 (and_from (p both.0) _ (h a both.0 both.2) (each_passes reader p h rest both.1 both.3))

list_passes : {A : Type 0} (reader : Argument → Option A) (p : A → Bool) → ((a : Argument) (x : A) → reader a ≡ Some x → p x ≡ true)
    → (a : Argument) (xs : List A) → list_in reader a ≡ Some xs → list_all p xs ≡ true
list_passes reader p h (tree.list rest) xs e = each_passes reader p h rest xs e
list_passes reader p h tree.null xs e = absurd cc
list_passes reader p h (tree.flag b) xs e = absurd cc
list_passes reader p h (tree.whole z) xs e = absurd cc
list_passes reader p h tree.inexact xs e = absurd cc
list_passes reader p h (tree.text s) xs e = absurd cc
list_passes reader p h (tree.object ms) xs e = absurd cc
list_passes reader p h (tree.from_node id) xs e = absurd cc
list_passes reader p h (tree.from_parameter name) xs e = absurd cc
list_passes reader p h (tree.callback ns result) xs e = absurd cc

-- ---- bands

name_valid : (a : Argument) (name : List ℕ) → name_in a ≡ Some name → is_name name ≡ true
name_valid a name e = let t = found (where_it is_name) (text_in a) name e in (where_passed_it is_name t.0 name t.2).1

bands_valid : (a : Argument) (names : List (List ℕ)) → bands_in a ≡ Some names → AreBands names
bands_valid a names e =
    let t = found (where_it all_differ) (list_in name_in a) names e in
    let same = where_passed_it all_differ t.0 names t.2 in
    record { differ = same.1; valid = subst (λ l. list_all is_name l ≡ true) same.0 (list_passes name_in is_name name_valid a t.0 t.1) }

some_bands_valid : (a : Argument) (names : List (List ℕ)) → some_bands_in a ≡ Some names → AreBands names
some_bands_valid a names e =
    let t = found (where_it is_given) (bands_in a) names e in
    subst AreBands (where_passed_it is_given t.0 names t.2).0 (bands_valid a t.0 t.1)

-- of what may be null
null_or_valid : {A : Type 0} (reader : Argument → Option A) (P : A → Type 0) → ((a : Argument) (x : A) → reader a ≡ Some x → P x)
    → (a : Argument) (o : Option A) → null_or reader a ≡ Some o → IfSome o P
null_or_valid reader P h a None e = tt
null_or_valid reader P h a (Some x) e = h a x (by a (reader a) refl e)
  where
    some_of : (o : Option _) → option_map Some o ≡ Some (Some x) → o ≡ Some x
    some_of None e = absurd cc
    some_of (Some y) e = let same : y ≡ x = cc in ap Some same

    by : (a : Argument) (o : Option _) → reader a ≡ o → null_or reader a ≡ Some (Some x) → reader a ≡ Some x
    by tree.null o is e = absurd cc
    by (tree.flag b) o is e = some_of (reader (tree.flag b)) e
    by (tree.whole z) o is e = some_of (reader (tree.whole z)) e
    by tree.inexact o is e = some_of (reader tree.inexact) e
    by (tree.text s) o is e = some_of (reader (tree.text s)) e
    by (tree.list rest) o is e = some_of (reader (tree.list rest)) e
    by (tree.object ms) o is e = some_of (reader (tree.object ms)) e
    by (tree.from_node id) o is e = some_of (reader (tree.from_node id)) e
    by (tree.from_parameter name) o is e = some_of (reader (tree.from_parameter name)) e
    by (tree.callback ns result) o is e = some_of (reader (tree.callback ns result)) e

-- ---- instants

abbrev pub is_instant : ℤ → Bool
is_instant label = int_le first_instant label && int_le label last_instant

in_range : (z : ℤ) → IsInstant z → is_instant z ≡ true
in_range z h =
    let low = h.first in
    let high = h.last in
    and_from (int_le first_instant z) (int_le z last_instant) (grind (arith, ints)) (grind (arith, ints))

read_there : (answer : Result ℤ InstantFault) (z : ℤ) → read_or_none answer ≡ Some z → answer ≡ Ok z
read_there (Ok y) z e = let same : y ≡ z = cc in ap Ok same
read_there (Err fault) z e = absurd cc

instant_valid : (a : Argument) (z : ℤ) → instant_in a ≡ Some z → is_instant z ≡ true
instant_valid a z e =
    let t = found (λ s. read_or_none (instant_read s)) (text_in a) z e in
    in_range z ((read_exactly t.0 z).0 (read_there (instant_read t.0) z t.2)).in_range

-- a start that is given is an instant
abbrev starts_in_range : TemporalExtent → Bool
starts_in_range e = option_map_or is_instant e.start true

start_in_range : (o : Option ℤ) → IfSome o (λ z. is_instant z ≡ true) → option_map_or is_instant o true ≡ true
start_in_range None h = refl
start_in_range (Some z) h = h

extent_valid : (a : Argument) (e : TemporalExtent) → extent_in a ≡ Some e → starts_in_range e ≡ true
extent_valid (tree.list tree.no_arguments) e h = absurd cc
extent_valid (tree.list (tree.argument start tree.no_arguments)) e h = absurd cc
extent_valid (tree.list (tree.argument start (tree.argument end tree.no_arguments))) e h =
    let t = found (where_it is_limited) (with_both extent_from (null_or instant_in start) (null_or instant_in end)) e h in
    let both = both_found extent_from (null_or instant_in start) (null_or instant_in end) t.0 t.1 in
    let first = start_in_range both.0 (null_or_valid instant_in (λ z. is_instant z ≡ true) instant_valid start both.0 both.2) in
    subst (λ x. starts_in_range x ≡ true) (both.4 ∙ (where_passed_it is_limited t.0 e t.2).0) first
extent_valid (tree.list (tree.argument start (tree.argument end (tree.argument more rest)))) e h = absurd cc
extent_valid tree.null e h = absurd cc
extent_valid (tree.flag b) e h = absurd cc
extent_valid (tree.whole z) e h = absurd cc
extent_valid tree.inexact e h = absurd cc
extent_valid (tree.text s) e h = absurd cc
extent_valid (tree.object ms) e h = absurd cc
extent_valid (tree.from_node id) e h = absurd cc
extent_valid (tree.from_parameter name) e h = absurd cc
extent_valid (tree.callback ns result) e h = absurd cc

-- ---- intervals

abbrev pub HasInstants : List Interval → Type 0
HasInstants intervals = list_all is_instant (labels_of intervals) ≡ true

starts_valid : (extents : List TemporalExtent) (intervals : List Interval) → list_all starts_in_range extents ≡ true → by_starts extents ≡ Some intervals → HasInstants intervals
starts_valid [] intervals h e = let none : [] ≡ intervals = cc in subst HasInstants none refl
starts_valid (x ∷ extents) intervals h e =
    let both = both_found (λ start rest. labelled_interval x start ∷ rest) x.start (by_starts extents) intervals e in
    let first : is_instant both.0 ≡ true = subst (λ o. option_map_or is_instant o true ≡ true) both.2 (left_of (starts_in_range x) _ h) in
    subst HasInstants both.4 (and_from (is_instant both.0) _ first (starts_valid extents both.1 (right_of (starts_in_range x) _ h) both.3))

mapped : {A B : Type 0} (f : A → B) (o : Option A) (b : B) → option_map f o ≡ Some b → (a : A) × (o ≡ Some a) × (f a ≡ b)
mapped f None b e = absurd cc
mapped f (Some a) b e = (a, refl, cc)

labels_valid : (extents : List TemporalExtent) (labels : List ℤ) (intervals : List Interval) → list_all is_instant labels ≡ true → by_labels extents labels ≡ Some intervals → HasInstants intervals
labels_valid [] [] intervals h e = let none : [] ≡ intervals = cc in subst HasInstants none refl
labels_valid [] (label ∷ labels) intervals h e = absurd cc
labels_valid (x ∷ extents) [] intervals h e = absurd cc
labels_valid (x ∷ extents) (label ∷ labels) intervals h e =
    let rest = mapped (λ l. labelled_interval x label ∷ l) (by_labels extents labels) intervals e in
    subst HasInstants rest.2 (and_from (is_instant label) _ (left_of (is_instant label) _ h) (labels_valid extents labels rest.0 (right_of (is_instant label) _ h) rest.1))

intervals_valid : (extents : List TemporalExtent) (labels : List ℤ) (intervals : List Interval) → list_all starts_in_range extents ≡ true → list_all is_instant labels ≡ true
    → intervals_of extents labels ≡ Some intervals → HasInstants intervals
intervals_valid extents [] intervals h k e = starts_valid extents intervals h e
intervals_valid extents (label ∷ labels) intervals h k e = labels_valid extents (label ∷ labels) intervals k e

intervals_in_valid : (given : Named) (intervals : List Interval) → intervals_in given ≡ Some intervals → HasInstants intervals
intervals_in_valid given intervals e =
    let extents = found _ (read (list_in extent_in) (codes "intervals") given) intervals e in
    let labels = found (intervals_of extents.0) (read (list_in instant_in) (codes "labels") given) intervals extents.2 in
    let from = found (list_in extent_in) (argument_named (codes "intervals") given) extents.0 extents.1 in
    let by = found (list_in instant_in) (argument_named (codes "labels") given) labels.0 labels.1 in
    intervals_valid extents.0 labels.0 intervals
    (list_passes extent_in starts_in_range extent_valid from.0 extents.0 from.2)
    (list_passes instant_in is_instant instant_valid by.0 labels.0 by.2) labels.2

-- ---- requests

-- what a request brings
abbrev pub Brings : CubeRequest → Type 0
Brings (load_collection id box time bands) = IfSome bands AreBands
Brings (filter_bbox data_id box) = ⊤
Brings (filter_temporal data_id time name) = ⊤
Brings (filter_bands data_id bands) = AreBands bands
Brings (apply data_id c) = ⊤
Brings (apply_kernel data_id kernel factor border replace) = ⊤
Brings (reduce_dimension data_id name c) = ⊤
Brings (aggregate_temporal data_id intervals name c) = HasInstants intervals
Brings (aggregate_temporal_period data_id period name c) = ⊤
Brings (apply_dimension data_id callback) = ⊤
Brings (merge_cubes one two resolver) = ⊤
Brings (mask data_id mask_id replacement) = ⊤
Brings (save_result data_id format) = ⊤

operation_brings : (r : CubeRequest) (cubes : List Outline) (operation : Operation) → operation_of r cubes ≡ Some operation → IsShape (first_or no_outline cubes).shape → Brings r → HasDistinctLabels operation → BringsLabels operation
operation_brings (load_collection id box time bands) cubes operation e v b d =
    let same : keep (record { box = box; time = time; bands = bands }) ≡ operation = cc in subst BringsLabels same b
operation_brings (filter_bbox data_id box) cubes operation e v b d =
    let same : keep (record { box = Some box; time = None; bands = None }) ≡ operation = cc in subst BringsLabels same tt
operation_brings (filter_temporal data_id time name) cubes operation e v b d =
    let same : keep (record { box = None; time = Some time; bands = None }) ≡ operation = cc in subst BringsLabels same tt
operation_brings (filter_bands data_id bands) cubes operation e v b d =
    let same : keep (record { box = None; time = None; bands = Some bands }) ≡ operation = cc in subst BringsLabels same b
operation_brings (apply data_id c) cubes operation e v b d = let same : each_cell (callback_under (scope.apply (first_or no_outline cubes).kind) c) ≡ operation = cc in subst BringsLabels same tt
operation_brings (apply_kernel data_id kernel factor border replace) cubes operation e v b d = let same : convolve kernel factor border replace ≡ operation = cc in subst BringsLabels same tt
operation_brings (reduce_dimension data_id name c) cubes operation e v b d =
    let kind = mapped _ (dimension_named name) operation e in subst BringsLabels kind.2 tt
operation_brings (aggregate_temporal data_id intervals name c) cubes operation e v b d =
    let same : aggregate intervals (callback_under (interval_scope intervals (first_or no_outline cubes)) c) ≡ operation = cc in
    subst BringsLabels same (record { differ = subst HasDistinctLabels (sym same) d; in_range = b })
operation_brings (aggregate_temporal_period data_id period name c) cubes operation e v b d =
    let intervals = period_intervals period (number_labels (first_or no_outline cubes).shape Time) in
    let same : aggregate intervals (callback_under (interval_scope intervals (first_or no_outline cubes)) c) ≡ operation = cc in
    subst BringsLabels same (period_labels period (first_or no_outline cubes).shape v)
operation_brings (apply_dimension data_id callback) cubes operation e v b d = let same : accumulate (ignores_nulls callback) ≡ operation = cc in subst BringsLabels same tt
operation_brings (merge_cubes one two resolver) cubes operation e v b d = let same : merge (option_map (callback_under (scope.merge (first_or no_outline cubes).kind)) resolver) ≡ operation = cc in subst BringsLabels same tt
operation_brings (mask data_id mask_id replacement) cubes operation e v b d = let same : cover replacement ≡ operation = cc in subst BringsLabels same tt
operation_brings (save_result data_id format) cubes operation e v b d = let same : give_back ≡ operation = cc in subst BringsLabels same tt

module _ (given : Named) where
  load_brings : (r : CubeRequest) → cube_request_of LoadCollection given ≡ Some r → Brings r
  load_brings r e =
      let p = passed (passes is_null_or_empty_object (codes "properties") given) _ r e in
      let id = found _ (read text_in (codes "id") given) r p in
      let box = found _ (read (null_or box_in) (codes "spatial_extent") given) r id.2 in
      let rest = both_found (load_collection id.0 box.0) (read (null_or extent_in) (codes "temporal_extent") given) (read (null_or some_bands_in) (codes "bands") given) r box.2 in
      let bands = found (null_or some_bands_in) (argument_named (codes "bands") given) rest.1 rest.3 in
      subst Brings rest.4 (null_or_valid some_bands_in AreBands some_bands_valid bands.0 rest.1 bands.2)

  bands_brings : (r : CubeRequest) → cube_request_of FilterBands given ≡ Some r → Brings r
  bands_brings r e =
      let p = passed (passes is_empty_list (codes "wavelengths") given) _ r e in
      let b = both_found filter_bands (read cube_in (codes "data") given) (read bands_in (codes "bands") given) r p in
      let bands = found bands_in (argument_named (codes "bands") given) b.1 b.3 in
      subst Brings b.4 (bands_valid bands.0 b.1 bands.2)

  aggregate_brings : (r : CubeRequest) → cube_request_of AggregateTemporal given ≡ Some r → Brings r
  aggregate_brings r e =
      let d = found _ (read cube_in (codes "data") given) r e in
      let i = found _ (intervals_in given) r d.2 in
      let b = both_found (aggregate_temporal d.0 i.0) (read (null_or text_in) (codes "dimension") given) (called_in (codes "reducer") given) r i.2 in
      subst Brings b.4 (intervals_in_valid given i.0 i.1)

  pub request_brings : (process : CubeProcess) (r : CubeRequest) → cube_request_of process given ≡ Some r → Brings r
  request_brings AggregateTemporal r e = aggregate_brings r e
  request_brings AggregateTemporalPeriod r e =
      let d = found _ (read cube_in (codes "data") given) r e in
      let p = found _ (read period_in (codes "period") given) r d.2 in
      let b = both_found (aggregate_temporal_period d.0 p.0) (read (null_or text_in) (codes "dimension") given) (called_in (codes "reducer") given) r p.2 in
      subst Brings b.4 tt
  request_brings ApplyDimension r e =
      let t = passed (passes is_time_name (codes "dimension") given) _ r e in
      let u = passed (passes is_null (codes "target_dimension") given) _ r t in
      let c = found _ (read literal_in (codes "context") given) r u in
      let b = both_found apply_dimension (read cube_in (codes "data") given) (read callback_in (codes "process") given) r c.2 in
      subst Brings b.4 tt
  request_brings FilterBands r e = bands_brings r e
  request_brings LoadCollection r e = load_brings r e
  request_brings Apply r e =
      let b = both_found apply (read cube_in (codes "data") given) (called_in (codes "process") given) r e in subst Brings b.4 tt
  request_brings ApplyKernel r e =
      let d = found _ (read cube_in (codes "data") given) r e in
      let k = found _ (read kernel_in (codes "kernel") given) r d.2 in
      let f = found _ (read number_in (codes "factor") given) r k.2 in
      let b = both_found (apply_kernel d.0 k.0 f.0) (read border_in (codes "border") given) (read number_in (codes "replace_invalid") given) r f.2 in
      subst Brings b.4 tt
  request_brings FilterBbox r e =
      let b = both_found filter_bbox (read cube_in (codes "data") given) (read box_in (codes "extent") given) r e in subst Brings b.4 tt
  request_brings FilterTemporal r e =
      let d = found _ (read cube_in (codes "data") given) r e in
      let b = both_found (filter_temporal d.0) (read extent_in (codes "extent") given) (read (null_or text_in) (codes "dimension") given) r d.2 in
      subst Brings b.4 tt
  request_brings Mask r e =
      let d = found _ (read cube_in (codes "data") given) r e in
      let b = both_found (mask d.0) (read cube_in (codes "mask") given) (read literal_in (codes "replacement") given) r d.2 in
      subst Brings b.4 tt
  request_brings MergeCubes r e =
      let one = found _ (read cube_in (codes "cube1") given) r e in
      let b = both_found (merge_cubes one.0) (read cube_in (codes "cube2") given) (resolver_in given) r one.2 in
      subst Brings b.4 tt
  request_brings ReduceDimension r e =
      let d = found _ (read cube_in (codes "data") given) r e in
      let b = both_found (reduce_dimension d.0) (read text_in (codes "dimension") given) (called_in (codes "reducer") given) r d.2 in
      subst Brings b.4 tt
  request_brings SaveResult r e =
      let p = passed _ _ r e in
      let b = both_found save_result (read cube_in (codes "data") given) (read text_in (codes "format") given) r p in
      subst Brings b.4 tt

pub bring_valid_labels : BringValidLabels
bring_valid_labels = record {
  each = λ n r cubes operation v e f d.
      let process = found _ (cube_process_named n.process_id) r e in
      operation_brings r cubes operation f v (request_brings n.arguments process.0 r process.2) d;
}
