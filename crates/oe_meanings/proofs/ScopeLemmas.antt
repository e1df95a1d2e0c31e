-- What an operation gives its callback to see is a scope, and which labels its lists have.
use Rattle.std.proofs.Common.{◌≡◌, ◌≢◌, ℕ, zero, suc, ◌<◌, ◌≤◌, ◌^◌, Bool, true, false, not, List, [], ◌∷◌, length, filter, map, refl, sym, ap, ◌∙◌, subst, arith, Option, Some, None, ℤ, true≢false}
use Rattle.std.specs.Prelude.{All, AllPairs, slice_get, slice_index_or}
use Rattle.std.proofs.lemmas.Int.{ints}
use Rattle.std.proofs.lemmas.List.{length-map}
use Rattle.std.proofs.lemmas.List.Elements.{All-map}
use Rattle.std.proofs.lemmas.List.Sums.{length-filter, count_by-le-length}
use Rattle.std.proofs.lemmas.Option.{slice_get-get_or}
use Rattle.oe_dims.proofs.ReaderLemmas.{IsUnrepeated, IsUnrepeated-numbers, IsUnrepeated-names}
use Rattle.oe_dims.proofs.ShapeLemmas.{bands_differ, numbers_within, names_within, t_rises}
use Rattle.oe_dims.specs.Dimensions.{Dimensions, IsShape, rises, number_labels, band_names}
use Rattle.oe_dims.specs.Plain.{plain_instants}
use Rattle.oe_dims.specs.declared.kind.Kind.{Kind}
use Rattle.oe_dims.specs.declared.kind.Kind.TheVariants.{Time, Bands, Y, X}
use Rattle.oe_expr.specs.Scope.{count_labels, labels_in, list_labels, AreDistinct, LiesWithin, IsScope}
use Rattle.oe_meanings.proofs.CellKindLemmas.{all_labels}
use Rattle.oe_meanings.proofs.TimeLemmas.{part_in_time_is}
use Rattle.oe_requests.specs.Extents.{has_begun, has_not_ended, is_empty_extent, part_in_time, labels_in_time}
use Rattle.oe_requests.specs.declared.extent.TemporalExtent.{TemporalExtent}
use Rattle.oe_requests.specs.Operations.{Outline, labels_along, reduction_scope, interval_scope}
use Rattle.oe_requests.specs.declared.extent.Interval.{Interval}
use Rattle.oe_meanings.specs.Scopes.{GiveScopes}

pairs_differ : {L : Type 0} (labels : List L) → IsUnrepeated labels → AllPairs (λ a b. a ≢ b) labels
pairs_differ labels u i j d lt l e =
    let at_i = slice_get-get_or labels i d (omega arith) in
    let at_j : slice_get labels j ≡ Some (slice_index_or labels i d) = slice_get-get_or labels j d l ∙ ap Some (sym e) in
    let same : i ≡ j = u.one i j (slice_index_or labels i d) at_i at_j in
    omega arith

distinct_along : (kind : Kind) (d : Dimensions) → IsShape d → AreDistinct (labels_along kind d)
distinct_along Time d h = pairs_differ (number_labels d Time) (IsUnrepeated-numbers d Time h)
distinct_along Bands d h = pairs_differ (band_names d) (IsUnrepeated-names (band_names d) (bands_differ d h))
distinct_along Y d h = pairs_differ (number_labels d Y) (IsUnrepeated-numbers d Y h)
distinct_along X d h = pairs_differ (number_labels d X) (IsUnrepeated-numbers d X h)

few_along : (kind : Kind) (d : Dimensions) → IsShape d → count_labels (labels_along kind d) < 2 ^ 32
few_along Time d h = let few = numbers_within d Time h in omega arith
few_along Bands d h = let few = names_within d h in omega arith
few_along Y d h = let few = numbers_within d Y h in omega arith
few_along X d h = let few = numbers_within d X h in omega arith

-- ---- `reduce_dimension`

whole_within : (count : ℕ) → All (LiesWithin count) (record { from = 0; to = count } ∷ [])
whole_within count zero d l = record { rises = omega arith; ends = omega arith }
whole_within count (suc k) d l = absurd (omega arith)

of_reduction : (kind : Kind) (cube : Outline) → IsShape cube.shape → IsScope (reduction_scope kind cube)
of_reduction kind cube h = record {
  within = whole_within (count_labels (labels_along kind cube.shape));
  distinct = distinct_along kind cube.shape h;
  few_labels = few_along kind cube.shape h;
  few_lists = omega arith;
}

-- ---- `aggregate_temporal`

filter_fewer : {A : Type 0} (p q : A → Bool) → ((x : A) → p x ≡ true → q x ≡ true) → (xs : List A) → length (filter p xs) ≤ length (filter q xs)
filter_fewer p q h [] = omega arith
filter_fewer p q h (x ∷ xs) = by (p x) (q x) refl refl (filter_fewer p q h xs)
  where
    by : (a b : Bool) → p x ≡ a → q x ≡ b → length (filter p xs) ≤ length (filter q xs) → length (filter p (x ∷ xs)) ≤ length (filter q (x ∷ xs))
    by true true a b rest = rw (a, b) (omega (arith, rest))
    by true false a b rest = absurd (true≢false (sym (h x a) ∙ b))
    by false true a b rest = rw (a, b) (omega (arith, rest))
    by false false a b rest = rw (a, b) rest

-- a label before the start of an extent is before its end
before_both : (e : TemporalExtent) → is_empty_extent e ≡ false → (label : ℤ) → not (has_begun e label) ≡ true → has_not_ended e label ≡ true
before_both e h label b = by e.start e.end h b
  where
    by : (start end : Option ℤ) → is_empty_extent (record { start = start; end = end }) ≡ false → not (has_begun (record { start = start; end = end }) label) ≡ true
        → has_not_ended (record { start = start; end = end }) label ≡ true
    by start None h b = refl
    by None (Some t) h b = absurd (true≢false (sym b))
    by (Some s) (Some t) h b = grind (arith, ints)

part_within : (e : TemporalExtent) (labels : List ℤ) → is_empty_extent e ≡ false → LiesWithin (length labels) (part_in_time e labels)
part_within e labels h = record {
  rises =
      let fewer = filter_fewer (λ label. not (has_begun e label)) (has_not_ended e) (before_both e h) labels in
      rw (← length-filter (λ label. not (has_begun e label)) labels, ← length-filter (has_not_ended e) labels) fewer;
  ends = count_by-le-length (has_not_ended e) labels;
}

of_intervals : (intervals : List Interval) (cube : Outline) → IsShape cube.shape → All (λ (i : Interval). is_empty_extent i.extent ≡ false) intervals → length intervals < 2 ^ 32
    → IsScope (interval_scope intervals cube)
of_intervals intervals cube h ends few =
    let labels = number_labels cube.shape Time in
    let part = λ (i : Interval). part_in_time i.extent labels in
    record {
      within = All-map (LiesWithin (length labels)) part intervals (λ k d l. part_within (slice_index_or intervals k d).extent labels (ends k d l));
      distinct = distinct_along Time cube.shape h;
      few_labels = few_along Time cube.shape h;
      few_lists = subst (λ n. n < 2 ^ 32) (sym (length-map intervals part)) few;
    }

-- ---- the labels of the lists

reduction_lists : (kind : Kind) (cube : Outline) → list_labels (reduction_scope kind cube) ≡ labels_along kind cube.shape ∷ []
reduction_lists kind cube = ap (λ l. l ∷ []) (all_labels (labels_along kind cube.shape))

lists_inside : (labels : List ℤ) → rises labels ≡ true → (intervals : List Interval)
    → map (labels_in (plain_instants labels)) (map (λ (i : Interval). part_in_time i.extent labels) intervals)
    ≡ map (λ (i : Interval). plain_instants (labels_in_time i.extent labels)) intervals
lists_inside labels h [] = refl
lists_inside labels h (i ∷ intervals) =
    ap (λ l. plain_instants l ∷ map (labels_in (plain_instants labels)) (map (λ (j : Interval). part_in_time j.extent labels) intervals)) (sym (part_in_time_is i.extent labels h))
    ∙ ap (λ rest. plain_instants (labels_in_time i.extent labels) ∷ rest) (lists_inside labels h intervals)

interval_lists : (intervals : List Interval) (cube : Outline) → IsShape cube.shape
    → list_labels (interval_scope intervals cube) ≡ map (λ (i : Interval). plain_instants (labels_in_time i.extent (number_labels cube.shape Time))) intervals
interval_lists intervals cube h = lists_inside (number_labels cube.shape Time) (t_rises cube.shape h) intervals

pub gives_scopes : GiveScopes
gives_scopes = record {
  of_reduction = of_reduction;
  of_intervals = of_intervals;
  reduction_lists = reduction_lists;
  interval_lists = interval_lists;
}
