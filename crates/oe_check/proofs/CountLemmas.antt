-- Whether the label sets of two cubes differ is told by how many labels these and their merge have.
use Rattle.std.proofs.Common.{◌≡◌, ◌≢◌, ◌⊎◌, inl, inr, ℕ, ℤ, suc, ◌+◌, ◌<◌, ◌≤◌, Bool, true, false, ◌||◌, ◌&&◌, not, if◌then◌else◌, List, [], ◌∷◌, ◌++◌, length, Option, Some, None, option_map, refl, sym, ap, ◌∙◌, subst, arith, nat_eq, true≢false}
use Rattle.std.specs.Cmp.{IsEquivalence, both_ways}
use Rattle.std.specs.List.{AllByRecursion, IsDistinct, list_any}
use Rattle.std.specs.Prelude.{unwrap_or}
use Rattle.std.proofs.lemmas.Bool.{cases_Bool, and_parts, or_parts, not-true, false≢true}
use Rattle.std.proofs.lemmas.Bool.Decides.{nat_tests}
use Rattle.std.proofs.lemmas.List.{length-append}
use Rattle.std.proofs.lemmas.Map.Made.{length-le_from_is_member}
use Rattle.oe_dims.specs.Dimensions.{Dimensions, IsShape, number_labels, band_names, label_count, all_differ}
use Rattle.oe_dims.specs.Indices.{same_number}
use Rattle.oe_dims.specs.Names.{same_name}
use Rattle.oe_dims.specs.declared.kind.Kind.{Kind}
use Rattle.oe_dims.specs.declared.kind.Kind.TheVariants.{Time, Bands, Y, X}
use Rattle.oe_dims.proofs.IndexLemmas.{same_number_is, same_number_refl}
use Rattle.oe_dims.proofs.OrderLemmas.{same_name_is, same_name_refl}
use Rattle.oe_dims.proofs.ShapeLemmas.{numbers_rise, y_falls, bands_differ}
use Rattle.oe_requests.specs.Labels.{is_below, is_above, insert_label, sorted_labels, new_among, all_in_order, all_bands, shape_of_merge, are_distinct, are_among, differ_in, differ_along}
use Rattle.oe_meanings.proofs.OrderedLemmas.{below_is_order, above_is_order, ordered_differ, rises_stand, falls_stand}

-- ---- counts and tests

pub not_equal : (n m : ℕ) → n ≢ m → not (nat_eq n m) ≡ true
not_equal n m h = grind (arith, nat_tests)

equal : (n m : ℕ) → n ≡ m → not (nat_eq n m) ≡ false
equal n m h = grind (arith, nat_tests)

-- ---- labels of any type

module _ (L : Type 0) (same : L → L → Bool) (same_is : (a b : L) → same a b ≡ true → b ≡ a) (same_refl : (a : L) → same a a ≡ true) where
  laws : IsEquivalence same
  laws = record {
    refl = same_refl;
    symm = λ a b.
        both_ways (same a b) (same b a)
        (λ h. ap (λ c. same c a) (same_is a b h) ∙ same_refl a) (λ h. ap (λ c. same c b) (same_is b a h) ∙ same_refl b);
    congr = λ a b c h. ap (λ d. same d c) (sym (same_is a b h));
  }

  none_same : (a : L) (labels : List L) → list_any (same a) labels ≡ false → AllByRecursion (λ b. same a b ≡ false) labels
  none_same a [] h = tt
  none_same a (b ∷ labels) h = let parts = or_parts _ _ h in (parts.0, none_same a labels parts.1)

  distinct : (labels : List L) → are_distinct same labels ≡ true → IsDistinct same labels
  unfolding IsDistinct
  distinct [] h = tt
  distinct (a ∷ labels) h =
      let parts = and_parts _ _ h in (none_same a labels (not-true _ parts.0), distinct labels parts.1)

  -- each label of the second is one of the first
  moved : (one two : List L) → are_among same one two ≡ true → (q : L) → list_any (same q) two ≡ true → list_any (same q) one ≡ true
  moved one [] h q has = absurd (false≢true has)
  moved one (b ∷ two) h q has = by (cases_Bool (same q b)) (moved one two (and_parts _ _ h).1 q)
    where
      by : (same q b ≡ true) ⊎ (same q b ≡ false) → (list_any (same q) two ≡ true → list_any (same q) one ≡ true) → list_any (same q) one ≡ true
      by (inl t) rest = subst (λ c. list_any (same c) one ≡ true) (same_is q b t) (and_parts _ _ h).0
      by (inr f) rest = rest (rw f at has)

  fewer : (one two : List L) → are_distinct same two ≡ true → are_among same one two ≡ true → length two ≤ length one
  fewer one two d h = length-le_from_is_member laws two one (distinct two d) (moved one two h)

  -- a label of the first that the second lacks
  outside : (one two : List L) → are_among same two one ≡ false
      → (a : L) × (list_any (same a) one ≡ true) × (list_any (same a) two ≡ false)
  outside [] two h = absurd (true≢false h)
  outside (a ∷ one) two h = by (cases_Bool (list_any (same a) two)) (outside one two)
    where
      later : (c b : Bool) → b ≡ true → (c || b) ≡ true
      later true b e = refl
      later false b e = e

      by : (list_any (same a) two ≡ true) ⊎ (list_any (same a) two ≡ false)
          → (are_among same two one ≡ false → (c : L) × (list_any (same c) one ≡ true) × (list_any (same c) two ≡ false))
          → (c : L) × (list_any (same c) (a ∷ one) ≡ true) × (list_any (same c) two ≡ false)
      by (inl t) rest = let r = rest (rw t at h) in (r.0, later (same r.0 a) _ r.1, r.2)
      by (inr f) rest = (a, ap (λ b. b || list_any (same a) one) (same_refl a), f)

  more : (one two : List L) → are_distinct same two ≡ true → are_among same one two ≡ true → are_among same two one ≡ false
      → suc (length two) ≤ length one
  unfolding IsDistinct
  more one two d h k =
      let r = outside one two k in
      length-le_from_is_member laws (r.0 ∷ two) one (none_same r.0 two r.2, distinct two d) (λ q has. by r.0 r.1 q has (cases_Bool (same q r.0)))
    where
      by : (a : L) → list_any (same a) one ≡ true → (q : L) → list_any (same q) (a ∷ two) ≡ true → (same q a ≡ true) ⊎ (same q a ≡ false)
          → list_any (same q) one ≡ true
      by a there q has (inl t) = subst (λ c. list_any (same c) one ≡ true) (same_is q a t) there
      by a there q has (inr f) = moved one two h q (rw f at has)

  none_new : (one two : List L) → are_among same one two ≡ true → new_among same one two ≡ []
  none_new one [] h = refl
  none_new one (b ∷ two) h =
      let parts = and_parts _ _ h in
      let here : list_any (same b) one ≡ true = parts.0 in
      rw here (none_new one two parts.1)

  some_new : (one two : List L) → are_among same one two ≡ false → 0 < length (new_among same one two)
  some_new one [] h = absurd (true≢false h)
  some_new one (b ∷ two) h = by (cases_Bool (list_any (same b) one)) (some_new one two)
    where
      by : (list_any (same b) one ≡ true) ⊎ (list_any (same b) one ≡ false) → (are_among same one two ≡ false → 0 < length (new_among same one two))
          → 0 < length (new_among same one (b ∷ two))
      by (inl t) rest = rw t (rest (rw t at h))
      by (inr f) rest = rw f (omega arith)

  not_both : (b c : Bool) → (b ≡ true → c ≡ true → ⊥) → not (b && c) ≡ true
  not_both true true h = absurd (h refl refl)
  not_both true false h = refl
  not_both false c h = refl

  -- other counts
  many : (one two : List L) → are_distinct same one ≡ true → are_distinct same two ≡ true → length one ≢ length two
      → differ_in same (Some one) (Some two) ≡ true
  many one two d e other =
      not_both (are_among same two one) (are_among same one two)
      (λ h k. let less = fewer one two e k in let least = fewer two one d h in other (omega arith))

  -- the same counts
  alike : (one two : List L) (joined : ℕ) → are_distinct same two ≡ true → length one ≡ length two
      → joined ≡ length (one ++ new_among same one two) → not (nat_eq joined (length one)) ≡ differ_in same (Some one) (Some two)
  alike one two joined e counts joins = by (are_among same two one) (are_among same one two) refl refl
    where
      long : joined ≡ length one + length (new_among same one two)
      long = joins ∙ length-append one (new_among same one two)

      by : (b c : Bool) → are_among same two one ≡ b → are_among same one two ≡ c → not (nat_eq joined (length one)) ≡ not (b && c)
      by true true h k =
          let none : length (new_among same one two) ≡ 0 = ap length (none_new one two k) in
          equal joined (length one) (omega (arith, long))
      by true false h k = let some = some_new one two k in not_equal joined (length one) (omega (arith, long))
      by false true h k = let less = more one two e k h in absurd (omega arith)
      by false false h k = let some = some_new one two k in not_equal joined (length one) (omega (arith, long))

  -- along a dimension that both have
  module _ (one two : Option (List L)) (d : are_distinct same (unwrap_or one []) ≡ true) (e : are_distinct same (unwrap_or two []) ≡ true)
      (first second : ℕ) (has_first : option_map length one ≡ Some first) (has_second : option_map length two ≡ Some second) where
    many_there : first ≢ second → differ_in same one two ≡ true
    many_there other = by one two d e has_first has_second
      where
        by : (o p : Option (List L)) → are_distinct same (unwrap_or o []) ≡ true → are_distinct same (unwrap_or p []) ≡ true
            → option_map length o ≡ Some first → option_map length p ≡ Some second → differ_in same o p ≡ true
        by None p d e f s = absurd cc
        by (Some a) None d e f s = absurd cc
        by (Some a) (Some b) d e f s =
            let f_is : length a ≡ first = cc in
            let s_is : length b ≡ second = cc in
            many a b d e (λ same_count. other (sym f_is ∙ (same_count ∙ s_is)))

    alike_there : (joined : Option (List L)) → ((a b : List L) → one ≡ Some a → two ≡ Some b → option_map length joined ≡ Some (length (a ++ new_among same a b)))
        → first ≡ second → not (nat_eq (unwrap_or (option_map length joined) 0) first) ≡ differ_in same one two
    alike_there joined joins counts = by one two e has_first has_second joins
      where
        by : (o p : Option (List L)) → are_distinct same (unwrap_or p []) ≡ true → option_map length o ≡ Some first → option_map length p ≡ Some second
            → ((a b : List L) → o ≡ Some a → p ≡ Some b → option_map length joined ≡ Some (length (a ++ new_among same a b)))
            → not (nat_eq (unwrap_or (option_map length joined) 0) first) ≡ differ_in same o p
        by None p e f s joins = absurd cc
        by (Some a) None e f s joins = absurd cc
        by (Some a) (Some b) e f s joins =
            let f_is : length a ≡ first = cc in
            let s_is : length b ≡ second = cc in
            ap (λ n. not (nat_eq (unwrap_or (option_map length joined) 0) n)) (sym f_is)
            ∙ alike a b (unwrap_or (option_map length joined) 0) e (f_is ∙ (counts ∙ sym s_is))
            (ap (λ o. unwrap_or o 0) (joins a b refl refl))

-- ---- the labels of shapes

put_count : (is_before : ℤ → ℤ → Bool) (label : ℤ) (labels : List ℤ) → length (insert_label is_before label labels) ≡ suc (length labels)
put_count is_before label [] = refl
put_count is_before label (other ∷ labels) = by (is_before label other) refl (put_count is_before label labels)
  where
    by : (b : Bool) → is_before label other ≡ b → length (insert_label is_before label labels) ≡ suc (length labels)
        → length (if b then label ∷ other ∷ labels else other ∷ insert_label is_before label labels) ≡ suc (suc (length labels))
    by true is rest = refl
    by false is rest = ap suc rest

order_count : (is_before : ℤ → ℤ → Bool) (labels : List ℤ) → length (sorted_labels is_before labels) ≡ length labels
order_count is_before [] = refl
order_count is_before (label ∷ labels) =
    put_count is_before label (sorted_labels is_before labels) ∙ ap suc (order_count is_before labels)

joined_numbers : (is_before : ℤ → ℤ → Bool) (one two : Option (List ℤ)) (a b : List ℤ) → one ≡ Some a → two ≡ Some b
    → option_map length (all_in_order is_before one two) ≡ Some (length (a ++ new_among same_number a b))
joined_numbers is_before one two a b e f =
    rw (e, f) (ap Some (order_count is_before (a ++ new_among same_number a b)))

joined_bands : (one two : Option (List (List ℕ))) (a b : List (List ℕ)) → one ≡ Some a → two ≡ Some b
    → option_map length (all_bands one two) ≡ Some (length (a ++ new_among same_name a b))
joined_bands one two a b e f = rw (e, f) refl

are_differ : (names : List (List ℕ)) → are_distinct same_name names ≡ all_differ names
are_differ [] = refl
are_differ (name ∷ names) = ap (λ b. not (list_any (same_name name) names) && b) (are_differ names)

numbers_distinct : (kind : Kind) (d : Dimensions) → (kind ≡ Y → ⊥) → IsShape d → are_distinct same_number (number_labels d kind) ≡ true
numbers_distinct kind d not_y h =
    ordered_differ is_below below_is_order (number_labels d kind) (rises_stand (number_labels d kind) (numbers_rise d kind h not_y))

y_distinct : (d : Dimensions) → IsShape d → are_distinct same_number (number_labels d Y) ≡ true
y_distinct d h = ordered_differ is_above above_is_order (number_labels d Y) (falls_stand (number_labels d Y) (y_falls d h))

bands_distinct : (d : Dimensions) → IsShape d → are_distinct same_name (band_names d) ≡ true
bands_distinct d h = are_differ (band_names d) ∙ bands_differ d h

time_not_y : Time ≡ Y → ⊥
time_not_y e = absurd cc

x_not_y : X ≡ Y → ⊥
x_not_y e = absurd cc

module _ (one two : Dimensions) (h : IsShape one) (k : IsShape two) (first second : ℕ) where
  pub many_along : (kind : Kind) → label_count one kind ≡ Some first → label_count two kind ≡ Some second → first ≢ second
      → differ_along kind one two ≡ true
  many_along Time f s other =
      many_there ℤ same_number same_number_is same_number_refl one.t two.t (numbers_distinct Time one time_not_y h) (numbers_distinct Time two time_not_y k) first second f s other
  many_along Bands f s other =
      many_there (List ℕ) same_name same_name_is same_name_refl one.bands two.bands (bands_distinct one h) (bands_distinct two k) first second f s other
  many_along Y f s other =
      many_there ℤ same_number same_number_is same_number_refl one.y two.y (y_distinct one h) (y_distinct two k) first second f s other
  many_along X f s other =
      many_there ℤ same_number same_number_is same_number_refl one.x two.x (numbers_distinct X one x_not_y h) (numbers_distinct X two x_not_y k) first second f s other

  pub alike_along : (kind : Kind) → label_count one kind ≡ Some first → label_count two kind ≡ Some second → first ≡ second
      → not (nat_eq (unwrap_or (label_count (shape_of_merge one two) kind) 0) first) ≡ differ_along kind one two
  alike_along Time f s counts =
      alike_there ℤ same_number same_number_is same_number_refl one.t two.t (numbers_distinct Time one time_not_y h) (numbers_distinct Time two time_not_y k) first second f s
      (all_in_order is_below one.t two.t) (joined_numbers is_below one.t two.t) counts
  alike_along Bands f s counts =
      alike_there (List ℕ) same_name same_name_is same_name_refl one.bands two.bands (bands_distinct one h) (bands_distinct two k) first second f s
      (all_bands one.bands two.bands) (joined_bands one.bands two.bands) counts
  alike_along Y f s counts =
      alike_there ℤ same_number same_number_is same_number_refl one.y two.y (y_distinct one h) (y_distinct two k) first second f s
      (all_in_order is_above one.y two.y) (joined_numbers is_above one.y two.y) counts
  alike_along X f s counts =
      alike_there ℤ same_number same_number_is same_number_refl one.x two.x (numbers_distinct X one x_not_y h) (numbers_distinct X two x_not_y k) first second f s
      (all_in_order is_below one.x two.x) (joined_numbers is_below one.x two.x) counts
