-- Sorted labels are those in order: two sorted lists with the same members are equal.
use Rattle.std.proofs.Common.{◌≡◌, ℕ, zero, suc, ◌+◌, ◌<◌, ◌≤◌, Bool, true, false, ◌&&◌, cond, refl, sym, ap, ◌∙◌, subst, arith, inl, inr, List, [], ◌∷◌, length, get_or, ℤ, int_lt}
use Rattle.std.specs.Cmp.{IsStrictWeakOrder}
use Rattle.std.specs.List.{All, list_all, sum_by}
use Rattle.std.specs.List.Sorted.{IsSortedBy, IsPermutation}
use Rattle.std.specs.Ordering.{int_cmp, is_lt}
use Rattle.std.proofs.lemmas.Int.{ints}
use Rattle.std.proofs.lemmas.Bool.{cases_Bool, cond-true, cond-false}
use Rattle.std.proofs.lemmas.List.Elements.{All-head, All-tail}
use Rattle.std.proofs.lemmas.List.Sorted.{sorted_far, sum_by-IsPermutation}
use Rattle.std.proofs.lemmas.List.Sums.{sum_by-cons}
use Rattle.oe_dims.specs.Indices.{same_number}
use Rattle.oe_meanings.proofs.OrderedLemmas.{IsOrder, below_is_order, above_is_order, stand_in_order, order_stands, left_of, right_of}
use Rattle.oe_requests.specs.Labels.{is_below, is_above, insert_label, sorted_labels, are_distinct}

module _ (is_before : ℤ → ℤ → Bool) (ranks : IsStrictWeakOrder is_before) (ties : (x y : ℤ) → is_before x y ≡ false → is_before y x ≡ false → x ≡ y) where
  -- 1 for each label that stands before x
  abbrev before_count : ℤ → ℤ → ℕ
  before_count x z = cond (is_before z x) 1 0

  none_before : (x : ℤ) (zs : List ℤ) → All (λ z. is_before z x ≡ false) zs → sum_by (before_count x) zs ≡ 0
  none_before x [] h = refl
  none_before x (z ∷ zs) h =
      let first : before_count x z ≡ 0 = cond-false (is_before z x) 1 0 (All-head (λ z. is_before z x ≡ false) z zs h) in
      let rest : sum_by (before_count x) zs ≡ 0 = none_before x zs (All-tail (λ z. is_before z x ≡ false) z zs h) in
      let whole : sum_by (before_count x) (z ∷ zs) ≡ before_count x z + sum_by (before_count x) zs = sum_by-cons (before_count x) z zs in
      omega (arith, first, rest, whole)

  not_before : (x y : ℤ) → before_count x y ≡ 0 → is_before y x ≡ false
  not_before x y h = elim (cases_Bool (is_before y x)) [
    | inl e ↦ (let one : before_count x y ≡ 1 = cond-true (is_before y x) 1 0 e in absurd (omega (arith, h, one)))
    | inr e ↦ e
  ]

  -- the first of a sorted list stands after none of another with the same sums
  first_before : (x : ℤ) (xs : List ℤ) (y : ℤ) (ys : List ℤ) → IsSortedBy is_before (x ∷ xs) → ((f : ℤ → ℕ) → sum_by f (x ∷ xs) ≡ sum_by f (y ∷ ys)) → is_before y x ≡ false
  first_before x xs y ys up same =
      let none : sum_by (before_count x) (x ∷ xs) ≡ 0 = none_before x (x ∷ xs) (λ k d h. sorted_far is_before ranks (x ∷ xs) up 0 k d (omega arith) h) in
      let other : sum_by (before_count x) (x ∷ xs) ≡ sum_by (before_count x) (y ∷ ys) = same (before_count x) in
      let whole : sum_by (before_count x) (y ∷ ys) ≡ before_count x y + sum_by (before_count x) ys = sum_by-cons (before_count x) y ys in
      not_before x y (omega (arith, none, other, whole))

  sorted_tail : (x : ℤ) (xs : List ℤ) → IsSortedBy is_before (x ∷ xs) → IsSortedBy is_before xs
  sorted_tail x xs up k d low high =
      let within : suc k + 1 < suc (length xs) = omega arith in
      let low' : 0 ≤ suc k = omega arith in
      let e : suc k + 1 ≡ suc (k + 1) = omega arith in
      subst (λ (n : ℕ). is_before (get_or (x ∷ xs) n d) (get_or xs k d) ≡ false) e (up (suc k) d low' within)

  sorted_unique : (xs ys : List ℤ) → IsSortedBy is_before xs → IsSortedBy is_before ys → ((f : ℤ → ℕ) → sum_by f xs ≡ sum_by f ys) → xs ≡ ys
  sorted_unique [] [] up over same = refl
  sorted_unique [] (y ∷ ys) up over same =
      let none : 0 ≡ sum_by (λ (z : ℤ). 1) (y ∷ ys) = same (λ _. 1) in
      let whole : sum_by (λ (z : ℤ). 1) (y ∷ ys) ≡ 1 + sum_by (λ (z : ℤ). 1) ys = sum_by-cons (λ _. 1) y ys in
      absurd (omega (arith, none, whole))
  sorted_unique (x ∷ xs) [] up over same =
      let none : sum_by (λ (z : ℤ). 1) (x ∷ xs) ≡ 0 = same (λ _. 1) in
      let whole : sum_by (λ (z : ℤ). 1) (x ∷ xs) ≡ 1 + sum_by (λ (z : ℤ). 1) xs = sum_by-cons (λ _. 1) x xs in
      absurd (omega (arith, none, whole))
  sorted_unique (x ∷ xs) (y ∷ ys) up over same =
      let e : x ≡ y = ties x y (first_before y ys x xs over (λ f. sym (same f))) (first_before x xs y ys up same) in
      let rest : xs ≡ ys = sorted_unique xs ys (sorted_tail x xs up) (sorted_tail y ys over) (λ f. tail f e (same f)) in
      cc
    where
      tail : (f : ℤ → ℕ) → x ≡ y → sum_by f (x ∷ xs) ≡ sum_by f (y ∷ ys) → sum_by f xs ≡ sum_by f ys
      tail f e h =
          let left : sum_by f (x ∷ xs) ≡ f x + sum_by f xs = sum_by-cons f x xs in
          let right : sum_by f (y ∷ ys) ≡ f y + sum_by f ys = sum_by-cons f y ys in
          let first : f x ≡ f y = ap f e in
          omega (arith, left, right, first, h)

  -- labels in order are the labels
  put_sums : (f : ℤ → ℕ) (x : ℤ) (ys : List ℤ) → sum_by f (insert_label is_before x ys) ≡ f x + sum_by f ys
  put_sums f x [] = sum_by-cons f x []
  put_sums f x (y ∷ ys) = by (is_before x y) refl (put_sums f x ys)
    where
      by : (b : Bool) → is_before x y ≡ b → sum_by f (insert_label is_before x ys) ≡ f x + sum_by f ys
          → sum_by f (insert_label is_before x (y ∷ ys)) ≡ f x + sum_by f (y ∷ ys)
      by true is rest = rw is (sum_by-cons f x (y ∷ ys))
      by false is rest =
          let one = sum_by-cons f y (insert_label is_before x ys) in
          let two = sum_by-cons f y ys in
          rw is (omega (arith, one, two, rest))

  order_sums : (f : ℤ → ℕ) (xs : List ℤ) → sum_by f (sorted_labels is_before xs) ≡ sum_by f xs
  order_sums f [] = refl
  order_sums f (x ∷ xs) =
      let put = put_sums f x (sorted_labels is_before xs) in
      let rest = order_sums f xs in
      let whole = sum_by-cons f x xs in
      omega (arith, put, rest, whole)

  -- and where none stands before itself they are sorted
  stands_sorted : (xs : List ℤ) → stand_in_order is_before xs ≡ true → IsSortedBy is_before xs
  stands_sorted [] h k d low high = absurd (omega (arith, high))
  stands_sorted (x ∷ []) h k d low high = absurd (omega (arith, high))
  stands_sorted (x ∷ y ∷ xs) h zero d low high =
      ranks.one_way x y (left_of (is_before x y) _ (left_of (is_before x y && list_all (is_before x) xs) _ h))
  stands_sorted (x ∷ y ∷ xs) h (suc k) d low high =
      let rest = stands_sorted (y ∷ xs) (right_of (is_before x y && list_all (is_before x) xs) _ h) k d (omega arith) (omega (arith, high)) in
      let e : suc (k + 1) ≡ suc k + 1 = omega arith in
      subst (λ (n : ℕ). is_before (get_or (x ∷ y ∷ xs) n d) (get_or (y ∷ xs) k d) ≡ false) e rest

  -- a sorted list of labels that differ
  sorted_is : IsOrder is_before → (xs ys : List ℤ) → IsPermutation xs ys → IsSortedBy is_before ys → are_distinct same_number xs ≡ true → ys ≡ sorted_labels is_before xs
  sorted_is o xs ys moved up differ =
      sorted_unique ys (sorted_labels is_before xs) up (stands_sorted (sorted_labels is_before xs) (order_stands is_before o xs differ))
      (λ f. sum_by-IsPermutation f xs ys moved ∙ sym (order_sums f xs))

-- ---- along t and x, and along y

abbrev pub compares_below : ℤ → ℤ → Bool
compares_below a b = is_lt (int_cmp a b)

abbrev pub compares_above : ℤ → ℤ → Bool
compares_above a b = is_lt (int_cmp b a)

compare_below : (a b : ℤ) → is_lt (int_cmp a b) ≡ int_lt a b
compare_below a b = grind (arith, ints)

below_ranks : IsStrictWeakOrder is_below
below_ranks = record { one_way = λ x y h. grind (arith, ints); chain = λ x y z h k. grind (arith, ints) }

above_ranks : IsStrictWeakOrder is_above
above_ranks = record { one_way = λ x y h. grind (arith, ints); chain = λ x y z h k. grind (arith, ints) }

below_ties : (x y : ℤ) → is_below x y ≡ false → is_below y x ≡ false → x ≡ y
below_ties x y h k = grind (arith, ints)

above_ties : (x y : ℤ) → is_above x y ≡ false → is_above y x ≡ false → x ≡ y
above_ties x y h k = grind (arith, ints)

pub compares_below_ranks : IsStrictWeakOrder compares_below
compares_below_ranks = record {
  one_way = λ x y h. compare_below y x ∙ below_ranks.one_way x y (sym (compare_below x y) ∙ h);
  chain = λ x y z h k. compare_below x z ∙ below_ranks.chain x y z (sym (compare_below x y) ∙ h) (sym (compare_below y z) ∙ k);
}

pub compares_above_ranks : IsStrictWeakOrder compares_above
compares_above_ranks = record {
  one_way = λ x y h. compare_below x y ∙ above_ranks.one_way x y (sym (compare_below y x) ∙ h);
  chain = λ x y z h k. compare_below z x ∙ above_ranks.chain x y z (sym (compare_below y x) ∙ h) (sym (compare_below z y) ∙ k);
}

pub rising_is : (xs ys : List ℤ) → IsPermutation xs ys → IsSortedBy compares_below ys → are_distinct same_number xs ≡ true → ys ≡ sorted_labels is_below xs
rising_is xs ys moved up differ =
    sorted_is is_below below_ranks below_ties below_is_order xs ys moved (λ k d low high. sym (compare_below (get_or ys (k + 1) d) (get_or ys k d)) ∙ up k d low high) differ

pub falling_is : (xs ys : List ℤ) → IsPermutation xs ys → IsSortedBy compares_above ys → are_distinct same_number xs ≡ true → ys ≡ sorted_labels is_above xs
falling_is xs ys moved up differ =
    sorted_is is_above above_ranks above_ties above_is_order xs ys moved (λ k d low high. sym (compare_below (get_or ys k d) (get_or ys (k + 1) d)) ∙ up k d low high) differ
