-- Labels differ exactly where they rise once they are sorted.
use Rattle.std.proofs.Common.{◌≡◌, ℕ, ◌+◌, ◌≤◌, Bool, true, false, ◌||◌, ◌&&◌, not, cond, refl, sym, ap, ◌∙◌, subst, arith, inl, inr, List, [], ◌∷◌, ℤ, true≢false}
use Rattle.std.specs.List.{list_any, sum_by}
use Rattle.std.specs.List.Sorted.{IsSortedBy, IsPermutation}
use Rattle.std.proofs.lemmas.Bool.{cases_Bool, cond-true, cond-false}
use Rattle.std.proofs.lemmas.List.Sorted.{sum_by-IsPermutation}
use Rattle.std.proofs.lemmas.List.Sums.{sum_by-cons}
use Rattle.oe_dims.proofs.IndexLemmas.{same_number_refl, same_number_is}
use Rattle.oe_dims.specs.Dimensions.{rises}
use Rattle.oe_dims.specs.Indices.{same_number}
use Rattle.oe_meanings.proofs.OrderedLemmas.{left_of, right_of, first_not, second_not, turned, ordered_differ, rises_stand, below_is_order, ordered_rise}
use Rattle.oe_meanings.proofs.SortLemmas.{compares_below, rising_is}
use Rattle.oe_requests.specs.Labels.{is_below, sorted_labels, are_distinct}

-- 1 for each label that is x
abbrev same_count : ℤ → ℤ → ℕ
same_count x z = cond (same_number x z) 1 0

none_counted : (x : ℤ) (zs : List ℤ) → list_any (same_number x) zs ≡ false → sum_by (same_count x) zs ≡ 0
none_counted x [] h = refl
none_counted x (z ∷ zs) h =
    let first : same_count x z ≡ 0 = cond-false (same_number x z) 1 0 (first_not (same_number x z) (list_any (same_number x) zs) h) in
    let rest : sum_by (same_count x) zs ≡ 0 = none_counted x zs (second_not (same_number x z) (list_any (same_number x) zs) h) in
    let whole : sum_by (same_count x) (z ∷ zs) ≡ same_count x z + sum_by (same_count x) zs = sum_by-cons (same_count x) z zs in
    omega (arith, first, rest, whole)

some_counted : (x : ℤ) (zs : List ℤ) → list_any (same_number x) zs ≡ true → 1 ≤ sum_by (same_count x) zs
some_counted x [] h = absurd (true≢false (sym h))
some_counted x (z ∷ zs) h = by (same_number x z) refl (some_counted x zs)
  where
    by : (b : Bool) → same_number x z ≡ b → (list_any (same_number x) zs ≡ true → 1 ≤ sum_by (same_count x) zs)
        → 1 ≤ sum_by (same_count x) (z ∷ zs)
    by true is rest =
        let first : same_count x z ≡ 1 = cond-true (same_number x z) 1 0 is in
        let whole : sum_by (same_count x) (z ∷ zs) ≡ same_count x z + sum_by (same_count x) zs = sum_by-cons (same_count x) z zs in
        omega (arith, first, whole)
    by false is rest =
        let there : list_any (same_number x) zs ≡ true = subst (λ b. (b || list_any (same_number x) zs) ≡ true) is h in
        let more = rest there in
        let whole : sum_by (same_count x) (z ∷ zs) ≡ same_count x z + sum_by (same_count x) zs = sum_by-cons (same_count x) z zs in
        omega (arith, more, whole)

-- of labels that differ none occurs twice
once : (ys : List ℤ) (x : ℤ) → are_distinct same_number ys ≡ true → sum_by (same_count x) ys ≤ 1
once [] x h = omega arith
once (y ∷ ys) x h = by (same_number x y) refl (once ys x (right_of (not (list_any (same_number y) ys)) (are_distinct same_number ys) h))
  where
    by : (b : Bool) → same_number x y ≡ b → sum_by (same_count x) ys ≤ 1 → sum_by (same_count x) (y ∷ ys) ≤ 1
    by true is rest =
        let others : list_any (same_number y) ys ≡ false = turned _ (left_of (not (list_any (same_number y) ys)) (are_distinct same_number ys) h) in
        let none : sum_by (same_count x) ys ≡ 0 = none_counted x ys (subst (λ z. list_any (same_number z) ys ≡ false) (same_number_is x y is) others) in
        let first : same_count x y ≡ 1 = cond-true (same_number x y) 1 0 is in
        let whole : sum_by (same_count x) (y ∷ ys) ≡ same_count x y + sum_by (same_count x) ys = sum_by-cons (same_count x) y ys in
        omega (arith, none, first, whole)
    by false is rest =
        let first : same_count x y ≡ 0 = cond-false (same_number x y) 1 0 is in
        let whole : sum_by (same_count x) (y ∷ ys) ≡ same_count x y + sum_by (same_count x) ys = sum_by-cons (same_count x) y ys in
        omega (arith, first, whole, rest)

-- and of others one does
record IsTwice (xs : List ℤ) : Type 0 where
  label : ℤ
  counted : 2 ≤ sum_by (same_count label) xs

twice : (xs : List ℤ) → are_distinct same_number xs ≡ false → IsTwice xs
twice [] h = absurd (true≢false h)
twice (x ∷ xs) h = by (list_any (same_number x) xs) refl (twice xs)
  where
    by : (b : Bool) → list_any (same_number x) xs ≡ b → (are_distinct same_number xs ≡ false → IsTwice xs) → IsTwice (x ∷ xs)
    by true is rest =
        let first : same_count x x ≡ 1 = cond-true (same_number x x) 1 0 (same_number_refl x) in
        let more : 1 ≤ sum_by (same_count x) xs = some_counted x xs is in
        let whole : sum_by (same_count x) (x ∷ xs) ≡ same_count x x + sum_by (same_count x) xs = sum_by-cons (same_count x) x xs in
        record { label = x; counted = omega (arith, first, more, whole) }
    by false is rest =
        let t = rest (subst (λ b. (not b && are_distinct same_number xs) ≡ false) is h) in
        let more = t.counted in
        let whole : sum_by (same_count t.label) (x ∷ xs) ≡ same_count t.label x + sum_by (same_count t.label) xs = sum_by-cons (same_count t.label) x xs in
        record { label = t.label; counted = omega (arith, more, whole) }

moved_distinct : (xs ys : List ℤ) → IsPermutation xs ys → are_distinct same_number ys ≡ true → are_distinct same_number xs ≡ true
moved_distinct xs ys moved h = elim (cases_Bool (are_distinct same_number xs)) [
  | inl t ↦ t
  | inr f ↦ (let t = twice xs f in
      let most : sum_by (same_count t.label) ys ≤ 1 = once ys t.label h in
      let least : 2 ≤ sum_by (same_count t.label) xs = t.counted in
      let same : sum_by (same_count t.label) ys ≡ sum_by (same_count t.label) xs = sum_by-IsPermutation (same_count t.label) xs ys moved in
      absurd (omega (arith, most, least, same)))
]

pub sorted_rise : (xs ys : List ℤ) → IsPermutation xs ys → IsSortedBy compares_below ys → rises ys ≡ are_distinct same_number xs
sorted_rise xs ys moved up = elim (cases_Bool (are_distinct same_number xs)) [
  | inl t ↦ ap rises (rising_is xs ys moved up t) ∙ (ordered_rise xs t ∙ sym t)
  | inr f ↦ elim (cases_Bool (rises ys)) [
    | inl r ↦ absurd (true≢false (sym (moved_distinct xs ys moved (ordered_differ is_below below_is_order ys (rises_stand ys r))) ∙ f))
    | inr n ↦ n ∙ sym f
  ]
]
