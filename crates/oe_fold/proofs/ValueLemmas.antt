-- The function gives a cell that the definition of a reduction allows.
use Rattle.std.proofs.Common.{◌≡◌, ℕ, zero, suc, ◌+◌, ◌-◌, ◌<◌, ◌≤◌, true, false, Bool, cond, refl, sym, ◌∙◌, subst, arith, inl, inr, List, [], ◌∷◌, length, get_or}
use Rattle.std.specs.Prelude.{⊤, Some, MatchBool, IsPermutation}
use Rattle.std.specs.List.{All, Contains, list_any, slice_get}
use Rattle.std.specs.List.Sorted.{IsSortedBy}
use Rattle.std.proofs.lemmas.Bool.{cases_Bool, cond-true, cond-false}
use Rattle.std.proofs.lemmas.List.{get_or_default}
use Rattle.std.proofs.lemmas.List.Elements.{All-filter, Contains-get_or}
use Rattle.std.proofs.lemmas.List.Sorted.{IsPermutation-refl, IsPermutation-sym, IsPermutation-cons, IsPermutation-trans, IsPermutation-middle, All-permutation, Contains-permutation, length_permutation, sorted_far}
use Rattle.oe_cell.specs.Cells.{IsCell}
use Rattle.oe_cell.specs.declared.cell.Cell.{Cell}
use Rattle.oe_cell.specs.declared.cell.Cell.TheVariants.{Empty, Flag, Number, Over}
use Rattle.oe_cell.specs.Kinds.{is_over}
use Rattle.oe_fold.specs.Order.{is_below, is_before}
use Rattle.oe_fold.specs.Counted.{is_counted, counted_cells}
use Rattle.oe_fold.specs.Reduction.{makes_null, IsLeast, IsGreatest, IsResultWithoutNull, IsResultOfCounted, IsResultWithoutOver, IsReduction}
use Rattle.oe_fold.specs.Value.{put_in_order, in_order, result_without_null, result_of_counted, result_without_over, reduction_of}
use Rattle.oe_fold.specs.declared.reducer.Reducer.{Reducer}
use Rattle.oe_fold.specs.declared.reducer.Reducer.TheVariants.{Sum, Product, Mean, Min, Max, Median, First, Last, Any, All as EveryOne, Count, CountAll}
use Rattle.oe_fold.proofs.OrderLemmas.{one_way-below, before-ranks}
use Rattle.oe_fold.proofs.ReductionLemmas.{none_passes, all_real}
use Rattle.oe_fold.proofs.SortedLemmas.{IsReal, before-below}
use Rattle.oe_fold.proofs.UniqueLemmas.{sorted_before, IsReduction-unique}

put_in_order-moves : (x : Cell) (ys : List Cell) → IsPermutation (x ∷ ys) (put_in_order x ys)
put_in_order-moves x [] = IsPermutation-refl (x ∷ [])
put_in_order-moves x (y ∷ ys) = elim (cases_Bool (is_below y x)) [
  | inl e ↦ subst (λ (zs : List Cell). IsPermutation (x ∷ y ∷ ys) zs) (sym (cond-true (is_below y x) (y ∷ put_in_order x ys) (x ∷ y ∷ ys) e))
      (IsPermutation-trans (x ∷ y ∷ ys) (y ∷ x ∷ ys) (y ∷ put_in_order x ys) (IsPermutation-sym (y ∷ x ∷ ys) (x ∷ y ∷ ys) (IsPermutation-middle (y ∷ []) x ys)) (IsPermutation-cons y (x ∷ ys) (put_in_order x ys) (put_in_order-moves x ys)))
  | inr e ↦ subst (λ (zs : List Cell). IsPermutation (x ∷ y ∷ ys) zs) (sym (cond-false (is_below y x) (y ∷ put_in_order x ys) (x ∷ y ∷ ys) e)) (IsPermutation-refl (x ∷ y ∷ ys))
]

pub in_order-moves : (xs : List Cell) → IsPermutation xs (in_order xs)
in_order-moves [] = IsPermutation-refl []
in_order-moves (x ∷ xs) = IsPermutation-trans (x ∷ xs) (x ∷ in_order xs) (put_in_order x (in_order xs)) (IsPermutation-cons x xs (in_order xs) (in_order-moves xs)) (put_in_order-moves x (in_order xs))

-- the first of a list, if there is one, is not less than y
abbrev FirstNotBelow : Cell → List Cell → Type 0
FirstNotBelow y [] = ⊤
FirstNotBelow y (z ∷ zs) = is_below z y ≡ false

sorted-cons : (y : Cell) (zs : List Cell) → FirstNotBelow y zs → IsSortedBy is_below zs → IsSortedBy is_below (y ∷ zs)
sorted-cons y [] first up k d low high = absurd (omega (arith, high))
sorted-cons y (z ∷ zs) first up zero d low high = first
sorted-cons y (z ∷ zs) first up (suc k) d low high =
    let within : k + 1 < suc (length zs) = omega arith in
    let low' : 0 ≤ k = omega arith in
    let e : suc (k + 1) ≡ suc k + 1 = omega arith in
    subst (λ (n : ℕ). is_below (get_or (y ∷ z ∷ zs) n d) (get_or (z ∷ zs) k d) ≡ false) e (up k d low' within)

sorted-tail : (y : Cell) (zs : List Cell) → IsSortedBy is_below (y ∷ zs) → IsSortedBy is_below zs
sorted-tail y zs up k d low high =
    let within : suc k + 1 < suc (length zs) = omega arith in
    let low' : 0 ≤ suc k = omega arith in
    let e : suc k + 1 ≡ suc (k + 1) = omega arith in
    subst (λ (n : ℕ). is_below (get_or (y ∷ zs) n d) (get_or zs k d) ≡ false) e (up (suc k) d low' within)

first-of_sorted : (y : Cell) (zs : List Cell) → IsSortedBy is_below (y ∷ zs) → FirstNotBelow y zs
first-of_sorted y [] up = tt
first-of_sorted y (z ∷ zs) up = let within : 1 < suc (suc (length zs)) = omega arith in let low : 0 ≤ 0 = omega arith in up 0 y low within

one_way-cells : (x y : Cell) → is_below x y ≡ true → is_below y x ≡ false
one_way-cells (Number p) (Number q) h = one_way-below p q h
one_way-cells (Number p) Empty h = refl
one_way-cells (Number p) (Flag b) h = refl
one_way-cells (Number p) Over h = refl
one_way-cells Empty y h = cc
one_way-cells (Flag a) y h = cc
one_way-cells Over y h = cc

first-put : (y x : Cell) (zs : List Cell) → is_below x y ≡ false → FirstNotBelow y zs → FirstNotBelow y (put_in_order x zs)
first-put y x [] h first = h
first-put y x (z ∷ zs) h first = elim (cases_Bool (is_below z x)) [
  | inl e ↦ subst (λ (ws : List Cell). FirstNotBelow y ws) (sym (cond-true (is_below z x) (z ∷ put_in_order x zs) (x ∷ z ∷ zs) e)) first
  | inr e ↦ subst (λ (ws : List Cell). FirstNotBelow y ws) (sym (cond-false (is_below z x) (z ∷ put_in_order x zs) (x ∷ z ∷ zs) e)) h
]

put_in_order-sorted : (x : Cell) (ys : List Cell) → IsSortedBy is_below ys → IsSortedBy is_below (put_in_order x ys)
put_in_order-sorted x [] up = sorted-cons x [] tt up
put_in_order-sorted x (y ∷ ys) up = elim (cases_Bool (is_below y x)) [
  | inl e ↦ subst (λ (ws : List Cell). IsSortedBy is_below ws) (sym (cond-true (is_below y x) (y ∷ put_in_order x ys) (x ∷ y ∷ ys) e))
      (sorted-cons y (put_in_order x ys) (first-put y x ys (one_way-cells y x e) (first-of_sorted y ys up)) (put_in_order-sorted x ys (sorted-tail y ys up)))
  | inr e ↦ subst (λ (ws : List Cell). IsSortedBy is_below ws) (sym (cond-false (is_below y x) (y ∷ put_in_order x ys) (x ∷ y ∷ ys) e)) (sorted-cons x (y ∷ ys) e up)
]

in_order-sorted : (xs : List Cell) → IsSortedBy is_below (in_order xs)
in_order-sorted [] = λ k d low high. absurd (omega (arith, high))
in_order-sorted (x ∷ xs) = put_in_order-sorted x (in_order xs) (in_order-sorted xs)

-- a place of the list in order: its cell is a member, and those after it are not less
module _ (xs : List Cell) (real : All IsReal xs) where
  ordered_real : All IsReal (in_order xs)
  ordered_real = All-permutation IsReal xs (in_order xs) (in_order-moves xs) real

  member : (i : ℕ) → i < length xs → Contains xs (get_or (in_order xs) i Empty)
  member i h =
      let long : i < length (in_order xs) = subst (λ (n : ℕ). i < n) (sym (length_permutation xs (in_order xs) (in_order-moves xs))) h in
      Contains-permutation (in_order xs) xs (get_or (in_order xs) i Empty) (IsPermutation-sym xs (in_order xs) (in_order-moves xs)) (Contains-get_or (in_order xs) i Empty long)

  not_less : (i j : ℕ) (d : Cell) → i ≤ j → j < length (in_order xs) → is_below (get_or (in_order xs) j d) (get_or (in_order xs) i d) ≡ false
  not_less i j d low high =
      let within : i < length (in_order xs) = omega arith in
      sym (before-below (get_or (in_order xs) j d) (get_or (in_order xs) i d) (ordered_real j d high) (ordered_real i d within)) ∙ sorted_far is_before before-ranks (in_order xs) (sorted_before (in_order xs) ordered_real (in_order-sorted xs)) i j d low high

  pub least-in_order : 0 < length xs → IsLeast xs (get_or (in_order xs) 0 Empty)
  least-in_order some = (
    member 0 some,
    All-permutation (λ z. is_below z (get_or (in_order xs) 0 Empty) ≡ false) (in_order xs) xs (IsPermutation-sym xs (in_order xs) (in_order-moves xs)) (λ k d h.
        let low : 0 ≤ k = omega arith in
        let within : 0 < length (in_order xs) = omega arith in
        subst (λ (z : Cell). is_below (get_or (in_order xs) k d) z ≡ false) (get_or_default (in_order xs) 0 d Empty within) (not_less 0 k d low h)),
  )

  pub greatest-in_order : 0 < length xs → IsGreatest xs (get_or (in_order xs) (length xs - 1) Empty)
  greatest-in_order some =
      let last : length xs - 1 < length xs = omega arith in
      let long : length (in_order xs) ≡ length xs = length_permutation xs (in_order xs) (in_order-moves xs) in (
        member (length xs - 1) last,
        All-permutation (λ z. is_below (get_or (in_order xs) (length xs - 1) Empty) z ≡ false) (in_order xs) xs (IsPermutation-sym xs (in_order xs) (in_order-moves xs)) (λ k d h.
            let low : k ≤ length xs - 1 = omega arith in
            let within : length xs - 1 < length (in_order xs) = omega arith in
            subst (λ (z : Cell). is_below z (get_or (in_order xs) k d) ≡ false) (get_or_default (in_order xs) (length xs - 1) d Empty within) (not_less k (length xs - 1) d low within)),
      )

slice_get-in : (xs : List Cell) (i : ℕ) → i < length xs → slice_get xs i ≡ Some (get_or xs i Empty)
slice_get-in [] i h = absurd (omega (arith, h))
slice_get-in (x ∷ xs) zero h = refl
slice_get-in (x ∷ xs) (suc i) h = let within : i < length xs = omega arith in slice_get-in xs i within

result_without_null-is : (r : Reducer) (x : Cell) (xs : List Cell) → All IsCell (x ∷ xs) → All (λ z. is_over z ≡ false) (x ∷ xs) → list_any (makes_null r) (x ∷ xs) ≡ false → IsResultWithoutNull r (x ∷ xs) (result_without_null r (x ∷ xs))
result_without_null-is Sum x xs c h k = refl
result_without_null-is Product x xs c h k = refl
result_without_null-is Mean x xs c h k = (_, refl, refl)
result_without_null-is Min x xs c h k = least-in_order (x ∷ xs) (all_real (x ∷ xs) c h k) (omega arith)
result_without_null-is Max x xs c h k = greatest-in_order (x ∷ xs) (all_real (x ∷ xs) c h k) (omega arith)
result_without_null-is Median x xs c h k = (in_order (x ∷ xs), in_order-moves (x ∷ xs), in_order-sorted (x ∷ xs), refl)
result_without_null-is First x xs c h k = refl
result_without_null-is Last x xs c h k = let within : suc (length xs) - 1 < suc (length xs) = omega arith in slice_get-in (x ∷ xs) (length (x ∷ xs) - 1) within
result_without_null-is Any x xs c h k = refl
result_without_null-is EveryOne x xs c h k = refl
result_without_null-is Count x xs c h k = refl
result_without_null-is CountAll x xs c h k = refl

result_of_counted-is : (r : Reducer) (ks : List Cell) → All IsCell ks → All (λ z. is_over z ≡ false) ks → IsResultOfCounted r ks (result_of_counted r ks)
result_of_counted-is r [] c h = refl
result_of_counted-is r (x ∷ xs) c h = by_test (list_any (makes_null r) (x ∷ xs)) (λ k. result_without_null-is r x xs c h k)
  where
    by_test : (b : Bool) → (b ≡ false → IsResultWithoutNull r (x ∷ xs) (result_without_null r (x ∷ xs))) → MatchBool b (cond b Empty (result_without_null r (x ∷ xs)) ≡ Empty) (IsResultWithoutNull r (x ∷ xs) (cond b Empty (result_without_null r (x ∷ xs))))
    by_test true f = refl
    by_test false f = f refl

result_without_over-is : (r : Reducer) (ignore : Bool) (xs : List Cell) → All IsCell xs → list_any is_over xs ≡ false → IsResultWithoutOver r ignore xs (result_without_over r ignore xs)
result_without_over-is r ignore xs c h = by_kind r
  where
    counted : All IsCell (counted_cells ignore xs)
    counted = All-filter (is_counted ignore) IsCell xs c

    without : All (λ z. is_over z ≡ false) (counted_cells ignore xs)
    without = All-filter (is_counted ignore) (λ z. is_over z ≡ false) xs (none_passes is_over xs h)

    by_kind : (r : Reducer) → IsResultWithoutOver r ignore xs (result_without_over r ignore xs)
    by_kind Sum = result_of_counted-is Sum (counted_cells ignore xs) counted without
    by_kind Product = result_of_counted-is Product (counted_cells ignore xs) counted without
    by_kind Mean = result_of_counted-is Mean (counted_cells ignore xs) counted without
    by_kind Min = result_of_counted-is Min (counted_cells ignore xs) counted without
    by_kind Max = result_of_counted-is Max (counted_cells ignore xs) counted without
    by_kind Median = result_of_counted-is Median (counted_cells ignore xs) counted without
    by_kind First = result_of_counted-is First (counted_cells ignore xs) counted without
    by_kind Last = result_of_counted-is Last (counted_cells ignore xs) counted without
    by_kind Any = result_of_counted-is Any (counted_cells ignore xs) counted without
    by_kind EveryOne = result_of_counted-is EveryOne (counted_cells ignore xs) counted without
    by_kind Count = refl
    by_kind CountAll = refl

-- the function meets the definition
pub reduction_of-is : (r : Reducer) (ignore : Bool) (xs : List Cell) → All IsCell xs → IsReduction r ignore xs (reduction_of r ignore xs)
unfolding IsReduction reduction_of
reduction_of-is r ignore xs c = by_test (list_any is_over xs) (λ h. result_without_over-is r ignore xs c h)
  where
    by_test : (b : Bool) → (b ≡ false → IsResultWithoutOver r ignore xs (result_without_over r ignore xs)) → MatchBool b (cond b Over (result_without_over r ignore xs) ≡ Over) (IsResultWithoutOver r ignore xs (cond b Over (result_without_over r ignore xs)))
    by_test true f = refl
    by_test false f = f refl

pub same-as-reduction_of : (r : Reducer) (ignore : Bool) (xs : List Cell) (v : Cell) → All IsCell xs → IsReduction r ignore xs v → v ≡ reduction_of r ignore xs
same-as-reduction_of r ignore xs v c h = IsReduction-unique r ignore xs v (reduction_of r ignore xs) c h (reduction_of-is r ignore xs c)
