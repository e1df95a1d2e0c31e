-- The definition of a reduction allows one cell.
use Rattle.std.proofs.Common.{◌≡◌, ◌+◌, ◌<◌, refl, arith, true, false, Bool, sym, ap, ◌∙◌, List, [], ◌∷◌, length, get_or}
use Rattle.std.specs.Prelude.{MatchBool}
use Rattle.std.specs.List.{All, list_any}
use Rattle.std.specs.List.Sorted.{IsSortedBy}
use Rattle.std.proofs.lemmas.List.Elements.{All-contains, All-filter}
use Rattle.std.proofs.lemmas.List.Sorted.{All-permutation, sum_by-IsPermutation}
use Rattle.oe_cell.specs.Cells.{IsCell}
use Rattle.oe_cell.specs.Operations.{divide_of}
use Rattle.oe_cell.specs.declared.cell.Cell.{Cell}
use Rattle.oe_cell.specs.declared.cell.Cell.TheVariants.{Empty, Over}
use Rattle.oe_cell.specs.Kinds.{is_over}
use Rattle.oe_fold.specs.Order.{is_below, is_before}
use Rattle.oe_fold.specs.Counted.{is_counted, counted_cells, whole_cell}
use Rattle.oe_fold.specs.Reduction.{makes_null, IsLeast, IsGreatest, IsMedian, IsResultWithoutNull, IsResultOfCounted, IsResultWithoutOver, IsReduction, middle_of}
use Rattle.oe_fold.specs.declared.reducer.Reducer.{Reducer}
use Rattle.oe_fold.specs.declared.reducer.Reducer.TheVariants.{Sum, Product, Mean, Min, Max, Median, First, Last, Any, All as EveryOne, Count, CountAll}
use Rattle.oe_fold.proofs.ReductionLemmas.{none_passes, all_real}
use Rattle.oe_fold.proofs.SortedLemmas.{IsReal, before-below, same_real, sorted-unique}

least-unique : (xs : List Cell) (c d : Cell) → All IsReal xs → IsLeast xs c → IsLeast xs d → c ≡ d
least-unique xs c d real h k =
    same_real c d (All-contains IsReal xs c real h.0) (All-contains IsReal xs d real k.0) (All-contains (λ x. is_below x d ≡ false) xs c k.1 h.0) (All-contains (λ x. is_below x c ≡ false) xs d h.1 k.0)

greatest-unique : (xs : List Cell) (c d : Cell) → All IsReal xs → IsGreatest xs c → IsGreatest xs d → c ≡ d
greatest-unique xs c d real h k =
    same_real c d (All-contains IsReal xs c real h.0) (All-contains IsReal xs d real k.0) (All-contains (λ x. is_below c x ≡ false) xs d h.1 k.0) (All-contains (λ x. is_below d x ≡ false) xs c k.1 h.0)

pub sorted_before : (xs : List Cell) → All IsReal xs → IsSortedBy is_below xs → IsSortedBy is_before xs
sorted_before xs real up k d low high =
    let here : k < length xs = omega arith in
    before-below (get_or xs (k + 1) d) (get_or xs k d) (real (k + 1) d high) (real k d here) ∙ up k d low high

median-unique : (xs : List Cell) (c d : Cell) → All IsReal xs → IsMedian xs c → IsMedian xs d → c ≡ d
median-unique xs c d real (ys, y_moved, y_up, y_is) (zs, z_moved, z_up, z_is) =
    let y_real : All IsReal ys = All-permutation IsReal xs ys y_moved real in
    let z_real : All IsReal zs = All-permutation IsReal xs zs z_moved real in
    let same : ys ≡ zs = sorted-unique ys zs y_real z_real (sorted_before ys y_real y_up) (sorted_before zs z_real z_up) (λ f. sum_by-IsPermutation f xs ys y_moved ∙ sym (sum_by-IsPermutation f xs zs z_moved)) in
    y_is ∙ ap (λ (os : List Cell). middle_of os) same ∙ sym z_is

mean-unique : (xs : List Cell) (c d : Cell) → IsResultWithoutNull Mean xs c → IsResultWithoutNull Mean xs d → c ≡ d
mean-unique xs c d (a, a_sum, a_is) (b, b_sum, b_is) =
    let same : a ≡ b = cc in
    a_is ∙ ap (λ (s : Cell). divide_of s (whole_cell (length xs))) same ∙ sym b_is

value-unique : (r : Reducer) (xs : List Cell) (c d : Cell) → All IsCell xs → All (λ x. is_over x ≡ false) xs → list_any (makes_null r) xs ≡ false → IsResultWithoutNull r xs c → IsResultWithoutNull r xs d → c ≡ d
value-unique Sum xs c d cells fits k a b = cc
value-unique Product xs c d cells fits k a b = cc
value-unique Mean xs c d cells fits k a b = mean-unique xs c d a b
value-unique Min xs c d cells fits k a b = least-unique xs c d (all_real xs cells fits k) a b
value-unique Max xs c d cells fits k a b = greatest-unique xs c d (all_real xs cells fits k) a b
value-unique Median xs c d cells fits k a b = median-unique xs c d (all_real xs cells fits k) a b
value-unique First xs c d cells fits k a b = cc
value-unique Last xs c d cells fits k a b = cc
value-unique Any xs c d cells fits k a b = cc
value-unique EveryOne xs c d cells fits k a b = cc
value-unique Count xs c d cells fits k a b = a ∙ sym b
value-unique CountAll xs c d cells fits k a b = a ∙ sym b

-- two cells that both stand in the case that a test chooses
by_test : (b : Bool) (P Q : Cell → Type 0) (c d : Cell) → (b ≡ true → P c → P d → c ≡ d) → (b ≡ false → Q c → Q d → c ≡ d) → MatchBool b (P c) (Q c) → MatchBool b (P d) (Q d) → c ≡ d
by_test true P Q c d f g x y = f refl x y
by_test false P Q c d f g x y = g refl x y

counted-unique : (r : Reducer) (xs : List Cell) (c d : Cell) → All IsCell xs → All (λ x. is_over x ≡ false) xs → IsResultOfCounted r xs c → IsResultOfCounted r xs d → c ≡ d
counted-unique r [] c d cells fits a b = a ∙ sym b
counted-unique r (x ∷ xs) c d cells fits a b =
    by_test (list_any (makes_null r) (x ∷ xs)) (λ v. v ≡ Empty) (λ v. IsResultWithoutNull r (x ∷ xs) v) c d (λ _ p q. p ∙ sym q) (λ k p q. value-unique r (x ∷ xs) c d cells fits k p q) a b

without_over-unique : (r : Reducer) (ignore : Bool) (xs : List Cell) (c d : Cell) → All IsCell xs → list_any is_over xs ≡ false → IsResultWithoutOver r ignore xs c → IsResultWithoutOver r ignore xs d → c ≡ d
without_over-unique r ignore xs c d cells fits a b = by_kind r a b
  where
    counted : All IsCell (counted_cells ignore xs)
    counted = All-filter (is_counted ignore) IsCell xs cells

    without : All (λ x. is_over x ≡ false) (counted_cells ignore xs)
    without = All-filter (is_counted ignore) (λ x. is_over x ≡ false) xs (none_passes is_over xs fits)

    by_kind : (r : Reducer) → IsResultWithoutOver r ignore xs c → IsResultWithoutOver r ignore xs d → c ≡ d
    by_kind Count a b = a ∙ sym b
    by_kind CountAll a b = a ∙ sym b
    by_kind Sum a b = counted-unique Sum (counted_cells ignore xs) c d counted without a b
    by_kind Product a b = counted-unique Product (counted_cells ignore xs) c d counted without a b
    by_kind Mean a b = counted-unique Mean (counted_cells ignore xs) c d counted without a b
    by_kind Min a b = counted-unique Min (counted_cells ignore xs) c d counted without a b
    by_kind Max a b = counted-unique Max (counted_cells ignore xs) c d counted without a b
    by_kind Median a b = counted-unique Median (counted_cells ignore xs) c d counted without a b
    by_kind First a b = counted-unique First (counted_cells ignore xs) c d counted without a b
    by_kind Last a b = counted-unique Last (counted_cells ignore xs) c d counted without a b
    by_kind Any a b = counted-unique Any (counted_cells ignore xs) c d counted without a b
    by_kind EveryOne a b = counted-unique EveryOne (counted_cells ignore xs) c d counted without a b

-- two cells that a reduction allows are the same
pub IsReduction-unique : (r : Reducer) (ignore : Bool) (xs : List Cell) (c d : Cell) → All IsCell xs → IsReduction r ignore xs c → IsReduction r ignore xs d → c ≡ d
unfolding IsReduction
IsReduction-unique r ignore xs c d cells a b =
    by_test (list_any is_over xs) (λ v. v ≡ Over) (λ v. IsResultWithoutOver r ignore xs v) c d (λ _ p q. p ∙ sym q) (λ fits p q. without_over-unique r ignore xs c d cells fits p q) a b
