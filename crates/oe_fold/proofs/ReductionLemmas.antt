-- What the pass comes to is what the definition of each reducer says.
use Rattle.std.proofs.Common.{◌≡◌, ℕ, suc, ◌+◌, ◌-◌, ◌<◌, true, false, Bool, refl, sym, ap, ◌∙◌, subst, arith, inl, inr, List, [], ◌∷◌, length, get_or}
use Rattle.std.specs.Prelude.{Some, None, MatchBool, IsPermutation}
use Rattle.std.specs.List.{All, Contains, list_any, reduce, fold, slice_get, IsFirstBest, best_of}
use Rattle.std.specs.List.Sorted.{IsSortedBy}
use Rattle.std.proofs.lemmas.Bool.{cases_Bool}
use Rattle.std.proofs.lemmas.List.{get_or_default}
use Rattle.std.proofs.lemmas.List.Elements.{Contains-get_or}
use Rattle.std.proofs.lemmas.List.Folds.{list_any_at}
use Rattle.std.proofs.lemmas.List.Sums.{length-filter}
use Rattle.std.proofs.lemmas.List.MinMax.{IsStrictWeakOrder-flip, IsFirstBest-from_best_of}
use Rattle.std.proofs.lemmas.List.Sorted.{All-permutation}
use Rattle.oe_cell.specs.Cells.{IsCell}
use Rattle.oe_cell.specs.Operations.{divide_of}
use Rattle.oe_cell.specs.declared.cell.Cell.{Cell}
use Rattle.oe_cell.specs.declared.cell.Cell.TheVariants.{Empty, Flag, Number, Over}
use Rattle.oe_cell.specs.Kinds.{is_over, is_null_or_flag}
use Rattle.oe_fold.specs.Order.{is_below, is_before}
use Rattle.oe_fold.specs.Counted.{is_counted, counted_cells, whole_cell}
use Rattle.oe_fold.specs.Progress.{join_of}
use Rattle.oe_fold.specs.Reduction.{makes_null, IsLeast, IsGreatest, IsResultWithoutNull, IsResultOfCounted, IsResultWithoutOver, IsReduction, middle_of}
use Rattle.oe_fold.specs.declared.reducer.Reducer.{Reducer}
use Rattle.oe_fold.specs.declared.reducer.Reducer.TheVariants.{Sum, Product, Mean, Min, Max, Median, First, Last, Any, All as EveryOne, Count, CountAll}
use Rattle.oe_fold.proofs.OrderLemmas.{before-ranks}
use Rattle.oe_fold.proofs.SortedLemmas.{IsReal, before-below}

-- a test that no cell passes
pub none_passes : (p : Cell → Bool) (xs : List Cell) → list_any p xs ≡ false → All (λ x. p x ≡ false) xs
none_passes p xs h k d within = elim (cases_Bool (p (get_or xs k d))) [
  | inl e ↦ (let yes : list_any p xs ≡ true = list_any_at p xs k d within e in cc)
  | inr e ↦ e
]

real_from : (x : Cell) → IsCell x → is_over x ≡ false → is_null_or_flag x ≡ false → IsReal x
real_from (Number q) c h k = c
real_from Empty c h k = cc
real_from (Flag b) c h k = cc
real_from Over c h k = cc

-- cells that are neither Over, null nor flag are numbers
pub all_real : (xs : List Cell) → All IsCell xs → All (λ x. is_over x ≡ false) xs → list_any is_null_or_flag xs ≡ false → All IsReal xs
all_real xs c h k i d within = real_from (get_or xs i d) (c i d within) (h i d within) (none_passes is_null_or_flag xs k i d within)

pub least_from_fold : (x : Cell) (xs : List Cell) (v : Cell) → All IsReal (x ∷ xs) → v ≡ fold (join_of Min) x xs → IsLeast (x ∷ xs) v
least_from_fold x xs v real e = best (IsFirstBest-from_best_of before-ranks x xs)
  where
    best : (b : ℕ) × IsFirstBest is_before (x ∷ xs) (length (x ∷ xs)) b × (get_or (x ∷ xs) b x ≡ best_of is_before x xs) → IsLeast (x ∷ xs) v
    best (b, first, is) =
        let at : get_or (x ∷ xs) b x ≡ v = is ∙ sym e in (
          subst (λ (c : Cell). Contains (x ∷ xs) c) at (Contains-get_or (x ∷ xs) b x first.0),
          λ k d within.
              let here : IsReal v = subst (λ (c : Cell). IsReal c) at (real b x first.0) in
              let same : get_or (x ∷ xs) b d ≡ v = get_or_default (x ∷ xs) b d x first.0 ∙ at in
              sym (before-below (get_or (x ∷ xs) k d) v (real k d within) here) ∙ subst (λ (c : Cell). is_before (get_or (x ∷ xs) k d) c ≡ false) same (first.1 k d within),
        )

pub greatest_from_fold : (x : Cell) (xs : List Cell) (v : Cell) → All IsReal (x ∷ xs) → v ≡ fold (join_of Max) x xs → IsGreatest (x ∷ xs) v
greatest_from_fold x xs v real e = best (IsFirstBest-from_best_of {beats = after} (IsStrictWeakOrder-flip is_before before-ranks) x xs)
  where
    after : Cell → Cell → Bool
    after a b = is_before b a

    best : (b : ℕ) × IsFirstBest (λ a b. is_before b a) (x ∷ xs) (length (x ∷ xs)) b × (get_or (x ∷ xs) b x ≡ best_of (λ a b. is_before b a) x xs) → IsGreatest (x ∷ xs) v
    best (b, first, is) =
        let at : get_or (x ∷ xs) b x ≡ v = is ∙ sym e in (
          subst (λ (c : Cell). Contains (x ∷ xs) c) at (Contains-get_or (x ∷ xs) b x first.0),
          λ k d within.
              let here : IsReal v = subst (λ (c : Cell). IsReal c) at (real b x first.0) in
              let same : get_or (x ∷ xs) b d ≡ v = get_or_default (x ∷ xs) b d x first.0 ∙ at in
              sym (before-below v (get_or (x ∷ xs) k d) here (real k d within)) ∙ subst (λ (c : Cell). is_before c (get_or (x ∷ xs) k d) ≡ false) same (first.1 k d within),
        )

first_from_fold : (x : Cell) (xs : List Cell) → fold (join_of First) x xs ≡ x
first_from_fold x [] = refl
first_from_fold x (y ∷ ys) = first_from_fold x ys

last_from_fold : (x : Cell) (xs : List Cell) → slice_get (x ∷ xs) (length (x ∷ xs) - 1) ≡ Some (fold (join_of Last) x xs)
last_from_fold x [] = refl
last_from_fold x (y ∷ ys) =
    let e : suc (suc (length ys)) - 1 ≡ suc (suc (length ys) - 1) = omega arith in
    ap (λ (n : ℕ). slice_get (x ∷ y ∷ ys) n) e ∙ last_from_fold y ys

-- what one pass comes to, for each reducer that needs no more
value_from_fold : (r : Reducer) (x : Cell) (xs : List Cell) (v : Cell) → All IsCell (x ∷ xs) → All (λ z. is_over z ≡ false) (x ∷ xs) → list_any (makes_null r) (x ∷ xs) ≡ false → reduce (join_of r) (x ∷ xs) ≡ Some v → (r ≡ Mean → ⊥) → (r ≡ Median → ⊥) → (r ≡ Count → ⊥) × (r ≡ CountAll → ⊥) → IsResultWithoutNull r (x ∷ xs) v
value_from_fold Sum x xs v c h k e mean median other = e
value_from_fold Product x xs v c h k e mean median other = e
value_from_fold Mean x xs v c h k e mean median other = absurd (mean refl)
value_from_fold Min x xs v c h k e mean median other = least_from_fold x xs v (all_real (x ∷ xs) c h k) (let f : fold (join_of Min) x xs ≡ v = cc in sym f)
value_from_fold Max x xs v c h k e mean median other = greatest_from_fold x xs v (all_real (x ∷ xs) c h k) (let f : fold (join_of Max) x xs ≡ v = cc in sym f)
value_from_fold Median x xs v c h k e mean median other = absurd (median refl)
value_from_fold First x xs v c h k e mean median other = sym (ap (λ (z : Cell). Some z) (first_from_fold x xs)) ∙ e
value_from_fold Last x xs v c h k e mean median other = last_from_fold x xs ∙ e
value_from_fold Any x xs v c h k e mean median other = e
value_from_fold EveryOne x xs v c h k e mean median other = e
value_from_fold Count x xs v c h k e mean median other = absurd (other.0 refl)
value_from_fold CountAll x xs v c h k e mean median other = absurd (other.1 refl)

-- the case where no cell makes the result null
unrefused : (r : Reducer) (x : Cell) (xs : List Cell) (v : Cell) → list_any (makes_null r) (x ∷ xs) ≡ false → IsResultWithoutNull r (x ∷ xs) v → IsResultOfCounted r (x ∷ xs) v
unrefused r x xs v k value = subst (λ (b : Bool). MatchBool b (v ≡ Empty) (IsResultWithoutNull r (x ∷ xs) v)) (sym k) value

pub counted_from_fold : (r : Reducer) (ks : List Cell) (v : Cell) → All IsCell ks → All (λ z. is_over z ≡ false) ks → list_any (makes_null r) ks ≡ false → reduce (join_of r) ks ≡ Some v → (r ≡ Mean → ⊥) → (r ≡ Median → ⊥) → (r ≡ Count → ⊥) × (r ≡ CountAll → ⊥) → IsResultOfCounted r ks v
counted_from_fold r [] v c h k e mean median other = cc
counted_from_fold r (x ∷ xs) v c h k e mean median other = unrefused r x xs v k (value_from_fold r x xs v c h k e mean median other)

-- no cell makes it null, and the mean is the sum divided by the length
pub counted_from_mean : (ks : List Cell) (sum v : Cell) → list_any (makes_null Mean) ks ≡ false → reduce (join_of Mean) ks ≡ Some sum → v ≡ divide_of sum (whole_cell (length ks)) → IsResultOfCounted Mean ks v
counted_from_mean [] sum v k e f = cc
counted_from_mean (x ∷ xs) sum v k e f = unrefused Mean x xs v k (sum, e, f)

sorted_below : (xs : List Cell) → All IsReal xs → IsSortedBy is_before xs → IsSortedBy is_below xs
sorted_below xs real up k d low high =
    let here : k < length xs = omega arith in
    sym (before-below (get_or xs (k + 1) d) (get_or xs k d) (real (k + 1) d high) (real k d here)) ∙ up k d low high

pub counted_from_median : (ks : List Cell) (v : Cell) → 0 < length ks → All IsCell ks → All (λ z. is_over z ≡ false) ks → list_any (makes_null Median) ks ≡ false → (ordered : List Cell) × IsPermutation ks ordered × IsSortedBy is_before ordered × (v ≡ middle_of ordered) → IsResultOfCounted Median ks v
counted_from_median [] v some c h k m = absurd (omega (arith, some))
counted_from_median (x ∷ xs) v some c h k (ordered, moved, up, e) =
    unrefused Median x xs v k (ordered, moved, sorted_below ordered (All-permutation IsReal (x ∷ xs) ordered moved (all_real (x ∷ xs) c h k)) up, e)

-- null where there is none, or where one makes it so
pub counted_from_none : (r : Reducer) (ks : List Cell) → reduce (join_of r) ks ≡ None → IsResultOfCounted r ks Empty
counted_from_none r [] e = refl
counted_from_none r (x ∷ xs) e = cc

pub counted_from_refused : (r : Reducer) (ks : List Cell) → list_any (makes_null r) ks ≡ true → IsResultOfCounted r ks Empty
counted_from_refused r [] k = refl
counted_from_refused r (x ∷ xs) k = subst (λ (b : Bool). MatchBool b (Empty ≡ Empty) (IsResultWithoutNull r (x ∷ xs) Empty)) (sym k) refl

pub some_from_value : (r : Reducer) (ks : List Cell) (v : Cell) → reduce (join_of r) ks ≡ Some v → 0 < length ks
some_from_value r [] v e = cc
some_from_value r (x ∷ xs) v e = omega arith

counted_cells-all : (xs : List Cell) → counted_cells false xs ≡ xs
counted_cells-all [] = refl
counted_cells-all (x ∷ xs) = ap (λ (ys : List Cell). x ∷ ys) (counted_cells-all xs)

-- the two counts
pub count_from_number : (ignore : Bool) (xs : List Cell) (v : Cell) → MatchBool (list_any is_over xs) (v ≡ Over) (v ≡ whole_cell (length (counted_cells true xs))) → IsReduction Count ignore xs v
unfolding IsReduction
count_from_number ignore xs v h = subst (λ (n : ℕ). MatchBool (list_any is_over xs) (v ≡ Over) (v ≡ whole_cell n)) (length-filter (is_counted true) xs) h

pub count_all_from_number : (ignore : Bool) (xs : List Cell) (v : Cell) → MatchBool (list_any is_over xs) (v ≡ Over) (v ≡ whole_cell (length (counted_cells false xs))) → IsReduction CountAll ignore xs v
unfolding IsReduction
count_all_from_number ignore xs v h = subst (λ (ys : List Cell). MatchBool (list_any is_over xs) (v ≡ Over) (v ≡ whole_cell (length ys))) (counted_cells-all xs) h

without_over_from_counted : (r : Reducer) (ignore : Bool) (xs : List Cell) (v : Cell) → (r ≡ Count → ⊥) × (r ≡ CountAll → ⊥) → IsResultOfCounted r (counted_cells ignore xs) v → IsResultWithoutOver r ignore xs v
without_over_from_counted Sum ignore xs v other h = h
without_over_from_counted Product ignore xs v other h = h
without_over_from_counted Mean ignore xs v other h = h
without_over_from_counted Min ignore xs v other h = h
without_over_from_counted Max ignore xs v other h = h
without_over_from_counted Median ignore xs v other h = h
without_over_from_counted First ignore xs v other h = h
without_over_from_counted Last ignore xs v other h = h
without_over_from_counted Any ignore xs v other h = h
without_over_from_counted EveryOne ignore xs v other h = h
without_over_from_counted Count ignore xs v other h = absurd (other.0 refl)
without_over_from_counted CountAll ignore xs v other h = absurd (other.1 refl)

-- a list without Over
pub reduction_from_counted : (r : Reducer) (ignore : Bool) (xs : List Cell) (v : Cell) → list_any is_over xs ≡ false → (r ≡ Count → ⊥) × (r ≡ CountAll → ⊥) → IsResultOfCounted r (counted_cells ignore xs) v → IsReduction r ignore xs v
unfolding IsReduction
reduction_from_counted r ignore xs v fits other h = subst (λ (b : Bool). MatchBool b (v ≡ Over) (IsResultWithoutOver r ignore xs v)) (sym fits) (without_over_from_counted r ignore xs v other h)

pub reduction_from_over : (r : Reducer) (ignore : Bool) (xs : List Cell) → list_any is_over xs ≡ true → IsReduction r ignore xs Over
unfolding IsReduction
reduction_from_over r ignore xs h = subst (λ (b : Bool). MatchBool b (Over ≡ Over) (IsResultWithoutOver r ignore xs Over)) (sym h) refl
