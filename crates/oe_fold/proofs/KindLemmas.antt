-- What a reduction keeps: a fact of null, of Over and of whatever the operations make of cells that have it, is one of the result where each cell has it.
use Rattle.std.proofs.Common.{◌≡◌, ℕ, suc, ◌-◌, ◌/◌, ◌%◌, ◌==◌, ◌<◌, ◌≤◌, true, false, Bool, cond, sym, ap, ◌∙◌, refl, subst, arith, inl, inr, List, [], ◌∷◌, length, get_or, ltb}
use Rattle.std.specs.List.{All, list_any, fold}
use Rattle.std.proofs.Math.ListN.{get_or-eq_default}
use Rattle.std.proofs.lemmas.Bool.{cases_Bool}
use Rattle.std.proofs.lemmas.Bool.Decides.{Decides-ltb, nat_tests}
use Rattle.std.proofs.lemmas.List.Elements.{All-filter, All-tail}
use Rattle.std.proofs.lemmas.List.Sorted.{All-permutation}
use Rattle.oe_cell.specs.Fraction.{Fraction}
use Rattle.oe_cell.specs.Cells.{on_numbers}
use Rattle.oe_cell.specs.Operations.{add_of, multiply_of, divide_of, or_of, and_of}
use Rattle.oe_cell.specs.declared.cell.Cell.{Cell}
use Rattle.oe_cell.specs.declared.cell.Cell.TheVariants.{Empty, Flag, Number, Over}
use Rattle.oe_cell.specs.Kinds.{is_over}
use Rattle.oe_fold.specs.Counted.{is_counted, counted_cells, whole_cell}
use Rattle.oe_fold.specs.Reduction.{is_count, makes_null, middle_of}
use Rattle.oe_fold.specs.Value.{in_order, result_without_null, result_of_counted, result_without_over, reduction_of}
use Rattle.oe_fold.specs.declared.reducer.Reducer.{Reducer}
use Rattle.oe_fold.specs.declared.reducer.Reducer.TheVariants.{Sum, Product, Mean, Min, Max, Median, First, Last, Any, All as EveryOne, Count, CountAll}
use Rattle.oe_cell.specs.Kinds.{IsNumeric, IsLogical}
use Rattle.oe_cell.proofs.KindLemmas.{IsNumeric-add_of, IsNumeric-multiply_of, IsNumeric-divide_of}
use Rattle.oe_fold.proofs.ValueLemmas.{in_order-moves}

-- null and Over have the fact, and the operations of the reducers keep it
pub record IsKind (P : Cell → Type 0) : Type 0 where
  pub empty : P Empty
  pub over : P Over
  pub add : (x y : Cell) → P x → P y → P (add_of x y)
  pub multiply : (x y : Cell) → P x → P y → P (multiply_of x y)
  pub any : (x y : Cell) → P x → P y → P (or_of x y)
  pub all : (x y : Cell) → P x → P y → P (and_of x y)
  pub part : (x : Cell) (n : ℕ) → P x → P (divide_of x (whole_cell n))

module _ (P : Cell → Type 0) (kind : IsKind P) where
  cond-kept : (b : Bool) (x y : Cell) → P x → P y → P (cond b x y)
  cond-kept true x y h k = h
  cond-kept false x y h k = k

  fold-kept : (f : Cell → Cell → Cell) → ((x y : Cell) → P x → P y → P (f x y)) → (x : Cell) (xs : List Cell) → P x → All P xs → P (fold f x xs)
  fold-kept f h x [] p q = p
  fold-kept f h x (y ∷ ys) p q =
      let first : 0 < suc (length ys) = omega arith in
      fold-kept f h (f x y) ys (h x y p (q 0 y first)) (All-tail P y ys q)

  at-kept : (xs : List Cell) (i : ℕ) → All P xs → P (get_or xs i Empty)
  at-kept xs i q = elim (cases_Bool (ltb i (length xs))) [
    | inl t ↦ q i Empty ((Decides-ltb i (length xs)).0 t)
    | inr f ↦
        let past : length xs ≤ i = grind (arith, nat_tests) in
        subst P (sym (get_or-eq_default xs Empty past)) kind.empty
  ]

  ordered-kept : (xs : List Cell) → All P xs → All P (in_order xs)
  ordered-kept xs q = All-permutation P xs (in_order xs) (in_order-moves xs) q

  middle-kept : (xs : List Cell) → All P xs → P (middle_of xs)
  middle-kept xs q =
      cond-kept (length xs % 2 == 1) _ _ (at-kept xs (length xs / 2) q) (kind.part _ 2 (kind.add _ _ (at-kept xs (length xs / 2 - 1) q) (at-kept xs (length xs / 2) q)))

  value-kept : (r : Reducer) (x : Cell) (xs : List Cell) → (r ≡ Count → (n : ℕ) → P (whole_cell n)) → (r ≡ CountAll → (n : ℕ) → P (whole_cell n)) → P x → All P xs → All P (x ∷ xs) → P (result_without_null r (x ∷ xs))
  value-kept Sum x xs c a p q all = fold-kept add_of kind.add x xs p q
  value-kept Product x xs c a p q all = fold-kept multiply_of kind.multiply x xs p q
  value-kept Mean x xs c a p q all = kind.part _ (length (x ∷ xs)) (fold-kept add_of kind.add x xs p q)
  value-kept Min x xs c a p q all = at-kept (in_order (x ∷ xs)) 0 (ordered-kept (x ∷ xs) all)
  value-kept Max x xs c a p q all = at-kept (in_order (x ∷ xs)) (length (x ∷ xs) - 1) (ordered-kept (x ∷ xs) all)
  value-kept Median x xs c a p q all = middle-kept (in_order (x ∷ xs)) (ordered-kept (x ∷ xs) all)
  value-kept First x xs c a p q all = at-kept (x ∷ xs) 0 all
  value-kept Last x xs c a p q all = at-kept (x ∷ xs) (length (x ∷ xs) - 1) all
  value-kept Any x xs c a p q all = fold-kept or_of kind.any x xs p q
  value-kept EveryOne x xs c a p q all = fold-kept and_of kind.all x xs p q
  value-kept Count x xs c a p q all = c refl (length (x ∷ xs))
  value-kept CountAll x xs c a p q all = a refl (length (x ∷ xs))

  result_of_counted-kept : (r : Reducer) (ks : List Cell) → (r ≡ Count → (n : ℕ) → P (whole_cell n)) → (r ≡ CountAll → (n : ℕ) → P (whole_cell n)) → All P ks → P (result_of_counted r ks)
  result_of_counted-kept r [] c a q = kind.empty
  result_of_counted-kept r (x ∷ xs) c a q =
      let first : 0 < suc (length xs) = omega arith in
      cond-kept (list_any (makes_null r) (x ∷ xs)) _ _ kind.empty (value-kept r x xs c a (q 0 x first) (All-tail P x xs q) q)

  result_without_over-kept : (r : Reducer) (ignore : Bool) (xs : List Cell) → (r ≡ Count → (n : ℕ) → P (whole_cell n)) → (r ≡ CountAll → (n : ℕ) → P (whole_cell n)) → All P (counted_cells ignore xs) → P (result_without_over r ignore xs)
  result_without_over-kept Sum ignore xs c a q = result_of_counted-kept Sum (counted_cells ignore xs) c a q
  result_without_over-kept Product ignore xs c a q = result_of_counted-kept Product (counted_cells ignore xs) c a q
  result_without_over-kept Mean ignore xs c a q = result_of_counted-kept Mean (counted_cells ignore xs) c a q
  result_without_over-kept Min ignore xs c a q = result_of_counted-kept Min (counted_cells ignore xs) c a q
  result_without_over-kept Max ignore xs c a q = result_of_counted-kept Max (counted_cells ignore xs) c a q
  result_without_over-kept Median ignore xs c a q = result_of_counted-kept Median (counted_cells ignore xs) c a q
  result_without_over-kept First ignore xs c a q = result_of_counted-kept First (counted_cells ignore xs) c a q
  result_without_over-kept Last ignore xs c a q = result_of_counted-kept Last (counted_cells ignore xs) c a q
  result_without_over-kept Any ignore xs c a q = result_of_counted-kept Any (counted_cells ignore xs) c a q
  result_without_over-kept EveryOne ignore xs c a q = result_of_counted-kept EveryOne (counted_cells ignore xs) c a q
  result_without_over-kept Count ignore xs c a q = c refl _
  result_without_over-kept CountAll ignore xs c a q = a refl _

  -- the result has the fact that each cell has, the counts where every whole number has it
  pub reduction_of-kept : (r : Reducer) (ignore : Bool) (xs : List Cell) → (r ≡ Count → (n : ℕ) → P (whole_cell n)) → (r ≡ CountAll → (n : ℕ) → P (whole_cell n)) → All P xs → P (reduction_of r ignore xs)
  unfolding reduction_of
  reduction_of-kept r ignore xs c a q =
      cond-kept (list_any is_over xs) _ _ kind.over (result_without_over-kept r ignore xs c a (All-filter (is_counted ignore) P xs q))

IsLogical-on_numbers : (f : Fraction → Fraction → Cell) (x y : Cell) → IsLogical x → IsLogical y → IsLogical (on_numbers f x y)
IsLogical-on_numbers f Over y h k = tt
IsLogical-on_numbers f Empty Over h k = tt
IsLogical-on_numbers f Empty Empty h k = tt
IsLogical-on_numbers f Empty (Flag b) h k = tt
IsLogical-on_numbers f (Flag a) Over h k = tt
IsLogical-on_numbers f (Flag a) Empty h k = tt
IsLogical-on_numbers f (Flag a) (Flag b) h k = tt
IsLogical-on_numbers f Empty (Number b) h k = absurd k
IsLogical-on_numbers f (Flag a) (Number b) h k = absurd k
IsLogical-on_numbers f (Number a) y h k = absurd h

IsLogical-or_of : (x y : Cell) → IsLogical x → IsLogical y → IsLogical (or_of x y)
IsLogical-or_of Over y h k = tt
IsLogical-or_of Empty Over h k = tt
IsLogical-or_of Empty Empty h k = tt
IsLogical-or_of Empty (Flag true) h k = tt
IsLogical-or_of Empty (Flag false) h k = tt
IsLogical-or_of (Flag true) Over h k = tt
IsLogical-or_of (Flag true) Empty h k = tt
IsLogical-or_of (Flag true) (Flag b) h k = tt
IsLogical-or_of (Flag false) Over h k = tt
IsLogical-or_of (Flag false) Empty h k = tt
IsLogical-or_of (Flag false) (Flag true) h k = tt
IsLogical-or_of (Flag false) (Flag false) h k = tt
IsLogical-or_of Empty (Number b) h k = absurd k
IsLogical-or_of (Flag true) (Number b) h k = absurd k
IsLogical-or_of (Flag false) (Number b) h k = absurd k
IsLogical-or_of (Number a) y h k = absurd h

IsLogical-and_of : (x y : Cell) → IsLogical x → IsLogical y → IsLogical (and_of x y)
IsLogical-and_of Over y h k = tt
IsLogical-and_of Empty Over h k = tt
IsLogical-and_of Empty Empty h k = tt
IsLogical-and_of Empty (Flag true) h k = tt
IsLogical-and_of Empty (Flag false) h k = tt
IsLogical-and_of (Flag false) Over h k = tt
IsLogical-and_of (Flag false) Empty h k = tt
IsLogical-and_of (Flag false) (Flag b) h k = tt
IsLogical-and_of (Flag true) Over h k = tt
IsLogical-and_of (Flag true) Empty h k = tt
IsLogical-and_of (Flag true) (Flag true) h k = tt
IsLogical-and_of (Flag true) (Flag false) h k = tt
IsLogical-and_of Empty (Number b) h k = absurd k
IsLogical-and_of (Flag true) (Number b) h k = absurd k
IsLogical-and_of (Flag false) (Number b) h k = absurd k
IsLogical-and_of (Number a) y h k = absurd h

IsLogical-part : (x : Cell) (n : ℕ) → IsLogical x → IsLogical (divide_of x (whole_cell n))
IsLogical-part Over n h = tt
IsLogical-part Empty n h = tt
IsLogical-part (Flag b) n h = tt
IsLogical-part (Number q) n h = absurd h

IsKind-IsLogical : IsKind IsLogical
IsKind-IsLogical = record {
  empty = tt;
  over = tt;
  add = λ x y h k. IsLogical-on_numbers _ x y h k;
  multiply = λ x y h k. IsLogical-on_numbers _ x y h k;
  any = IsLogical-or_of;
  all = IsLogical-and_of;
  part = IsLogical-part;
}

-- a list without numbers is reduced to none, but for the counts
pub IsLogical-reduction_of : (r : Reducer) (ignore : Bool) (xs : List Cell) → is_count r ≡ false → All IsLogical xs → IsLogical (reduction_of r ignore xs)
IsLogical-reduction_of r ignore xs other q =
    reduction_of-kept IsLogical IsKind-IsLogical r ignore xs (λ e. not_count Count e refl) (λ e. not_count CountAll e refl) q
  where
    not_count : (o : Reducer) → r ≡ o → is_count o ≡ true → (n : ℕ) → IsLogical (whole_cell n)
    not_count o e h = let yes : is_count r ≡ true = ap is_count e ∙ h in cc

IsNumeric-or_of : (x y : Cell) → IsNumeric x → IsNumeric y → IsNumeric (or_of x y)
IsNumeric-or_of Over y h k = tt
IsNumeric-or_of Empty Over h k = tt
IsNumeric-or_of Empty Empty h k = tt
IsNumeric-or_of Empty (Number q) h k = tt
IsNumeric-or_of (Number p) Over h k = tt
IsNumeric-or_of (Number p) Empty h k = tt
IsNumeric-or_of (Number p) (Number q) h k = tt
IsNumeric-or_of Empty (Flag b) h k = absurd k
IsNumeric-or_of (Number p) (Flag b) h k = absurd k
IsNumeric-or_of (Flag a) y h k = absurd h

IsNumeric-and_of : (x y : Cell) → IsNumeric x → IsNumeric y → IsNumeric (and_of x y)
IsNumeric-and_of Over y h k = tt
IsNumeric-and_of Empty Over h k = tt
IsNumeric-and_of Empty Empty h k = tt
IsNumeric-and_of Empty (Number q) h k = tt
IsNumeric-and_of (Number p) Over h k = tt
IsNumeric-and_of (Number p) Empty h k = tt
IsNumeric-and_of (Number p) (Number q) h k = tt
IsNumeric-and_of Empty (Flag b) h k = absurd k
IsNumeric-and_of (Number p) (Flag b) h k = absurd k
IsNumeric-and_of (Flag a) y h k = absurd h

IsKind-IsNumeric : IsKind IsNumeric
IsKind-IsNumeric = record {
  empty = tt;
  over = tt;
  add = λ x y h k. IsNumeric-add_of x y;
  multiply = λ x y h k. IsNumeric-multiply_of x y;
  any = IsNumeric-or_of;
  all = IsNumeric-and_of;
  part = λ x n h. IsNumeric-divide_of x (whole_cell n);
}

-- a list without flags is reduced to none
pub IsNumeric-reduction_of : (r : Reducer) (ignore : Bool) (xs : List Cell) → All IsNumeric xs → IsNumeric (reduction_of r ignore xs)
IsNumeric-reduction_of r ignore xs q =
    reduction_of-kept IsNumeric IsKind-IsNumeric r ignore xs (λ e n. tt) (λ e n. tt) q

-- the counts are numbers, whatever the list has
pub IsNumeric-count : (r : Reducer) (ignore : Bool) (xs : List Cell) → is_count r ≡ true → IsNumeric (reduction_of r ignore xs)
unfolding reduction_of
IsNumeric-count Count ignore xs h = cond-kept IsNumeric IsKind-IsNumeric (list_any is_over xs) _ _ tt tt
IsNumeric-count CountAll ignore xs h = cond-kept IsNumeric IsKind-IsNumeric (list_any is_over xs) _ _ tt tt
IsNumeric-count Sum ignore xs h = cc
IsNumeric-count Product ignore xs h = cc
IsNumeric-count Mean ignore xs h = cc
IsNumeric-count Min ignore xs h = cc
IsNumeric-count Max ignore xs h = cc
IsNumeric-count Median ignore xs h = cc
IsNumeric-count First ignore xs h = cc
IsNumeric-count Last ignore xs h = cc
IsNumeric-count Any ignore xs h = cc
IsNumeric-count EveryOne ignore xs h = cc
