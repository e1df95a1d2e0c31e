-- What a reducer makes of a tally in the end is the reduction of the cells that it is of.
use Rattle.std.proofs.Common.{◌≡◌, ℕ, ◌<◌, true, false, Bool, refl, sym, ap, ◌∙◌, subst, arith, List, [], ◌∷◌, length}
use Rattle.std.specs.Prelude.{Some, MatchBool, unwrap_or, IsPermutation}
use Rattle.std.specs.List.{All, list_any, reduce}
use Rattle.std.specs.List.Sorted.{IsSortedBy}
use Rattle.std.proofs.lemmas.List.Elements.{All-filter}
use Rattle.oe_cell.specs.Cells.{IsCell}
use Rattle.oe_cell.specs.Kinds.{is_over}
use Rattle.oe_cell.specs.Operations.{divide_of}
use Rattle.oe_cell.specs.declared.cell.Cell.{Cell}
use Rattle.oe_cell.specs.declared.cell.Cell.TheVariants.{Empty, Over}
use Rattle.oe_fold.specs.Counted.{is_counted, counted_cells, whole_cell}
use Rattle.oe_fold.specs.Value.{reduction_of}
use Rattle.oe_fold.specs.Order.{is_before}
use Rattle.oe_fold.specs.Progress.{skips_nulls, join_of, IsTallyOf}
use Rattle.oe_fold.specs.Reduction.{makes_null, middle_of, IsResultOfCounted}
use Rattle.oe_fold.specs.declared.reducer.Reducer.{Reducer}
use Rattle.oe_fold.specs.declared.reducer.Reducer.TheVariants.{Sum, Product, Mean, Min, Max, Median, First, Last, Any, All as EveryOne, Count, CountAll}
use Rattle.oe_fold.specs.declared.tally.Tally.{Tally}
use Rattle.oe_fold.proofs.ValueLemmas.{same-as-reduction_of}
use Rattle.oe_fold.proofs.ReductionLemmas.{none_passes, count_from_number, count_all_from_number, reduction_from_counted, reduction_from_over, counted_from_fold, counted_from_mean, counted_from_median, counted_from_refused}

-- the reducers but the two counts leave out nulls exactly where they are ignored
skips_nulls-other : (r : Reducer) (ignore : Bool) → (r ≡ Count → ⊥) × (r ≡ CountAll → ⊥) → skips_nulls r ignore ≡ ignore
skips_nulls-other Sum ignore other = refl
skips_nulls-other Product ignore other = refl
skips_nulls-other Mean ignore other = refl
skips_nulls-other Min ignore other = refl
skips_nulls-other Max ignore other = refl
skips_nulls-other Median ignore other = refl
skips_nulls-other First ignore other = refl
skips_nulls-other Last ignore other = refl
skips_nulls-other Any ignore other = refl
skips_nulls-other EveryOne ignore other = refl
skips_nulls-other Count ignore other = absurd (other.0 refl)
skips_nulls-other CountAll ignore other = absurd (other.1 refl)

module _ (r : Reducer) (skips : Bool) (xs : List Cell) (t : Tally) (seen : IsTallyOf r skips xs t) (known : All IsCell xs) where
  counted : All IsCell (counted_cells skips xs)
  counted = All-filter (is_counted skips) IsCell xs known

  -- an Over
  pub settled_over : (ignore : Bool) → t.over ≡ true → Over ≡ reduction_of r ignore xs
  settled_over ignore h = same-as-reduction_of r ignore xs Over known (reduction_from_over r ignore xs (sym seen.over ∙ h))

  -- none
  pub without_over : t.over ≡ false → list_any is_over xs ≡ false
  without_over h = sym seen.over ∙ h

  fitting : list_any is_over xs ≡ false → All (λ x. is_over x ≡ false) (counted_cells skips xs)
  fitting h = All-filter (is_counted skips) (λ x. is_over x ≡ false) xs (none_passes is_over xs h)

  -- a number of cells
  number_of : (v : Cell) → t.over ≡ false → v ≡ whole_cell t.count → MatchBool (list_any is_over xs) (v ≡ Over) (v ≡ whole_cell (length (counted_cells skips xs)))
  number_of v h e =
      subst (λ (b : Bool). MatchBool b (v ≡ Over) (v ≡ whole_cell (length (counted_cells skips xs)))) (sym (without_over h)) (e ∙ ap (λ (n : ℕ). whole_cell n) seen.count)

  -- a cell that makes the result null
  pub settled_null : t.null ≡ true → IsResultOfCounted r (counted_cells skips xs) Empty
  settled_null h = counted_from_refused r (counted_cells skips xs) (sym seen.null ∙ h)

-- what the cells come to, for the reducers that need no more
counted_from_value : (r : Reducer) (ks : List Cell) (v : Cell) → All IsCell ks → All (λ z. is_over z ≡ false) ks → list_any (makes_null r) ks ≡ false → v ≡ unwrap_or (reduce (join_of r) ks) Empty → (r ≡ Mean → ⊥) → (r ≡ Median → ⊥) → (r ≡ Count → ⊥) × (r ≡ CountAll → ⊥) → IsResultOfCounted r ks v
counted_from_value r [] v c h k e mean median other = e
counted_from_value r (x ∷ xs) v c h k e mean median other =
    counted_from_fold r (x ∷ xs) v c h k (ap (λ (z : Cell). Some z) (sym e)) mean median other

counted_from_part : (ks : List Cell) (sum v : Cell) → list_any (makes_null Mean) ks ≡ false → sum ≡ unwrap_or (reduce (join_of Mean) ks) Empty → v ≡ divide_of sum (whole_cell (length ks)) → IsResultOfCounted Mean ks v
counted_from_part [] sum v k e f = f ∙ ap (λ (z : Cell). divide_of z (whole_cell 0)) e
counted_from_part (x ∷ xs) sum v k e f = counted_from_mean (x ∷ xs) sum v k (ap (λ (z : Cell). Some z) (sym e)) f

module _ (skips : Bool) (xs : List Cell) (t : Tally) (known : All IsCell xs) where
  pub settled_value : (r : Reducer) → IsTallyOf r skips xs t → list_any is_over xs ≡ false → t.null ≡ false → (r ≡ Mean → ⊥) → (r ≡ Median → ⊥) → (r ≡ Count → ⊥) × (r ≡ CountAll → ⊥) → IsResultOfCounted r (counted_cells skips xs) t.value
  settled_value r seen fits h mean median other =
      counted_from_value r (counted_cells skips xs) t.value (counted r skips xs t seen known) (fitting r skips xs t seen known fits) (sym seen.null ∙ h) seen.value mean median other

  pub settled_mean : (v : Cell) → IsTallyOf Mean skips xs t → t.null ≡ false → v ≡ divide_of t.value (whole_cell t.count) → IsResultOfCounted Mean (counted_cells skips xs) v
  settled_mean v seen h e =
      counted_from_part (counted_cells skips xs) t.value v (sym seen.null ∙ h) seen.value (e ∙ ap (λ (n : ℕ). divide_of t.value (whole_cell n)) seen.count)

-- the two counts, and the other reducers
module _ (ignore : Bool) (xs : List Cell) (t : Tally) (known : All IsCell xs) (v : Cell) where
  pub settled_count : IsTallyOf Count true xs t → t.over ≡ false → v ≡ whole_cell t.count → v ≡ reduction_of Count ignore xs
  settled_count seen h e = same-as-reduction_of Count ignore xs v known (count_from_number ignore xs v (number_of Count true xs t seen known v h e))

  pub settled_count_all : IsTallyOf CountAll false xs t → t.over ≡ false → v ≡ whole_cell t.count → v ≡ reduction_of CountAll ignore xs
  settled_count_all seen h e = same-as-reduction_of CountAll ignore xs v known (count_all_from_number ignore xs v (number_of CountAll false xs t seen known v h e))

  pub settled_counted : (r : Reducer) → (r ≡ Count → ⊥) × (r ≡ CountAll → ⊥) → list_any is_over xs ≡ false → IsResultOfCounted r (counted_cells (skips_nulls r ignore) xs) v → v ≡ reduction_of r ignore xs
  settled_counted r other fits h =
      same-as-reduction_of r ignore xs v known (reduction_from_counted r ignore xs v fits other (subst (λ (b : Bool). IsResultOfCounted r (counted_cells b xs) v) (skips_nulls-other r ignore other) h))

-- the median
module _ (ignore : Bool) (xs : List Cell) (t : Tally) (known : All IsCell xs) (seen : IsTallyOf Median ignore xs t) (fits : t.over ≡ false) where
  settled_median : (v : Cell) → IsResultOfCounted Median (counted_cells ignore xs) v → v ≡ reduction_of Median ignore xs
  settled_median v h =
      settled_counted ignore xs t known v Median ((λ e. cc), (λ e. cc)) (without_over Median ignore xs t seen known fits) h

  pub median_null : t.null ≡ true → Empty ≡ reduction_of Median ignore xs
  median_null h = settled_median Empty (settled_null Median ignore xs t seen known h)

  pub median_none : t.count ≡ 0 → Empty ≡ reduction_of Median ignore xs
  median_none h = settled_median Empty (none (counted_cells ignore xs) (sym seen.count ∙ h))
    where
      none : (ks : List Cell) → length ks ≡ 0 → IsResultOfCounted Median ks Empty
      none [] e = refl
      none (x ∷ ks) e = absurd (omega (arith, e))

  pub median_middle : (v : Cell) → t.null ≡ false → 0 < t.count → (ordered : List Cell) × IsPermutation (counted_cells ignore xs) ordered × IsSortedBy is_before ordered × (v ≡ middle_of ordered) → v ≡ reduction_of Median ignore xs
  median_middle v h some m =
      let counts : 0 < length (counted_cells ignore xs) = subst (λ (n : ℕ). 0 < n) seen.count some in
      settled_median v (counted_from_median (counted_cells ignore xs) v counts (counted Median ignore xs t seen known) (fitting Median ignore xs t seen known (without_over Median ignore xs t seen known fits)) (sym seen.null ∙ h) m)
