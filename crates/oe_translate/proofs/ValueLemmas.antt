-- A running sum is the sum of the cells up to it and 0 times the last of them.
use Rattle.std.proofs.Common.{◌≡◌, ℕ, ◌*◌, Bool, true, false, not, ◌&&◌, ◌||◌, cond, if◌then◌else◌, List, [], ◌∷◌, ◌++◌, filter, fold, refl, sym, ap, ◌∙◌, arith, true≢false, ℤ, pos, ◌+ℤ◌, ◌*ℤ◌}
use Rattle.std.specs.List.{AllByRecursion, list_all, list_any}
use Rattle.std.proofs.lemmas.Int.{ints}
use Rattle.std.proofs.lemmas.List.Folds.{list_any-append}
use Rattle.oe_cell.specs.Cells.{IsCell}
use Rattle.oe_cell.specs.Exact.{exact}
use Rattle.oe_cell.specs.Fraction.{Fraction, IsNumber}
use Rattle.oe_cell.specs.Kinds.{IsNumeric, is_empty, is_over}
use Rattle.oe_cell.specs.Operations.{add_of, multiply_of}
use Rattle.oe_cell.specs.Rational.{whole_of}
use Rattle.oe_cell.specs.declared.cell.Cell.{Cell}
use Rattle.oe_cell.specs.declared.cell.Cell.TheVariants.{Empty, Flag, Number, Over}
use Rattle.oe_cell.proofs.CellLemmas.{IsCell-add_of}
use Rattle.oe_cell.proofs.Coprime.{IsCoprime-one}
use Rattle.oe_cell.proofs.ExactLemmas.{cell_of_lowest-number, exact-lowest, exact-scale}
use Rattle.oe_cell.proofs.KindLemmas.{IsNumeric-add_of}
use Rattle.oe_fold.specs.Counted.{counted_cells}
use Rattle.oe_fold.specs.Value.{reduction_of, result_of_counted}
use Rattle.oe_fold.specs.declared.reducer.Reducer.TheVariants.{Sum}
use Rattle.oe_periods.specs.Sums.{left_sum, running_sum, sum_at, sum_so_far}
use Rattle.oe_periods.proofs.SumLemmas.{counts, none_counts}

abbrev pub zero_cell : Cell
zero_cell = Number (whole_of (pos 0))

-- ---- one number

exact_number : (p : Fraction) → IsNumber p → exact p.num p.den ≡ Number p
exact_number p is = exact-lowest p.num p.den is.reduced ∙ cell_of_lowest-number p.num p.den (record { num_fits = is.num_fits; den_fits = is.den_fits })

zero_number : IsNumber (whole_of (pos 0))
zero_number = record { num_fits = omega arith; den_positive = omega arith; den_fits = omega arith; reduced = IsCoprime-one 0 }

zero_product : (z : ℤ) (m : ℕ) → z *ℤ pos 0 ≡ pos 0 *ℤ pos m
zero_product z m = omega (arith, ints)

zero_added : (z : ℤ) (m : ℕ) → z *ℤ pos 1 +ℤ pos 0 *ℤ pos m ≡ z
zero_added z m = omega (arith, ints)

times_zero : (p : Fraction) → IsNumber p → multiply_of (Number p) zero_cell ≡ zero_cell
times_zero p is =
    let one : p.den * 1 ≡ 1 * p.den = omega arith in
    ap (λ n. exact n (p.den * 1)) (zero_product p.num p.den)
    ∙ (ap (exact (pos 0 *ℤ pos p.den)) one
    ∙ (exact-scale (pos 0) 1 p.den (omega arith) is.den_positive ∙ exact_number (whole_of (pos 0)) zero_number))

plus_zero : (p : Fraction) → IsNumber p → add_of (Number p) zero_cell ≡ Number p
plus_zero p is =
    let one : p.den * 1 ≡ p.den = omega arith in
    ap (λ n. exact n (p.den * 1)) (zero_added p.num p.den) ∙ (ap (exact p.num) one ∙ exact_number p is)

sum_plus_zero : (s : Cell) → IsCell s → IsNumeric s → add_of s zero_cell ≡ s
sum_plus_zero Empty is numeric = refl
sum_plus_zero Over is numeric = refl
sum_plus_zero (Flag b) is numeric = absurd numeric
sum_plus_zero (Number p) is numeric = plus_zero p is

sum_at_null : (s : Cell) → add_of s Empty ≡ sum_at Empty s
sum_at_null Empty = refl
sum_at_null Over = refl
sum_at_null (Flag b) = refl
sum_at_null (Number p) = refl

sum_at_number : (q : Fraction) (s : Cell) → sum_at (Number q) s ≡ s
sum_at_number q Empty = refl
sum_at_number q Over = refl
sum_at_number q (Flag b) = refl
sum_at_number q (Number p) = refl

-- ---- the sum of a list

-- numbers of the program's cells, null or Over
pub record IsSummand (c : Cell) : Type 0 where
  pub cell : IsCell c
  pub numeric : IsNumeric c

null_summand : IsSummand Empty
null_summand = record { cell = tt; numeric = tt }

fold_summand : (s : Cell) (cells : List Cell) → IsSummand s → AllByRecursion IsSummand cells → IsSummand (fold add_of s cells)
fold_summand s [] is all = is
fold_summand s (c ∷ cells) is all =
    fold_summand (add_of s c) cells (record { cell = IsCell-add_of s c is.cell all.0.cell; numeric = IsNumeric-add_of s c }) all.1

left_summand : (cells : List Cell) → AllByRecursion IsSummand cells → IsSummand (left_sum cells)
left_summand [] all = null_summand
left_summand (c ∷ cells) all = fold_summand c cells all.0 all.1

kept_summands : (cells : List Cell) → AllByRecursion IsSummand cells → AllByRecursion IsSummand (filter counts cells)
kept_summands [] all = tt
kept_summands (Empty ∷ cells) all = kept_summands cells all.1
kept_summands (Over ∷ cells) all = (all.0, kept_summands cells all.1)
kept_summands (Flag b ∷ cells) all = (all.0, kept_summands cells all.1)
kept_summands (Number q ∷ cells) all = (all.0, kept_summands cells all.1)

-- no null is left among the cells that count
none_null : (cells : List Cell) → list_any is_empty (filter counts cells) ≡ false
none_null [] = refl
none_null (Empty ∷ cells) = none_null cells
none_null (Over ∷ cells) = none_null cells
none_null (Flag b ∷ cells) = none_null cells
none_null (Number q ∷ cells) = none_null cells

-- where no cell is null all count
all_count : (cells : List Cell) → list_any is_empty cells ≡ false → filter counts cells ≡ cells
all_count [] h = refl
all_count (Empty ∷ cells) h = absurd (true≢false h)
all_count (Over ∷ cells) h = ap (λ xs. Over ∷ xs) (all_count cells h)
all_count (Flag b ∷ cells) h = ap (λ xs. Flag b ∷ xs) (all_count cells h)
all_count (Number q ∷ cells) h = ap (λ xs. Number q ∷ xs) (all_count cells h)

not_all_null : (c : Cell) (cells : List Cell) → list_any is_empty (c ∷ cells) ≡ false → list_all is_empty (c ∷ cells) ≡ false
not_all_null Empty cells h = absurd (true≢false h)
not_all_null Over cells h = refl
not_all_null (Flag b) cells h = refl
not_all_null (Number q) cells h = refl

every_counted : (cells : List Cell) → counted_cells false cells ≡ cells
every_counted [] = refl
every_counted (c ∷ cells) = ap (λ xs. c ∷ xs) (every_counted cells)

-- the sum of those that count, as a reduction has it
abbrev counted_sum : List Cell → Cell
counted_sum [] = Empty
counted_sum (c ∷ cells) = cond (list_any is_empty (c ∷ cells)) Empty (fold add_of c cells)

counted_is : (cells : List Cell) → list_any is_empty cells ≡ false → counted_sum cells ≡ left_sum cells
counted_is [] h = refl
counted_is (c ∷ cells) h = rw h refl

abbrev sum_or_null : Bool → List Cell → Cell
sum_or_null ignore cells =
    if (not ignore && list_any is_empty cells) || list_all is_empty cells then Empty else sum_so_far cells

of_counted : (ignore : Bool) (cells : List Cell) → counted_sum (counted_cells ignore cells) ≡ sum_or_null ignore cells
of_counted true cells = by (list_all is_empty cells) refl
  where
    by : (b : Bool) → list_all is_empty cells ≡ b → counted_sum (filter counts cells) ≡ sum_or_null true cells
    by true e = ap counted_sum (none_counts cells e) ∙ rw e refl
    by false e = counted_is (filter counts cells) (none_null cells) ∙ rw e refl
of_counted false [] = refl
of_counted false (c ∷ cells) = ap counted_sum (every_counted (c ∷ cells)) ∙ by (list_any is_empty (c ∷ cells)) refl
  where
    by : (b : Bool) → list_any is_empty (c ∷ cells) ≡ b → counted_sum (c ∷ cells) ≡ sum_or_null false (c ∷ cells)
    by true e = rw e refl
    by false e =
        counted_is (c ∷ cells) e
        ∙ (ap left_sum (sym (all_count (c ∷ cells) e)) ∙ rw (e, not_all_null c cells e) refl)

sum_is : (ignore : Bool) (cells : List Cell) → list_any is_over cells ≡ false → reduction_of Sum ignore cells ≡ sum_or_null ignore cells
unfolding reduction_of
sum_is ignore cells h = rw h (by (counted_cells ignore cells) refl)
  where
    by : (xs : List Cell) → counted_cells ignore cells ≡ xs → result_of_counted Sum xs ≡ sum_or_null ignore cells
    by [] e = ap counted_sum (sym e) ∙ of_counted ignore cells
    by (x ∷ xs) e = ap counted_sum (sym e) ∙ of_counted ignore cells

sum_over : (ignore : Bool) (cells : List Cell) → list_any is_over cells ≡ true → reduction_of Sum ignore cells ≡ Over
unfolding reduction_of
sum_over ignore cells h = rw h refl

-- ---- a running sum

or_last : (a : Bool) → (a || true) ≡ true
or_last true = refl
or_last false = refl

last_over : (before : List Cell) → list_any is_over (before ++ Over ∷ []) ≡ true
last_over before = list_any-append is_over before (Over ∷ []) ∙ or_last (list_any is_over before)

module _ (ignore : Bool) (before : List Cell) where
  abbrev up_to : Cell → List Cell
  up_to cell = before ++ cell ∷ []

  abbrev is_null_at : Cell → Bool
  is_null_at cell = (not ignore && list_any is_empty (up_to cell)) || list_all is_empty (up_to cell)

  without_over : (cell : Cell) → AllByRecursion IsSummand (up_to cell) → IsSummand cell → list_any is_over (up_to cell) ≡ false
      → running_sum ignore before cell ≡ add_of (sum_or_null ignore (up_to cell)) (multiply_of cell zero_cell)
  without_over Over all is none = absurd (true≢false (sym (last_over before) ∙ none))
  without_over (Flag b) all is none = absurd is.numeric
  without_over Empty all is none = by (is_null_at Empty) refl
    where
      by : (b : Bool) → is_null_at Empty ≡ b → running_sum ignore before Empty ≡ add_of (sum_or_null ignore (up_to Empty)) Empty
      by true e = rw (none, e) refl
      by false e = rw (none, e) (sym (sum_at_null (sum_so_far (up_to Empty))))
  without_over (Number q) all is none =
      by (is_null_at (Number q)) refl ∙ ap (add_of (sum_or_null ignore (up_to (Number q)))) (sym (times_zero q is.cell))
    where
      sum : IsSummand (sum_so_far (up_to (Number q)))
      sum = left_summand (filter counts (up_to (Number q))) (kept_summands (up_to (Number q)) all)

      by : (b : Bool) → is_null_at (Number q) ≡ b → running_sum ignore before (Number q) ≡ add_of (sum_or_null ignore (up_to (Number q))) zero_cell
      by true e = rw (none, e) refl
      by false e =
          rw (none, e) (sum_at_number q (sum_so_far (up_to (Number q)))
          ∙ sym (sum_plus_zero (sum_so_far (up_to (Number q))) sum.cell sum.numeric))

  pub running_sum_is : (cell : Cell) → AllByRecursion IsSummand (up_to cell) → IsSummand cell
      → running_sum ignore before cell ≡ add_of (reduction_of Sum ignore (up_to cell)) (multiply_of cell zero_cell)
  running_sum_is cell all is = by (list_any is_over (up_to cell)) refl
    where
      by : (b : Bool) → list_any is_over (up_to cell) ≡ b
          → running_sum ignore before cell ≡ add_of (reduction_of Sum ignore (up_to cell)) (multiply_of cell zero_cell)
      by true e = rw e (ap (λ s. add_of s (multiply_of cell zero_cell)) (sym (sum_over ignore (up_to cell) e)))
      by false e =
          without_over cell all is e
          ∙ ap (λ s. add_of s (multiply_of cell zero_cell)) (sym (sum_is ignore (up_to cell) e))
