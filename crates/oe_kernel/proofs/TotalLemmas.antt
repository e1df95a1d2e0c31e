-- Whole numbers: a total, a product and their sum that are in range are those of the cells.
use Rattle.std.proofs.Common.{◌≡◌, ◌<◌, ◌≤◌, ◌^◌, refl, ap, ◌∙◌, sym, subst, inl, inr, arith, ℤ, pos, ◌+ℤ◌, ◌*ℤ◌}
use Rattle.std.specs.Prelude.{unsigned_abs}
use Rattle.std.specs.Int.{◌∣◌}
use Rattle.std.proofs.Math.IntN.{+ℤ_idr}
use Rattle.std.proofs.lemmas.Nat.Gcd.{dvd-zero, dvd_refl}
use Rattle.oe_cell.specs.Fraction.{Fraction, IsNumber}
use Rattle.oe_cell.specs.Exact.{cell_of_lowest}
use Rattle.oe_cell.specs.Operations.{add_of, multiply_of}
use Rattle.oe_cell.specs.Rational.{whole_of}
use Rattle.oe_cell.specs.declared.cell.Cell.{Cell}
use Rattle.oe_cell.specs.declared.cell.Cell.TheVariants.{Number, Over}
use Rattle.oe_cell.proofs.CellLemmas.{add_of-whole, multiply_of-whole}
use Rattle.oe_cell.proofs.ProductLemmas.{product-zero}
use Rattle.oe_cell.proofs.ExactLemmas.{cases_InRange, cell_of_lowest-number, cell_of_lowest-over}

pub total_of-zero : cell_of_lowest (pos 0) 1 ≡ Number (whole_of (pos 0))
unfolding cell_of_lowest
total_of-zero = refl

pub lowest_whole : (n : ℤ) → unsigned_abs n < 2 ^ 63 → cell_of_lowest n 1 ≡ Number (whole_of n)
lowest_whole n h = cell_of_lowest-number n 1 (record { num_fits = h; den_fits = omega arith })

whole-same : (q : Fraction) → q.den ≡ 1 → q ≡ whole_of q.num
whole-same q h = λ i. record { num = q.num; den = h i }

-- a product added, where every number is whole and in range
pub whole_sum : (sum next : ℤ) (value number : Fraction) → value.den ≡ 1 → number.den ≡ 1 → unsigned_abs sum < 2 ^ 63 → unsigned_abs (value.num *ℤ number.num) < 2 ^ 63 → next ≡ sum +ℤ value.num *ℤ number.num → cell_of_lowest next 1 ≡ add_of (cell_of_lowest sum 1) (multiply_of (Number value) (Number number))
whole_sum sum next value number left right sum_fits product_fits e =
    let product : ℤ = value.num *ℤ number.num in
    let both : multiply_of (Number value) (Number number) ≡ Number (whole_of product) = ap (λ (q : Fraction). multiply_of (Number q) (Number number)) (whole-same value left) ∙ ap (λ (q : Fraction). multiply_of (Number (whole_of value.num)) (Number q)) (whole-same number right) ∙ multiply_of-whole value.num number.num ∙ lowest_whole product product_fits in
    ap (λ (z : ℤ). cell_of_lowest z 1) e ∙ sym (ap (λ (c : Cell). add_of c (multiply_of (Number value) (Number number))) (lowest_whole sum sum_fits) ∙ ap (λ (c : Cell). add_of (Number (whole_of sum)) c) both ∙ add_of-whole sum product)

-- the least machine number is no number of a cell
pub lowest_over : (n : ℤ) → 2 ^ 63 ≤ unsigned_abs n → cell_of_lowest n 1 ≡ Over
lowest_over n h = cell_of_lowest-over n 1 (λ fits. let size : unsigned_abs n < 2 ^ 63 = fits.num_fits in omega arith)

-- a number with the numerator 0 is the whole number 0
zero-whole : (q : Fraction) → IsNumber q → q.num ≡ pos 0 → q ≡ whole_of (pos 0)
zero-whole q number zero =
    let den : q.den ≡ 1 = number.reduced q.den (subst (λ (z : ℤ). q.den ∣ unsigned_abs z) (sym zero) (dvd-zero q.den)) (dvd_refl q.den) in
    λ i. record { num = zero i; den = den i }

-- and a product with it leaves a total
pub sum_kept : (sum : ℤ) (value number : Fraction) → IsNumber value → IsNumber number → value.num ≡ pos 0 → cell_of_lowest sum 1 ≡ add_of (cell_of_lowest sum 1) (multiply_of (Number value) (Number number))
sum_kept sum value number value_number number_number zero =
    let none : multiply_of (Number value) (Number number) ≡ Number (whole_of (pos 0)) = product-zero value number value_number number_number zero ∙ ap Number (zero-whole value value_number zero) in
    let added : cell_of_lowest sum 1 ≡ add_of (cell_of_lowest sum 1) (Number (whole_of (pos 0))) = elim (cases_InRange sum 1) [
      | inl fits ↦ ap (λ (z : ℤ). cell_of_lowest z 1) (sym (+ℤ_idr sum)) ∙ sym (ap (λ (c : Cell). add_of c (Number (whole_of (pos 0)))) (cell_of_lowest-number sum 1 fits) ∙ add_of-whole sum (pos 0))
      | inr none ↦ let over = cell_of_lowest-over sum 1 none in over ∙ sym (ap (λ (c : Cell). add_of c (Number (whole_of (pos 0)))) over)
    ] in
    added ∙ ap (λ (c : Cell). add_of (cell_of_lowest sum 1) c) (sym none)
