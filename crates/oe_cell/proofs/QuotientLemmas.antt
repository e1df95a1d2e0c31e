-- Quotients: what the exact quotient means, and that one of whole numbers in range is in range.
use Rattle.std.proofs.Common.{◌≡◌, ℕ, ◌<◌, ◌≤◌, ◌^◌, sym, ap, ◌∙◌, subst, arith, ℤ, ◌*ℤ◌}
use Rattle.std.specs.Prelude.{unsigned_abs}
use Rattle.std.specs.Int.{int_signum}
use Rattle.std.proofs.Math.Nat.{mul-pos}
use Rattle.oe_cell.specs.Fraction.{Fraction, IsNumber}
use Rattle.oe_cell.specs.Exact.{exact, exact_value, IsExactValue}
use Rattle.oe_cell.specs.LowestTerms.{Expands}
use Rattle.oe_cell.specs.Rational.{quotient_of}
use Rattle.oe_cell.specs.declared.cell.Cell.{Cell}
use Rattle.oe_cell.specs.declared.cell.Cell.TheVariants.{Number}
use Rattle.oe_cell.proofs.ExactLemmas.{InRange, IsExactValue-exact, Expands-den_positive, cell_of_lowest-number, exact-expanded}

-- a cell that is the exact quotient is what the exact quotient means
pub quotient-means : (p q : Fraction) (c : Cell) → IsNumber p → 0 < unsigned_abs q.num → c ≡ exact_value (quotient_of p q) → IsExactValue (quotient_of p q) c
quotient-means p q c p_number some same =
    subst (λ (x : Cell). IsExactValue (quotient_of p q) x) (sym same)
    (IsExactValue-exact _ _ (mul-pos p_number.den_positive some))

-- a / c in lowest terms, where both are in range
pub whole-quotient : (a c t n : ℤ) (size d k : ℕ) → unsigned_abs a < 2 ^ 63 → unsigned_abs c < 2 ^ 63 → 0 < unsigned_abs c → t ≡ a *ℤ int_signum c → unsigned_abs t ≡ unsigned_abs a → size ≡ unsigned_abs c → Expands t size n d k → unsigned_abs n ≤ unsigned_abs t → d ≤ size → IsNumber (record { num = n; den = d }) × (Number (record { num = n; den = d }) ≡ exact (a *ℤ int_signum c) (unsigned_abs c))
whole-quotient a c t n size d k a_fits c_fits some t_is t_size size_is h num den =
    let num_fits : unsigned_abs n < 2 ^ 63 = omega (arith, num, t_size, a_fits) in
    let den_fits : d < 2 ^ 63 = omega (arith, den, size_is, c_fits) in
    let positive : 0 < d = Expands-den_positive h (omega (arith, some, size_is)) in
    let fits : InRange n d = record { num_fits = num_fits; den_fits = den_fits } in
    (record { num_fits = num_fits; den_positive = positive; den_fits = den_fits; reduced = h.lowest }, sym (exact-expanded h ∙ cell_of_lowest-number n d fits) ∙ ap (λ (z : ℤ). exact z size) t_is ∙ ap (λ (x : ℕ). exact (a *ℤ int_signum c) x) size_is)
