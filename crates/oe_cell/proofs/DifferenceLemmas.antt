-- A difference as a sum, and a quotient as a product.
use Rattle.std.proofs.Common.{◌≡◌, pos, ◌+ℤ◌, ◌*◌, ◌*ℤ◌, neg_ℤ}
use Rattle.std.specs.Prelude.{unsigned_abs}
use Rattle.std.specs.Int.{int_signum}
use Rattle.oe_cell.specs.Fraction.{Fraction}
use Rattle.oe_cell.specs.Rational.{sum_of, difference_of, product_of, quotient_of}
use Rattle.oe_cell.proofs.Scale.{scale-neg}
use Rattle.oe_cell.proofs.ProductLemmas.{reciprocal-product}

pub difference_is : (p q : Fraction) → sum_of p (record { num = neg_ℤ q.num; den = q.den }) ≡ difference_of p q
difference_is p q = λ i. record { num = p.num *ℤ pos q.den +ℤ scale-neg q.num p.den i; den = p.den * q.den }

pub quotient_is : (p q : Fraction) → product_of p (record { num = int_signum q.num *ℤ pos q.den; den = unsigned_abs q.num }) ≡ quotient_of p q
quotient_is p q = λ i. record { num = reciprocal-product p.num (int_signum q.num) q.den i; den = p.den * unsigned_abs q.num }
