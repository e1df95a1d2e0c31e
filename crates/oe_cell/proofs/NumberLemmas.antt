-- When a pair is a number of a cell.
use Rattle.std.proofs.Common.{true, refl, ◌<◌, ◌^◌, w64, to_z, of_z, ◌∙◌, ◌≡◌, ◌≢◌, ℕ, ◌≤◌, IsTrue, nat_eq, ℤ, subst, sym, arith}
use Rattle.std.specs.Prelude.{unsigned_abs}
use Rattle.std.specs.Int.{IsGcd}
use Rattle.std.proofs.lemmas.Int.{to_z-of_z, fits_signed_from_abs}
use Rattle.std.proofs.lemmas.Bool.Decides.{Decides-eqb}
use Rattle.oe_cell.specs.Fraction.{Fraction, IsNumber, IsCoprime}
use Rattle.oe_cell.proofs.Coprime.{IsCoprime-one, IsCoprime-from_gcd, one_from_IsCoprime}

pub IsNumber-tested : (n : ℤ) (d size g : ℕ) → size ≡ unsigned_abs n → size ≤ 9223372036854775807 → d ≢ 0 → d ≤ 9223372036854775807 → IsGcd size d g → (IsTrue (nat_eq g 1) → IsNumber (record { num = n; den = d })) × (IsNumber (record { num = n; den = d }) → IsTrue (nat_eq g 1))
IsNumber-tested n d size g e in_range nonzero fits h = (
  λ t. record {
    num_fits = omega arith;
    den_positive = omega arith;
    den_fits = omega arith;
    reduced = subst (λ (x : ℕ). IsCoprime x d) e (IsCoprime-from_gcd size d g h ((Decides-eqb g 1).0 t));
  },
  λ q. (Decides-eqb g 1).1 (one_from_IsCoprime size d g h (subst (λ (x : ℕ). IsCoprime x d) (sym e) q.reduced)),
)

-- over 1 nothing is left to divide by
pub IsNumber-one : (n : ℤ) (d size : ℕ) → size ≡ unsigned_abs n → size ≤ 9223372036854775807 → d ≡ 1 → (IsTrue true → IsNumber (record { num = n; den = d })) × (IsNumber (record { num = n; den = d }) → IsTrue true)
IsNumber-one n d size e in_range one = (
  λ t. record {
    num_fits = omega (arith, e, in_range);
    den_positive = omega (arith, one);
    den_fits = omega (arith, one);
    reduced = subst (λ (x : ℕ). IsCoprime (unsigned_abs n) x) (sym one) (IsCoprime-one (unsigned_abs n));
  },
  λ q. refl,
)

-- a numerator after a pass through a register of 64 bits
pub num_read : (x n : ℤ) → x ≡ n → unsigned_abs n < 2 ^ 63 → to_z w64 (of_z w64 x) ≡ n
num_read x n e fits =
    to_z-of_z w64 x (fits_signed_from_abs w64 x (subst (λ (z : ℤ). unsigned_abs z < 2 ^ 63) (sym e) fits)) ∙ e

-- what the two operands and their parts are
pub record Parts (p q : Fraction) (a c : ℤ) (b d : ℕ) : Type 0 where
  pub p_number : IsNumber p
  pub q_number : IsNumber q
  pub a_is : a ≡ p.num
  pub b_is : b ≡ p.den
  pub c_is : c ≡ q.num
  pub d_is : d ≡ q.den

-- the context of an operation that has taken both operands apart
pub parts_from : {p q : Fraction} {a c : ℤ} {b d : ℕ} → IsNumber p → a ≡ p.num → b ≡ p.den → IsNumber q → c ≡ q.num → d ≡ q.den → Parts p q a c b d
parts_from p_number a_is b_is q_number c_is d_is = record {
  p_number = p_number;
  q_number = q_number;
  a_is = a_is;
  b_is = b_is;
  c_is = c_is;
  d_is = d_is;
}
