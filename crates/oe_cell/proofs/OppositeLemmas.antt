-- The opposite and the reciprocal of a number of a cell.
use Rattle.std.proofs.Common.{◌≡◌, ℕ, ◌*◌, ◌<◌, ◌^◌, w64, to_z, of_z, refl, sym, ap, ◌∙◌, subst, arith, ℤ, pos, ◌-ℤ◌, ◌*ℤ◌, neg_ℤ}
use Rattle.std.specs.Prelude.{negsuc, unsigned_abs}
use Rattle.std.specs.Int.{int_signum}
use Rattle.std.proofs.Math.Nat.{one-mul}
use Rattle.std.proofs.lemmas.Int.{ints, to_z_pos}
use Rattle.oe_cell.specs.Fraction.{Fraction, IsNumber, IsCoprime}
use Rattle.oe_cell.proofs.Coprime.{IsCoprime-swap, IsCoprime-one}
use Rattle.oe_cell.proofs.Scale.{abs-scale}
use Rattle.oe_cell.proofs.NumberLemmas.{num_read}

pub IsNumber-same : (m n : ℤ) (c d : ℕ) → m ≡ n → c ≡ d → IsNumber (record { num = n; den = d }) → IsNumber (record { num = m; den = c })
IsNumber-same m n c d e f h = rw (e, f) h

pub IsNumber-opposite : (p : Fraction) → IsNumber p → IsNumber (record { num = neg_ℤ p.num; den = p.den })
IsNumber-opposite p h =
    let size : unsigned_abs (neg_ℤ p.num) ≡ unsigned_abs p.num = omega (arith, ints) in
    record {
      num_fits = subst (λ (n : ℕ). n < 2 ^ 63) (sym size) h.num_fits;
      den_positive = h.den_positive;
      den_fits = h.den_fits;
      reduced = subst (λ (n : ℕ). IsCoprime n p.den) (sym size) h.reduced;
    }

-- the numerator that the machine makes
pub opposite_read : (x n : ℤ) → x ≡ n → unsigned_abs n < 2 ^ 63 → to_z w64 (of_z w64 (pos 0 -ℤ to_z w64 (of_z w64 x))) ≡ neg_ℤ n
opposite_read x n e fits =
    let opposite : pos 0 -ℤ n ≡ neg_ℤ n = omega (arith, ints) in
    let small : unsigned_abs (neg_ℤ n) < 2 ^ 63 = omega (arith, ints) in
    ap (λ (z : ℤ). to_z w64 (of_z w64 (pos 0 -ℤ z))) (num_read x n e fits) ∙ num_read (pos 0 -ℤ n) (neg_ℤ n) opposite small

abs-signum : (z : ℤ) → 0 < unsigned_abs z → unsigned_abs (int_signum z) ≡ 1
abs-signum (pos n) h = omega arith
abs-signum (negsuc n) h = refl

abs_reciprocal : (z : ℤ) (d : ℕ) → 0 < unsigned_abs z → unsigned_abs (int_signum z *ℤ pos d) ≡ d
abs_reciprocal z d h = abs-scale (int_signum z) d ∙ ap (λ (n : ℕ). n * d) (abs-signum z h) ∙ one-mul d

pub IsNumber-reciprocal : (p : Fraction) → IsNumber p → 0 < unsigned_abs p.num → IsNumber (record { num = int_signum p.num *ℤ pos p.den; den = unsigned_abs p.num })
IsNumber-reciprocal p h some =
    let size : unsigned_abs (int_signum p.num *ℤ pos p.den) ≡ p.den = abs_reciprocal p.num p.den some in
    record {
      num_fits = subst (λ (n : ℕ). n < 2 ^ 63) (sym size) h.den_fits;
      den_positive = some;
      den_fits = h.num_fits;
      reduced = subst (λ (n : ℕ). IsCoprime n (unsigned_abs p.num)) (sym size) (IsCoprime-swap (unsigned_abs p.num) p.den h.reduced);
    }

-- the numerator that the machine makes
pub reciprocal_read : (x s n : ℤ) (y d : ℕ) → x ≡ n → y ≡ d → s ≡ int_signum (to_z w64 (of_z w64 x)) → unsigned_abs n < 2 ^ 63 → 0 < unsigned_abs n → d < 2 ^ 63 → to_z w64 (of_z w64 (to_z w64 (of_z w64 s) *ℤ to_z w64 y)) ≡ int_signum n *ℤ pos d
reciprocal_read x s n y d e f g fits some den_fits =
    let sign : s ≡ int_signum n = g ∙ ap int_signum (num_read x n e fits) in
    let unit : unsigned_abs (int_signum n) ≡ 1 = abs-signum n some in
    let unit_fits : unsigned_abs (int_signum n) < 2 ^ 63 = omega arith in
    let first : to_z w64 (of_z w64 s) ≡ int_signum n = num_read s (int_signum n) sign unit_fits in
    let second : to_z w64 y ≡ pos d = ap (λ (k : ℕ). to_z w64 k) f ∙ to_z_pos w64 d den_fits in
    let small : unsigned_abs (int_signum n *ℤ pos d) < 2 ^ 63 = subst (λ (k : ℕ). k < 2 ^ 63) (sym (abs_reciprocal n d some)) den_fits in
    ap (λ (z : ℤ). to_z w64 (of_z w64 (z *ℤ to_z w64 y))) first ∙ ap (λ (z : ℤ). to_z w64 (of_z w64 (int_signum n *ℤ z))) second ∙ num_read (int_signum n *ℤ pos d) (int_signum n *ℤ pos d) refl small

pub IsNumber-whole : (n : ℤ) → unsigned_abs n < 2 ^ 63 → IsNumber (record { num = n; den = 1 })
IsNumber-whole n h = record {
  num_fits = h;
  den_positive = omega arith;
  den_fits = omega arith;
  reduced = IsCoprime-one (unsigned_abs n);
}

pub IsNumber-absolute : (p : Fraction) → IsNumber p → IsNumber (record { num = pos (unsigned_abs p.num); den = p.den })
IsNumber-absolute p h = record {
  num_fits = h.num_fits;
  den_positive = h.den_positive;
  den_fits = h.den_fits;
  reduced = h.reduced;
}

-- the numerator that the machine makes
pub absolute_read : (x n r : ℤ) → x ≡ n → r ≡ pos (unsigned_abs (to_z w64 (of_z w64 x))) → unsigned_abs n < 2 ^ 63 → to_z w64 (of_z w64 r) ≡ pos (unsigned_abs n)
absolute_read x n r e f fits =
    num_read r (pos (unsigned_abs n)) (f ∙ ap (λ (z : ℤ). pos (unsigned_abs z)) (num_read x n e fits)) fits
