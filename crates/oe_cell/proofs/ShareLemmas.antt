-- What is left of two numbers after a division by their greatest common divisor.
use Rattle.std.proofs.Common.{◌≡◌, ℕ, ◌*◌, ◌/◌, ◌<◌, ◌≤◌, sym, ap, ◌∙◌, subst, arith, ℤ, pos, ◌*ℤ◌, neg_ℤ, ◌≤ℤ◌, ◌<ℤ◌}
use Rattle.std.specs.Prelude.{negsuc, unsigned_abs}
use Rattle.std.specs.Int.{IsGcd}
use Rattle.std.proofs.lemmas.Int.{ints}
use Rattle.std.proofs.Math.Nat.{div-mul_cancel, pos_of_dvd_of_pos, mul-one, le_of_dvd}
use Rattle.oe_cell.specs.Fraction.{IsCoprime}
use Rattle.oe_cell.specs.LowestTerms.{Expands}
use Rattle.oe_cell.proofs.Coprime.{IsCoprime-quotients, IsCoprime-one, IsCoprime-swap}
use Rattle.oe_cell.proofs.Scale.{abs-scale, scale-neg, *ℤ-pos_one}

pub Expands-one_right : (r : ℤ) (d : ℕ) → d ≡ 1 → Expands r d r d 1
Expands-one_right r d e = record {
  by_some = omega arith;
  num_is = sym (*ℤ-pos_one r);
  den_is = sym (mul-one d);
  lowest = subst (λ (x : ℕ). IsCoprime (unsigned_abs r) x) (sym e) (IsCoprime-one (unsigned_abs r));
}

pub Expands-one_left : (b d : ℕ) → b ≡ 1 → Expands (pos b) d (pos b) d 1
Expands-one_left b d e = record {
  by_some = omega arith;
  num_is = sym (*ℤ-pos_one (pos b));
  den_is = sym (mul-one d);
  lowest = subst (λ (x : ℕ). IsCoprime x d) (sym e) (IsCoprime-swap d 1 (IsCoprime-one d));
}

-- the quotients by the greatest common divisor
pub Expands-gcd : (r n : ℤ) (s g : ℕ) → 0 < s → IsGcd (unsigned_abs r) s g → n *ℤ pos g ≡ r → Expands r s n (s / g) g
Expands-gcd r n s g some h e =
    let positive : 0 < g = pos_of_dvd_of_pos h.1 some in
    let whole : s ≡ s / g * g = sym (div-mul_cancel g h.1) in
    record {
      by_some = positive;
      num_is = sym e;
      den_is = whole;
      lowest = IsCoprime-quotients (unsigned_abs r) s g _ _ positive (ap unsigned_abs (sym e) ∙ abs-scale n g) whole h;
    }

pub gcd_some : (a b g : ℕ) → IsGcd a b g → 0 < b → 0 < g
gcd_some a b g h some = pos_of_dvd_of_pos h.1 some

pub gcd_le : (a b g : ℕ) → IsGcd a b g → 0 < b → g ≤ b
gcd_le a b g h some = le_of_dvd some h.1

-- the sign of a numerator is given back to what is left of its size
pub Expands-signed : (z r : ℤ) (size d left right k : ℕ) → size ≡ unsigned_abs z → Expands (pos size) d (pos left) right k → (pos 0 ≤ℤ z → r ≡ pos left) → (z <ℤ pos 0 → r ≡ neg_ℤ (pos left)) → Expands z d r right k
Expands-signed (pos n) r size d left right k e h up down =
    let same : r ≡ pos left = up (omega (arith, ints)) in
    subst (λ (x : ℤ). Expands (pos n) d x right k) (sym same)
    (subst (λ (x : ℕ). Expands (pos x) d (pos left) right k) e h)
Expands-signed (negsuc m) r size d left right k e h up down =
    let same : r ≡ neg_ℤ (pos left) = down (omega (arith, ints)) in
    let opposite : neg_ℤ (pos left) *ℤ pos k ≡ neg_ℤ (pos left *ℤ pos k) = scale-neg (pos left) k in
    let whole : pos size ≡ pos left *ℤ pos k = h.num_is in
    let least : unsigned_abs (neg_ℤ (pos left)) ≡ left = omega (arith, ints) in
    subst (λ (x : ℤ). Expands (negsuc m) d x right k) (sym same) (record {
      by_some = h.by_some;
      num_is = ap (λ (x : ℕ). neg_ℤ (pos x)) (sym e) ∙ ap neg_ℤ whole ∙ sym opposite;
      den_is = h.den_is;
      lowest = subst (λ (x : ℕ). IsCoprime x right) (sym least) h.lowest;
    })
