-- The sign of a remainder is that of the divisor.
use Rattle.std.proofs.Common.{◌≡◌, ℕ, zero, suc, ◌*◌, ◌<◌, min, ◌⊎◌, inl, inr, refl, sym, ap, ◌∙◌, arith, ℤ, pos, ◌-ℤ◌, ◌*ℤ◌, ◌≤ℤ◌, neg_ℤ}
use Rattle.std.specs.Prelude.{negsuc, unsigned_abs}
use Rattle.std.specs.Int.{int_signum}
use Rattle.std.proofs.Math.Nat.{mul-pos, mul-one, mul_comm}
use Rattle.std.proofs.Math.IntN.{*ℤ_comm}
use Rattle.std.proofs.lemmas.Int.{ints}
use Rattle.oe_cell.specs.Fraction.{Fraction}
use Rattle.oe_cell.specs.Cells.{IfNumber}
use Rattle.oe_cell.specs.Exact.{IsSameRational, IsExactValue}
use Rattle.oe_cell.specs.Rational.{quotient_of, remainder_of, floor_int, HasSignOf}
use Rattle.oe_cell.specs.declared.cell.Cell.{Cell}
use Rattle.oe_cell.specs.declared.cell.Cell.TheVariants.{Empty, Flag, Number, Over}
use Rattle.oe_cell.proofs.FloorLemmas.{IsFloor-floor_int}
use Rattle.oe_cell.proofs.RemainderLemmas.{signum-scale}
use Rattle.oe_cell.proofs.Scale.{scale-scale, scale-neg, same_from_scale}

sign_up : (z : ℤ) → pos 0 ≤ℤ z → (z ≡ pos 0) ⊎ (int_signum z ≡ pos 1)
sign_up (pos zero) h = inl refl
sign_up (pos (suc n)) h = inr (let one : min (suc n) 1 ≡ 1 = omega arith in ap pos one)
sign_up (negsuc n) h = absurd (omega (arith, ints, h))

sign_down : (z : ℤ) → z ≤ℤ pos 0 → (z ≡ pos 0) ⊎ (int_signum z ≡ negsuc 0)
sign_down (pos zero) h = inl refl
sign_down (pos (suc n)) h = absurd (omega (arith, ints, h))
sign_down (negsuc n) h = inr refl

-- c k b as a multiple of b |c|
multiple : (k : ℤ) (n b : ℕ) → pos n *ℤ k *ℤ pos b ≡ k *ℤ pos (b * n)
multiple k n b =
    ap (λ (z : ℤ). z *ℤ pos b) (*ℤ_comm (pos n) k) ∙ scale-scale k n b ∙ ap (λ (m : ℕ). k *ℤ pos m) (mul_comm n b)

-- what the quotient rounded down leaves of a d over c b
rest_sign : (a c k : ℤ) (b d : ℕ) → 0 < unsigned_abs c → (k *ℤ pos (b * unsigned_abs c)) ≤ℤ (a *ℤ pos d *ℤ int_signum c) → (a *ℤ pos (d * 1) -ℤ c *ℤ k *ℤ pos b ≡ pos 0) ⊎ (int_signum (a *ℤ pos (d * 1) -ℤ c *ℤ k *ℤ pos b) ≡ int_signum c)
rest_sign a (pos n) k b d some h =
    let one : min n 1 ≡ 1 = omega arith in
    let whole : a *ℤ pos (d * 1) ≡ a *ℤ pos d = ap (λ (m : ℕ). a *ℤ pos m) (mul-one d) in
    let same : a *ℤ pos d *ℤ pos (min n 1) ≡ a *ℤ pos d = ap (λ (m : ℕ). a *ℤ pos d *ℤ pos m) one ∙ omega (arith, ints) in
    let turned : pos n *ℤ k *ℤ pos b ≡ k *ℤ pos (b * n) = multiple k n b in
    let up : pos 0 ≤ℤ (a *ℤ pos (d * 1) -ℤ pos n *ℤ k *ℤ pos b) = omega (arith, ints, h, whole, same, turned) in
    elim (sign_up (a *ℤ pos (d * 1) -ℤ pos n *ℤ k *ℤ pos b) up) [ inl e ↦ inl e | inr e ↦ inr (e ∙ ap pos (sym one)) ]
rest_sign a (negsuc m) k b d some h =
    let whole : a *ℤ pos (d * 1) ≡ a *ℤ pos d = ap (λ (n : ℕ). a *ℤ pos n) (mul-one d) in
    let same : a *ℤ pos d *ℤ negsuc 0 ≡ neg_ℤ (a *ℤ pos d) = omega (arith, ints) in
    let opposite : negsuc m *ℤ k ≡ neg_ℤ (pos (suc m) *ℤ k) = *ℤ_comm (negsuc m) k ∙ minus k m ∙ ap neg_ℤ (*ℤ_comm k (pos (suc m))) in
    let turned : negsuc m *ℤ k *ℤ pos b ≡ neg_ℤ (k *ℤ pos (b * suc m)) = ap (λ (z : ℤ). z *ℤ pos b) opposite ∙ scale-neg (pos (suc m) *ℤ k) b ∙ ap neg_ℤ (multiple k (suc m) b) in
    let down : (a *ℤ pos (d * 1) -ℤ negsuc m *ℤ k *ℤ pos b) ≤ℤ pos 0 = omega (arith, ints, h, whole, same, turned) in
    sign_down (a *ℤ pos (d * 1) -ℤ negsuc m *ℤ k *ℤ pos b) down
  where
    minus : (z : ℤ) (n : ℕ) → z *ℤ negsuc n ≡ neg_ℤ (z *ℤ pos (suc n))
    minus (pos a) n = omega (arith, ints)
    minus (negsuc a) n = omega (arith, ints)

pub HasSignOf-remainder_of : (p q : Fraction) → 0 < p.den → 0 < unsigned_abs q.num → HasSignOf q (remainder_of p q)
HasSignOf-remainder_of p q some_b some_c =
    rest_sign p.num q.num (floor_int (quotient_of p q)) p.den q.den some_c (IsFloor-floor_int (quotient_of p q) (mul-pos some_b some_c)).not_above

-- the same rational number has the same sign
HasSignOf-same : (q r s : Fraction) → 0 < r.den → 0 < s.den → IsSameRational r s → HasSignOf q s → HasSignOf q r
HasSignOf-same q r s some_r some_s same h =
    elim h [
      | inl none ↦
          inl (same_from_scale r.num (pos 0) s.den some_s (same ∙ ap (λ (z : ℤ). z *ℤ pos r.den) none ∙ no_part r.den s.den))
      | inr sign ↦
          inr (sym (signum-scale r.num s.den some_s) ∙ ap int_signum same ∙ signum-scale s.num r.den some_r ∙ sign)
    ]
  where
    no_part : (m n : ℕ) → pos 0 *ℤ pos m ≡ pos 0 *ℤ pos n
    no_part m n = omega (arith, ints)

-- the cell of a fraction has its sign
pub HasSignOf-exact : (q s : Fraction) (c : Cell) → 0 < s.den → IsExactValue s c → HasSignOf q s → IfNumber c (λ r. HasSignOf q r)
HasSignOf-exact q s (Number r) some exact h = HasSignOf-same q r s exact.0.den_positive some exact.1 h
HasSignOf-exact q s Over some exact h = tt
HasSignOf-exact q s Empty some exact h = tt
HasSignOf-exact q s (Flag b) some exact h = tt
