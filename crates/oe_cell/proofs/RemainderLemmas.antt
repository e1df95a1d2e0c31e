-- The remainder of two fractions over the least common denominator.
use Rattle.std.proofs.Common.{◌≡◌, ℕ, zero, suc, ◌+◌, ◌*◌, ◌<◌, min, refl, sym, ap, ◌∙◌, subst, arith, ℤ, pos, ◌+ℤ◌, ◌-ℤ◌, ◌*ℤ◌, neg_ℤ}
use Rattle.std.specs.Prelude.{negsuc, unsigned_abs}
use Rattle.std.specs.Int.{◌∣◌, int_signum, int_div_euclid}
use Rattle.std.proofs.Math.Nat.{mul-pos, mul-one, zero-mul, mul_comm, mul_assoc, dvd-mul_left, dvd-mul_left_of_dvd}
use Rattle.std.proofs.Math.IntN.{*ℤ_comm}
use Rattle.std.proofs.lemmas.Int.{ints, unsigned_abs-mul}
use Rattle.oe_cell.specs.Fraction.{IsCoprime}
use Rattle.oe_cell.specs.Exact.{exact, exact_value}
use Rattle.oe_cell.specs.Rational.{remainder_of}
use Rattle.oe_cell.specs.LowestTerms.{Expands, floor_quotient}
use Rattle.oe_cell.proofs.Coprime.{IsCoprime-swap, IsCoprime-part}
use Rattle.oe_cell.proofs.ExactLemmas.{exact-scale}
use Rattle.oe_cell.proofs.FloorLemmas.{div_euclid-scale}
use Rattle.oe_cell.proofs.Scale.{abs-scale, scale-scale, scale-add, scale-neg, scale-product}
use Rattle.oe_cell.proofs.SumLemmas.{left_is, left_some, left_divides, IsCoprime-sum}

pub signum-scale : (z : ℤ) (k : ℕ) → 0 < k → int_signum (z *ℤ pos k) ≡ int_signum z
signum-scale (pos zero) k some = rw zero-mul refl
signum-scale (pos (suc a)) k some =
    let product : 0 < suc a * k = mul-pos (omega arith) some in
    let one : min (suc a * k) 1 ≡ min (suc a) 1 = omega arith in
    ap pos one
signum-scale (negsuc a) zero some = absurd (omega arith)
signum-scale (negsuc a) (suc j) some =
    let e : suc a * suc j ≡ suc (a * suc j + j) = omega arith in
    ap (λ (n : ℕ). int_signum (neg_ℤ (pos n))) e

-- the rounded quotient of two fractions, from their numerators over the least common denominator
quotient_same : (a c : ℤ) (b d left right common : ℕ) → Expands (pos b) d (pos left) right common → 0 < b → floor_quotient (a *ℤ pos right) (c *ℤ pos left) ≡ int_div_euclid (a *ℤ pos d *ℤ int_signum c) (pos (b * unsigned_abs c))
quotient_same a c b d left right common h some =
    let sign : int_signum (c *ℤ pos left) ≡ int_signum c = signum-scale c left (left_some h some) in
    let num : a *ℤ pos right *ℤ int_signum c *ℤ pos common ≡ a *ℤ pos d *ℤ int_signum c = sym (scale-product (a *ℤ pos right) (int_signum c) common) ∙ ap (λ (z : ℤ). z *ℤ int_signum c) (scale-scale a right common ∙ ap (λ (n : ℕ). a *ℤ pos n) (sym h.den_is)) in
    let size : unsigned_abs (c *ℤ pos left) ≡ unsigned_abs c * left = abs-scale c left in
    let den : unsigned_abs c * left * common ≡ b * unsigned_abs c = mul_assoc (unsigned_abs c) left common ∙ mul_comm (unsigned_abs c) (left * common) ∙ ap (λ (n : ℕ). n * unsigned_abs c) (sym (left_is h)) in
    ap (λ (z : ℤ). int_div_euclid (a *ℤ pos right *ℤ z) (pos (unsigned_abs (c *ℤ pos left)))) sign ∙ ap (λ (n : ℕ). int_div_euclid (a *ℤ pos right *ℤ int_signum c) (pos n)) size ∙ sym (div_euclid-scale (a *ℤ pos right *ℤ int_signum c) (unsigned_abs c * left) common h.by_some) ∙ ap (λ (z : ℤ). int_div_euclid z (pos (unsigned_abs c * left * common))) num ∙ ap (λ (n : ℕ). int_div_euclid (a *ℤ pos d *ℤ int_signum c) (pos n)) den

minus-scale : (x y : ℤ) (k : ℕ) → (x -ℤ y) *ℤ pos k ≡ x *ℤ pos k -ℤ y *ℤ pos k
minus-scale x y k = scale-add x (neg_ℤ y) k ∙ ap (λ (z : ℤ). x *ℤ pos k +ℤ z) (scale-neg y k)

-- the remainder over the least common denominator
pub exact-rest : (a c t : ℤ) (b d left right common : ℕ) → Expands (pos b) d (pos left) right common → 0 < b → 0 < d → t ≡ a *ℤ pos right -ℤ floor_quotient (a *ℤ pos right) (c *ℤ pos left) *ℤ (c *ℤ pos left) → exact t (left * d) ≡ exact_value (remainder_of (record { num = a; den = b }) (record { num = c; den = d }))
exact-rest a c t b d left right common h some_b some_d e =
    let k = int_div_euclid (a *ℤ pos d *ℤ int_signum c) (pos (b * unsigned_abs c)) in
    let rest : t ≡ a *ℤ pos right -ℤ k *ℤ (c *ℤ pos left) = e ∙ ap (λ (z : ℤ). a *ℤ pos right -ℤ z *ℤ (c *ℤ pos left)) (quotient_same a c b d left right common h some_b) in
    let first : a *ℤ pos right *ℤ pos common ≡ a *ℤ pos (d * 1) = scale-scale a right common ∙ ap (λ (n : ℕ). a *ℤ pos n) (sym h.den_is ∙ sym (mul-one d)) in
    let second : k *ℤ (c *ℤ pos left) *ℤ pos common ≡ c *ℤ k *ℤ pos b = ap (λ (z : ℤ). z *ℤ pos common) (*ℤ_comm k (c *ℤ pos left) ∙ scale-product c k left) ∙ scale-scale (c *ℤ k) left common ∙ ap (λ (n : ℕ). c *ℤ k *ℤ pos n) (sym (left_is h)) in
    let num : t *ℤ pos common ≡ a *ℤ pos (d * 1) -ℤ c *ℤ k *ℤ pos b = ap (λ (z : ℤ). z *ℤ pos common) rest ∙ minus-scale (a *ℤ pos right) (k *ℤ (c *ℤ pos left)) common ∙ ap (λ (z : ℤ). z -ℤ k *ℤ (c *ℤ pos left) *ℤ pos common) first ∙ ap (λ (z : ℤ). a *ℤ pos (d * 1) -ℤ z) second in
    let den : left * d * common ≡ b * (d * 1) = mul_assoc left d common ∙ ap (λ (n : ℕ). left * n) (mul_comm d common) ∙ sym (mul_assoc left common d) ∙ ap (λ (n : ℕ). n * d) (sym (left_is h)) ∙ ap (λ (n : ℕ). b * n) (sym (mul-one d)) in
    sym (exact-scale t (left * d) common (mul-pos (left_some h some_b) some_d) h.by_some) ∙ ap (λ (z : ℤ). exact z (left * d * common)) num ∙ ap (λ (n : ℕ). exact (a *ℤ pos (d * 1) -ℤ c *ℤ k *ℤ pos b) n) den

pub IsCoprime-rest : (a c k t : ℤ) (b d left right common : ℕ) → Expands (pos b) d (pos left) right common → IsCoprime (unsigned_abs a) b → t ≡ a *ℤ pos right -ℤ k *ℤ (c *ℤ pos left) → IsCoprime (unsigned_abs t) left
IsCoprime-rest a c k t b d left right common h p e =
    let size : unsigned_abs (neg_ℤ (k *ℤ (c *ℤ pos left))) ≡ unsigned_abs k * (unsigned_abs c * left) = (let same : unsigned_abs (neg_ℤ (k *ℤ (c *ℤ pos left))) ≡ unsigned_abs (k *ℤ (c *ℤ pos left)) = omega (arith, ints) in same) ∙ unsigned_abs-mul k (c *ℤ pos left) ∙ ap (λ (n : ℕ). unsigned_abs k * n) (abs-scale c left) in
    let multiple : left ∣ unsigned_abs (neg_ℤ (k *ℤ (c *ℤ pos left))) = subst (λ (n : ℕ). left ∣ n) (sym size) (dvd-mul_left_of_dvd left (dvd-mul_left left (unsigned_abs c)) (unsigned_abs k)) in
    subst (λ (z : ℤ). IsCoprime (unsigned_abs z) left) (sym e)
    (IsCoprime-sum a (neg_ℤ (k *ℤ (c *ℤ pos left))) right left (IsCoprime-swap _ _ (IsCoprime-part b _ left (left_divides h) (IsCoprime-swap _ _ p))) (IsCoprime-swap _ _ h.lowest) multiple)
