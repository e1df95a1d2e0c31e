-- Why a sum is in lowest terms but for the common part of the denominators.
use Rattle.std.proofs.Common.{◌≡◌, ℕ, ◌+◌, ◌*◌, ◌<◌, ◌⊎◌, inl, inr, sym, ap, ◌∙◌, subst, arith, ℤ, pos, ◌+ℤ◌, ◌*ℤ◌}
use Rattle.std.specs.Prelude.{unsigned_abs}
use Rattle.std.specs.Int.{◌∣◌}
use Rattle.std.proofs.Math.Nat.{dvd-add, dvd-add_iff_left, dvd-add_iff_right, dvd-mul_left, dvd-mul_right, dvd_trans, mul-pos, mul_assoc, mul_comm, mul-mul-mul_comm, pos_of_dvd_of_pos}
use Rattle.std.proofs.Math.IntN.{+ℤ_comm, zero-*ℤ}
use Rattle.std.proofs.lemmas.Int.{ints}
use Rattle.oe_cell.specs.Fraction.{Fraction, IsNumber, IsCoprime}
use Rattle.oe_cell.specs.Exact.{exact, exact_value, IsExactValue}
use Rattle.oe_cell.specs.Rational.{sum_of}
use Rattle.oe_cell.specs.LowestTerms.{Expands}
use Rattle.oe_cell.proofs.Coprime.{IsCoprime-swap, IsCoprime-part, IsCoprime-product}
use Rattle.oe_cell.specs.declared.cell.Cell.{Cell}
use Rattle.oe_cell.specs.declared.cell.Cell.TheVariants.{Number}
use Rattle.oe_cell.proofs.ExactLemmas.{IsExactValue-exact, exact-scale, exact-lowest, cell_of_lowest-number, Expands-den_positive}
use Rattle.oe_cell.proofs.Scale.{abs-scale, scale-scale, scale-add}

abs_cases : (x y : ℤ) → (unsigned_abs (x +ℤ y) ≡ unsigned_abs x + unsigned_abs y) ⊎ ((unsigned_abs x ≡ unsigned_abs (x +ℤ y) + unsigned_abs y) ⊎ (unsigned_abs y ≡ unsigned_abs (x +ℤ y) + unsigned_abs x))
abs_cases x y = grind (arith, ints)

-- what divides a sum and one of its terms divides the other
pub dvd_from_sum : (e : ℕ) (x y : ℤ) → e ∣ unsigned_abs (x +ℤ y) → e ∣ unsigned_abs y → e ∣ unsigned_abs x
dvd_from_sum e x y p q =
    elim (abs_cases x y) [
      | inl h ↦ (dvd-add_iff_left e q).1 (subst (λ (n : ℕ). e ∣ n) h p)
      | inr (inl h) ↦ subst (λ (n : ℕ). e ∣ n) (sym h) (dvd-add e p q)
      | inr (inr h) ↦ (dvd-add_iff_right e p).1 (subst (λ (n : ℕ). e ∣ n) h q)
    ]

-- a j + y, where y is a multiple of the number that a and j are coprime to
pub IsCoprime-sum : (a y : ℤ) (j m : ℕ) → IsCoprime (unsigned_abs a) m → IsCoprime j m → m ∣ unsigned_abs y → IsCoprime (unsigned_abs (a *ℤ pos j +ℤ y)) m
IsCoprime-sum a y j m p q multiple d left right =
    let term : d ∣ unsigned_abs a * j = subst (λ (n : ℕ). d ∣ n) (abs-scale a j) (dvd_from_sum d (a *ℤ pos j) y left (dvd_trans _ right multiple)) in
    IsCoprime-product m (unsigned_abs a) j (IsCoprime-swap _ _ p) (IsCoprime-swap _ _ q) d right term

-- what the common part of two denominators says of them
pub left_is : {b d left right common : ℕ} → Expands (pos b) d (pos left) right common → b ≡ left * common
left_is h = ap unsigned_abs h.num_is

pub left_some : {b d left right common : ℕ} → Expands (pos b) d (pos left) right common → 0 < b → 0 < left
left_some {left} {common} h some = pos_of_dvd_of_pos (dvd-mul_right left common) (subst (λ (n : ℕ). 0 < n) (left_is h) some)

pub left_divides : {b d left right common : ℕ} → Expands (pos b) d (pos left) right common → left ∣ b
left_divides {left} {common} h = subst (λ (n : ℕ). left ∣ n) (sym (left_is h)) (dvd-mul_right left common)

pub right_divides : {b d left right common : ℕ} → Expands (pos b) d (pos left) right common → right ∣ d
right_divides {right} {common} h = subst (λ (n : ℕ). right ∣ n) (sym h.den_is) (dvd-mul_right right common)

-- the numerator of a sum over the least common denominator has no divisor in common with what is not common
pub IsCoprime-total : (a c : ℤ) (b d left right common : ℕ) → Expands (pos b) d (pos left) right common → IsCoprime (unsigned_abs a) b → IsCoprime (unsigned_abs c) d → IsCoprime (unsigned_abs (a *ℤ pos right +ℤ c *ℤ pos left)) (left * right)
IsCoprime-total a c b d left right common h p q =
    let apart : IsCoprime left right = h.lowest in
    let with_left : IsCoprime (unsigned_abs (a *ℤ pos right +ℤ c *ℤ pos left)) left = IsCoprime-sum a (c *ℤ pos left) right left (IsCoprime-swap _ _ (IsCoprime-part b _ left (left_divides h) (IsCoprime-swap _ _ p))) (IsCoprime-swap _ _ apart) (subst (λ (n : ℕ). left ∣ n) (sym (abs-scale c left)) (dvd-mul_left left (unsigned_abs c))) in
    let with_right : IsCoprime (unsigned_abs (c *ℤ pos left +ℤ a *ℤ pos right)) right = IsCoprime-sum c (a *ℤ pos right) left right (IsCoprime-swap _ _ (IsCoprime-part d _ right (right_divides h) (IsCoprime-swap _ _ q))) apart (subst (λ (n : ℕ). right ∣ n) (sym (abs-scale a right)) (dvd-mul_left right (unsigned_abs a))) in
    IsCoprime-product _ left right with_left (subst (λ (z : ℤ). IsCoprime (unsigned_abs z) right) (+ℤ_comm (c *ℤ pos left) (a *ℤ pos right)) with_right)

-- a sum over the product of the denominators is one over their least common multiple, expanded by the common part
pub exact-total : (a c : ℤ) (b d left right common : ℕ) → Expands (pos b) d (pos left) right common → 0 < b → 0 < d → exact (a *ℤ pos right +ℤ c *ℤ pos left) (left * right * common) ≡ exact (a *ℤ pos d +ℤ c *ℤ pos b) (b * d)
exact-total a c b d left right common h some_b some_d =
    let t = a *ℤ pos right +ℤ c *ℤ pos left in
    let some : 0 < left * right * common = mul-pos (mul-pos (left_some h some_b) (Expands-den_positive h some_d)) h.by_some in
    let nums : t *ℤ pos common ≡ a *ℤ pos d +ℤ c *ℤ pos b = rw (left_is h, h.den_is) (scale-add (a *ℤ pos right) (c *ℤ pos left) common ∙ ap (λ (z : ℤ). z +ℤ c *ℤ pos left *ℤ pos common) (scale-scale a right common) ∙ ap (λ (z : ℤ). a *ℤ pos (right * common) +ℤ z) (scale-scale c left common)) in
    let dens : left * right * common * common ≡ b * d = rw (left_is h, h.den_is) (mul_assoc (left * right) common common ∙ sym (mul-mul-mul_comm left common right common)) in
    sym (exact-scale t (left * right * common) common some h.by_some) ∙ ap (λ (z : ℤ). exact z (left * right * common * common)) nums ∙ ap (λ (n : ℕ). exact (a *ℤ pos d +ℤ c *ℤ pos b) n) dens

pub sum-comm : (p q : Fraction) → sum_of q p ≡ sum_of p q
sum-comm p q = λ i. record {
  num = +ℤ_comm (q.num *ℤ pos p.den) (p.num *ℤ pos q.den) i;
  den = mul_comm q.den p.den i;
}

-- a number and 0 add up to that number
pub sum-zero_right : (p q : Fraction) → IsNumber p → IsNumber q → q.num ≡ pos 0 → exact_value (sum_of p q) ≡ Number p
sum-zero_right p q p_number q_number zero =
    let last : q.num *ℤ pos p.den ≡ pos 0 = ap (λ (z : ℤ). z *ℤ pos p.den) zero ∙ zero-*ℤ (pos p.den) in
    let alone : p.num *ℤ pos q.den +ℤ q.num *ℤ pos p.den ≡ p.num *ℤ pos q.den = omega (arith, ints, last) in
    ap (λ (z : ℤ). exact z (p.den * q.den)) alone
    ∙ exact-scale p.num p.den q.den p_number.den_positive q_number.den_positive
    ∙ exact-lowest p.num p.den p_number.reduced
    ∙ cell_of_lowest-number p.num p.den (record { num_fits = p_number.num_fits; den_fits = p_number.den_fits })

pub sum-zero_left : (p q : Fraction) → IsNumber p → IsNumber q → p.num ≡ pos 0 → exact_value (sum_of p q) ≡ Number q
sum-zero_left p q p_number q_number zero =
    ap exact_value (sum-comm q p) ∙ sum-zero_right q p q_number p_number zero

-- a cell that is the exact sum is what the exact sum means
pub sum-means : (p q : Fraction) (c : Cell) → IsNumber p → IsNumber q → c ≡ exact_value (sum_of p q) → IsExactValue (sum_of p q) c
sum-means p q c p_number q_number same =
    subst (λ (x : Cell). IsExactValue (sum_of p q) x) (sym same)
    (IsExactValue-exact _ _ (mul-pos p_number.den_positive q_number.den_positive))
