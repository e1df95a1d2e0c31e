-- Why a product that was cancelled crosswise is in lowest terms.
use Rattle.std.proofs.Common.{◌≡◌, ℕ, ◌*◌, sym, refl, ap, ◌∙◌, subst, ℤ, pos, ◌*ℤ◌}
use Rattle.std.specs.Prelude.{unsigned_abs}
use Rattle.std.specs.Int.{◌∣◌}
use Rattle.std.proofs.Math.Nat.{mul-pos, dvd-mul_right, mul_comm, mul-mul-mul_comm}
use Rattle.std.proofs.Math.IntN.{*ℤ_comm, zero-*ℤ}
use Rattle.std.proofs.lemmas.Int.{unsigned_abs-mul}
use Rattle.oe_cell.specs.Exact.{exact, exact_value, IsExactValue}
use Rattle.oe_cell.specs.Fraction.{Fraction, IsNumber, IsCoprime}
use Rattle.oe_cell.specs.Rational.{product_of}
use Rattle.oe_cell.specs.LowestTerms.{Expands}
use Rattle.oe_cell.specs.declared.cell.Cell.{Cell}
use Rattle.oe_cell.specs.declared.cell.Cell.TheVariants.{Number}
use Rattle.oe_cell.proofs.Coprime.{IsCoprime-swap, IsCoprime-part, IsCoprime-product}
use Rattle.oe_cell.proofs.ExactLemmas.{IsExactValue-exact, cell_of_lowest-number, exact-lowest, exact-scale}
use Rattle.oe_cell.proofs.Scale.{abs-scale, scales-product, scale-product}

num_divides : {r : ℤ} {s : ℕ} {n : ℤ} {d k : ℕ} → Expands r s n d k → unsigned_abs n ∣ unsigned_abs r
num_divides {n} {k} h =
    subst (λ (x : ℕ). unsigned_abs n ∣ x) (sym (ap unsigned_abs h.num_is ∙ abs-scale n k)) (dvd-mul_right (unsigned_abs n) k)

den_divides : {r : ℤ} {s : ℕ} {n : ℤ} {d k : ℕ} → Expands r s n d k → d ∣ s
den_divides {d} {k} h = subst (λ (x : ℕ). d ∣ x) (sym h.den_is) (dvd-mul_right d k)

IsCoprime-parts : (a b c d : ℕ) → c ∣ a → d ∣ b → IsCoprime a b → IsCoprime c d
IsCoprime-parts a b c d p q h = IsCoprime-part a d c p (IsCoprime-swap d a (IsCoprime-part b a d q (IsCoprime-swap a b h)))

-- (a / b) (c / d), where a and d, and c and b, were divided by their common parts
pub Expands-product : (a c m n : ℤ) (b d e f j k : ℕ) → IsCoprime (unsigned_abs a) b → IsCoprime (unsigned_abs c) d → Expands a d m f j → Expands c b n e k → Expands (a *ℤ c) (b * d) (m *ℤ n) (e * f) (j * k)
Expands-product a c m n b d e f j k p q left right = record {
  by_some = mul-pos left.by_some right.by_some;
  num_is = rw (left.num_is, right.num_is) (scales-product m n j k);
  den_is = rw (left.den_is, right.den_is) (mul-mul-mul_comm e k f j ∙ ap (λ (x : ℕ). e * f * x) (mul_comm k j));
  lowest =
      let m_e = IsCoprime-parts (unsigned_abs a) b (unsigned_abs m) e (num_divides left) (den_divides right) p in
      let n_f = IsCoprime-parts (unsigned_abs c) d (unsigned_abs n) f (num_divides right) (den_divides left) q in
      let with_e : IsCoprime e (unsigned_abs m * unsigned_abs n) = IsCoprime-product e (unsigned_abs m) (unsigned_abs n) (IsCoprime-swap _ _ m_e) (IsCoprime-swap _ _ right.lowest) in
      let with_f : IsCoprime f (unsigned_abs m * unsigned_abs n) = IsCoprime-product f (unsigned_abs m) (unsigned_abs n) (IsCoprime-swap _ _ left.lowest) (IsCoprime-swap _ _ n_f) in
      subst (λ (x : ℕ). IsCoprime x (e * f)) (sym (unsigned_abs-mul m n)) (IsCoprime-product (unsigned_abs m * unsigned_abs n) e f (IsCoprime-swap _ _ with_e) (IsCoprime-swap _ _ with_f));
}

-- a product with a reciprocal is a quotient
pub reciprocal-product : (a s : ℤ) (d : ℕ) → a *ℤ (s *ℤ pos d) ≡ a *ℤ pos d *ℤ s
reciprocal-product a s d =
    *ℤ_comm a (s *ℤ pos d) ∙ scale-product s a d ∙ ap (λ (z : ℤ). z *ℤ pos d) (*ℤ_comm s a) ∙ sym (scale-product a s d)

-- a product whose other factor does what its denominator undoes is the first factor
pub product-first : (p q : Fraction) → IsNumber p → IsNumber q → p.num *ℤ q.num ≡ p.num *ℤ pos q.den → exact_value (product_of p q) ≡ Number p
product-first p q p_number q_number same =
    ap (λ (z : ℤ). exact z (p.den * q.den)) same
    ∙ exact-scale p.num p.den q.den p_number.den_positive q_number.den_positive
    ∙ exact-lowest p.num p.den p_number.reduced
    ∙ cell_of_lowest-number p.num p.den (record { num_fits = p_number.num_fits; den_fits = p_number.den_fits })

-- as where it is 0
pub product-zero : (p q : Fraction) → IsNumber p → IsNumber q → p.num ≡ pos 0 → exact_value (product_of p q) ≡ Number p
product-zero p q p_number q_number zero =
    product-first p q p_number q_number (rw zero (zero-*ℤ q.num ∙ sym (zero-*ℤ (pos q.den))))

-- or where the other is 1
pub product-one : (p q : Fraction) → IsNumber p → IsNumber q → q.num ≡ pos 1 → q.den ≡ 1 → exact_value (product_of p q) ≡ Number p
product-one p q p_number q_number num den =
    product-first p q p_number q_number (rw (num, den) refl)

pub product-comm : (p q : Fraction) → product_of q p ≡ product_of p q
product-comm p q = λ i. record { num = *ℤ_comm q.num p.num i; den = mul_comm q.den p.den i }

-- a cell that is the exact product is what the exact product means
pub product-means : (p q : Fraction) (c : Cell) → IsNumber p → IsNumber q → exact_value (product_of p q) ≡ c → IsExactValue (product_of p q) c
product-means p q c p_number q_number same =
    subst (λ (x : Cell). IsExactValue (product_of p q) x) same
    (IsExactValue-exact _ _ (mul-pos p_number.den_positive q_number.den_positive))
