-- The exact value: what it is of an expanded fraction in lowest terms, and that it means what it should.
use Rattle.std.proofs.Common.{◌≡◌, ℕ, ◌*◌, ◌/◌, ◌<◌, ◌^◌, ◌&&◌, nat_lt, ◌⊎◌, inl, inr, refl, sym, ap, ◌∙◌, subst, arith, ℤ, pos, ◌*ℤ◌}
use Rattle.std.specs.Prelude.{unsigned_abs, int_div}
use Rattle.std.specs.Int.{◌∣◌, IsGcd}
use Rattle.std.proofs.Math.Nat.{mul-div_cancel, div-mul_cancel, dvd_antisymm, dvd-mul_left, dvd-mul_right, mul_comm, mul_assoc, mul-one, pos_of_dvd_of_pos, mul-pos}
use Rattle.std.proofs.lemmas.Bool.Decides.{Decides-ltb}
use Rattle.std.proofs.lemmas.Bool.{and_parts, and_from, cond-true, cond-false, cases_Bool}
use Rattle.oe_cell.specs.Fraction.{Fraction, IsNumber, IsCoprime}
use Rattle.oe_cell.specs.Cells.{IsCell}
use Rattle.oe_cell.specs.Exact.{gcd_of, exact, cell_of_lowest, IsExactValue, IsSameRational}
use Rattle.oe_cell.specs.LowestTerms.{Expands}
use Rattle.oe_cell.specs.declared.cell.Cell.{Cell}
use Rattle.oe_cell.specs.declared.cell.Cell.TheVariants.{Empty, Flag, Number, Over}
use Rattle.oe_cell.proofs.Coprime.{IsGcd-gcd_of, gcd_of-scale, IsCoprime-quotients, IsCoprime-swap, IsCoprime-part, IsCoprime-product, dvd_from_product}
use Rattle.oe_cell.proofs.Scale.{abs-scale, div-scale, scale-div, scale-scale, same_from_scale, *ℤ-pos_one}

-- both parts of a pair are in range
pub record InRange (n : ℤ) (d : ℕ) : Type 0 where
  pub num_fits : unsigned_abs n < 2 ^ 63
  pub den_fits : d < 2 ^ 63

pub cell_of_lowest-number : (n : ℤ) (d : ℕ) → InRange n d → cell_of_lowest n d ≡ Number (record { num = n; den = d })
unfolding cell_of_lowest
cell_of_lowest-number n d h =
    cond-true _ _ _ (and_from _ _ ((Decides-ltb (unsigned_abs n) (2 ^ 63)).1 h.num_fits) ((Decides-ltb d (2 ^ 63)).1 h.den_fits))

pub cell_of_lowest-over : (n : ℤ) (d : ℕ) → ¬ (InRange n d) → cell_of_lowest n d ≡ Over
unfolding cell_of_lowest
cell_of_lowest-over n d h =
    elim (cases_Bool (nat_lt (unsigned_abs n) (2 ^ 63) && nat_lt d (2 ^ 63))) [
      | inl t ↦
          absurd (h (let parts = and_parts _ _ t in
          record {
            num_fits = (Decides-ltb (unsigned_abs n) (2 ^ 63)).0 parts.0;
            den_fits = (Decides-ltb d (2 ^ 63)).0 parts.1;
          }))
      | inr f ↦ cond-false _ _ _ f
    ]

pub cases_InRange : (n : ℤ) (d : ℕ) → InRange n d ⊎ (¬ (InRange n d))
cases_InRange n d =
    elim (cases_Bool (nat_lt (unsigned_abs n) (2 ^ 63) && nat_lt d (2 ^ 63))) [
      | inl t ↦
          inl (let parts = and_parts _ _ t in
          record {
            num_fits = (Decides-ltb (unsigned_abs n) (2 ^ 63)).0 parts.0;
            den_fits = (Decides-ltb d (2 ^ 63)).0 parts.1;
          })
      | inr f ↦
          inr (λ h. let t = and_from _ _ ((Decides-ltb (unsigned_abs n) (2 ^ 63)).1 h.num_fits) ((Decides-ltb d (2 ^ 63)).1 h.den_fits) in
          cc)
    ]

-- the exact value of an expanded fraction
pub exact-expanded : {r : ℤ} {s : ℕ} {n : ℤ} {d k : ℕ} → Expands r s n d k → exact r s ≡ cell_of_lowest n d
unfolding exact
exact-expanded {r} {s} {n} {d} {k} h =
    let size : unsigned_abs r ≡ unsigned_abs n * k = ap unsigned_abs h.num_is ∙ abs-scale n k in
    let divisor : gcd_of (unsigned_abs r) s ≡ k = rw (size, h.den_is) (gcd_of-scale (unsigned_abs n) d k h.by_some h.lowest) in
    let left : int_div r (pos k) ≡ n = rw h.num_is (div-scale n k h.by_some) in
    let right : s / k ≡ d = rw h.den_is (mul-div_cancel d h.by_some) in
    rw (divisor, left, right) refl

-- each fraction is an expanded one in lowest terms
pub lowest_of : (r : ℤ) (s : ℕ) → 0 < s → (n : ℤ) × (d : ℕ) × (k : ℕ) × Expands r s n d k
lowest_of r s positive =
    let k = gcd_of (unsigned_abs r) s in
    let common : IsGcd (unsigned_abs r) s k = IsGcd-gcd_of (unsigned_abs r) s in
    let den_is : s ≡ s / k * k = sym (div-mul_cancel k common.1) in
    let num_is : r ≡ int_div r (pos k) *ℤ pos k = sym (scale-div r k common.0) in
    let some : 0 < k = pos_of_dvd_of_pos common.1 positive in (
      int_div r (pos k),
      s / k,
      k,
      record {
        by_some = some;
        num_is = num_is;
        den_is = den_is;
        lowest = IsCoprime-quotients (unsigned_abs r) s k _ _ some (ap unsigned_abs num_is ∙ abs-scale _ k) den_is common;
      },
    )

pub Expands-den_positive : {r : ℤ} {s : ℕ} {n : ℤ} {d k : ℕ} → Expands r s n d k → 0 < s → 0 < d
Expands-den_positive {d} {k} h positive =
    pos_of_dvd_of_pos (dvd-mul_right d k) (subst (λ (x : ℕ). 0 < x) h.den_is positive)

-- a rational number has one fraction in lowest terms
pub same_from_lowest : (m n : ℤ) (c d : ℕ) → 0 < c → 0 < d → IsCoprime (unsigned_abs m) c → IsCoprime (unsigned_abs n) d → m *ℤ pos d ≡ n *ℤ pos c → (m ≡ n) × (c ≡ d)
same_from_lowest m n c d some_c some_d p q e =
    let sizes : unsigned_abs m * d ≡ unsigned_abs n * c = sym (abs-scale m d) ∙ ap unsigned_abs e ∙ abs-scale n c in
    let left : c ∣ d = dvd_from_product c (unsigned_abs m) d (IsCoprime-swap _ _ p) (subst (λ (x : ℕ). c ∣ x) (sym sizes) (dvd-mul_left c (unsigned_abs n))) in
    let right : d ∣ c = dvd_from_product d (unsigned_abs n) c (IsCoprime-swap _ _ q) (subst (λ (x : ℕ). d ∣ x) sizes (dvd-mul_left d (unsigned_abs m))) in
    let dens : c ≡ d = dvd_antisymm left right in
    (same_from_scale m n d some_d (e ∙ ap (λ (x : ℕ). n *ℤ pos x) dens), dens)

-- two numbers of cells that are the same rational are the same pair
pub same_from_IsSameRational : (p q : Fraction) → IsNumber p → IsNumber q → IsSameRational p q → p ≡ q
same_from_IsSameRational p q left right e =
    let parts = same_from_lowest p.num q.num p.den q.den left.den_positive right.den_positive left.reduced right.reduced e in
    λ i. record { num = parts.0 i; den = parts.1 i }

expanded_same : {r : ℤ} {s : ℕ} {n : ℤ} {d k : ℕ} → Expands r s n d k → n *ℤ pos s ≡ r *ℤ pos d
expanded_same {r} {s} {n} {d} {k} h =
    ap (λ (x : ℕ). n *ℤ pos x) (h.den_is ∙ mul_comm d k) ∙ sym (scale-scale n k d) ∙ ap (λ (z : ℤ). z *ℤ pos d) (sym h.num_is)

number_from_expanded : {r : ℤ} {s : ℕ} {n : ℤ} {d k : ℕ} → Expands r s n d k → 0 < s → InRange n d → IsNumber (record { num = n; den = d })
number_from_expanded h positive fits = record {
  num_fits = fits.num_fits;
  den_positive = Expands-den_positive h positive;
  den_fits = fits.den_fits;
  reduced = h.lowest;
}

-- no number of a cell is the rational of an expanded fraction whose lowest terms are out of range
none_from_expanded : {r : ℤ} {s : ℕ} {n : ℤ} {d k : ℕ} → Expands r s n d k → 0 < s → ¬ (InRange n d) → (q : Fraction) → IsNumber q → ¬ (IsSameRational q (record { num = r; den = s }))
none_from_expanded {r} {s} {n} {d} {k} h positive over q number e =
    let left : q.num *ℤ pos d *ℤ pos k ≡ q.num *ℤ pos s = scale-scale q.num d k ∙ ap (λ (x : ℕ). q.num *ℤ pos x) (sym h.den_is) in
    let right : r *ℤ pos q.den ≡ n *ℤ pos q.den *ℤ pos k = ap (λ (z : ℤ). z *ℤ pos q.den) h.num_is ∙ scale-scale n k q.den ∙ ap (λ (x : ℕ). n *ℤ pos x) (mul_comm k q.den) ∙ sym (scale-scale n q.den k) in
    let crossed : q.num *ℤ pos d ≡ n *ℤ pos q.den = same_from_scale _ _ k h.by_some (left ∙ e ∙ right) in
    let parts = same_from_lowest q.num n q.den d number.den_positive (Expands-den_positive h positive) number.reduced h.lowest crossed in
    over (record {
      num_fits = subst (λ (z : ℤ). unsigned_abs z < 2 ^ 63) parts.0 number.num_fits;
      den_fits = subst (λ (x : ℕ). x < 2 ^ 63) parts.1 number.den_fits;
    })

-- the exact value is the number that equals the fraction, or Over exactly where none does
pub IsExactValue-exact : (r : ℤ) (s : ℕ) → 0 < s → IsExactValue (record { num = r; den = s }) (exact r s)
IsExactValue-exact r s positive =
    let found = lowest_of r s positive in
    let n = found.0 in
    let d = found.1 in
    let h : Expands r s n d found.2 = found.3 in
    elim (cases_InRange n d) [
      | inl fits ↦
          subst (λ (x : Cell). IsExactValue (record { num = r; den = s }) x) (sym (exact-expanded h ∙ cell_of_lowest-number n d fits))
          (number_from_expanded h positive fits, expanded_same h)
      | inr over ↦
          subst (λ (x : Cell). IsExactValue (record { num = r; den = s }) x) (sym (exact-expanded h ∙ cell_of_lowest-over n d over))
          (none_from_expanded h positive over)
    ]

-- the exact value stays where both parts are multiplied
pub exact-scale : (n : ℤ) (d k : ℕ) → 0 < d → 0 < k → exact (n *ℤ pos k) (d * k) ≡ exact n d
exact-scale n d k some positive =
    let found = lowest_of n d some in
    let h : Expands n d found.0 found.1 found.2 = found.3 in
    let wide : Expands (n *ℤ pos k) (d * k) found.0 found.1 (found.2 * k) = record {
      by_some = mul-pos h.by_some positive;
      num_is = ap (λ (z : ℤ). z *ℤ pos k) h.num_is ∙ scale-scale found.0 found.2 k;
      den_is = ap (λ (x : ℕ). x * k) h.den_is ∙ mul_assoc found.1 found.2 k;
      lowest = h.lowest;
    } in
    exact-expanded wide ∙ sym (exact-expanded h)

-- a fraction in lowest terms
pub Expands-lowest : (n : ℤ) (d : ℕ) → IsCoprime (unsigned_abs n) d → Expands n (d * 1) n d 1
Expands-lowest n d h = record {
  by_some = omega arith;
  num_is = sym (*ℤ-pos_one n);
  den_is = refl;
  lowest = h;
}

pub exact-lowest : (n : ℤ) (d : ℕ) → IsCoprime (unsigned_abs n) d → exact n d ≡ cell_of_lowest n d
exact-lowest n d h = ap (λ (x : ℕ). exact n x) (sym (mul-one d)) ∙ exact-expanded (Expands-lowest n d h)

-- a fraction of which only one part of the denominator has a divisor in common with the numerator
pub Expands-part : (t n : ℤ) (rest part g : ℕ) → 0 < part → IsCoprime (unsigned_abs t) rest → IsGcd (unsigned_abs t) part g → n *ℤ pos g ≡ t → Expands t (rest * part) n (rest * (part / g)) g
Expands-part t n rest part g some coprime common e =
    let positive : 0 < g = pos_of_dvd_of_pos common.1 some in
    let whole : part ≡ part / g * g = sym (div-mul_cancel g common.1) in
    let size : unsigned_abs t ≡ unsigned_abs n * g = ap unsigned_abs (sym e) ∙ abs-scale n g in
    record {
      by_some = positive;
      num_is = sym e;
      den_is = ap (λ (x : ℕ). rest * x) whole ∙ sym (mul_assoc rest (part / g) g);
      lowest =
          IsCoprime-product (unsigned_abs n) rest (part / g)
          (IsCoprime-part (unsigned_abs t) rest (unsigned_abs n) (subst (λ (x : ℕ). unsigned_abs n ∣ x) (sym size) (dvd-mul_right (unsigned_abs n) g)) coprime)
          (IsCoprime-quotients (unsigned_abs t) part g (unsigned_abs n) (part / g) positive size whole common);
    }

pub IsCell-from_exact : (r : Fraction) (c : Cell) → IsExactValue r c → IsCell c
IsCell-from_exact r (Number q) h = h.0
IsCell-from_exact r Over h = tt
IsCell-from_exact r Empty h = absurd h
IsCell-from_exact r (Flag b) h = absurd h
