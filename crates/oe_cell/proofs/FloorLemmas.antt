-- Rounding down, and the remainder that it leaves.
use Rattle.std.proofs.Common.{◌≡◌, ℕ, zero, suc, ◌+◌, ◌*◌, ◌/◌, ◌<◌, min, refl, sym, ap, ◌∙◌, subst, arith, ℤ, pos, ◌+ℤ◌, ◌-ℤ◌, ◌*ℤ◌, ◌≤ℤ◌, ◌<ℤ◌, neg_ℤ}
use Rattle.std.specs.Prelude.{negsuc, unsigned_abs, int_div}
use Rattle.std.specs.Int.{int_div_euclid, int_rem_euclid}
use Rattle.std.proofs.Math.Nat.{div-add-mod', mul-div-mul_right, div-div-eq-div-mul, mul-add-div_right, div-eq_of_lt, mod-lt, mul_comm, zero-div}
use Rattle.std.proofs.lemmas.Int.{ints, by_lt_z}
use Rattle.oe_cell.specs.Fraction.{Fraction}
use Rattle.oe_cell.specs.Rational.{floor_int, ceil_int, truncated_int, IsFloor, IsCeil, IsTruncated}
use Rattle.oe_cell.specs.LowestTerms.{floor_quotient}
use Rattle.oe_cell.proofs.Scale.{scale-add, scale-neg, at_most_scale}

-- the quotient and the remainder of a division by a positive number
pub euclid-parts : (x : ℤ) (m : ℕ) → 0 < m → int_div_euclid x (pos m) *ℤ pos m +ℤ int_rem_euclid x (pos m) ≡ x
euclid-parts (pos a) m some = ap pos (div-add-mod' a m)
euclid-parts (negsuc a) m some = omega (arith, ints, div-add-mod' a m, mod-lt a some)

rem_euclid-range : (x : ℤ) (m : ℕ) → 0 < m → (pos 0 ≤ℤ int_rem_euclid x (pos m)) × (int_rem_euclid x (pos m) <ℤ pos m)
rem_euclid-range (pos a) m some = omega (arith, ints, mod-lt a some)
rem_euclid-range (negsuc a) m some = omega (arith, ints, mod-lt a some)

-- a common factor does not change the rounded quotient
pub div_euclid-scale : (x : ℤ) (m k : ℕ) → 0 < k → int_div_euclid (x *ℤ pos k) (pos (m * k)) ≡ int_div_euclid x (pos m)
div_euclid-scale (pos a) m k some = ap pos (mul-div-mul_right a m some)
div_euclid-scale (negsuc a) m zero some = absurd (omega arith)
div_euclid-scale (negsuc a) m (suc j) some =
    let e : suc a * suc j ≡ suc (a * suc j + j) = omega arith in
    let whole : (a * suc j + j) / suc j ≡ a = mul-add-div_right some a j ∙ ap (λ (x : ℕ). a + x) (div-eq_of_lt (omega arith)) ∙ omega arith in
    let f : (a * suc j + j) / (m * suc j) ≡ a / m = ap (λ (x : ℕ). (a * suc j + j) / x) (mul_comm m (suc j)) ∙ sym (div-div-eq-div-mul (a * suc j + j) (suc j) m) ∙ ap (λ (x : ℕ). x / m) whole in
    ap (λ (x : ℕ). int_div_euclid (neg_ℤ (pos x)) (pos (m * suc j))) e ∙ ap negsuc f

-- what `floor` means
pub IsFloor-floor_int : (q : Fraction) → 0 < q.den → IsFloor q (floor_int q)
IsFloor-floor_int q some =
    let k = int_div_euclid q.num (pos q.den) in
    let r = int_rem_euclid q.num (pos q.den) in
    let whole : k *ℤ pos q.den +ℤ r ≡ q.num = euclid-parts q.num q.den some in
    let range : (pos 0 ≤ℤ r) × (r <ℤ pos q.den) = rem_euclid-range q.num q.den some in
    record {
      not_above = omega (arith, ints, whole, range.0);
      greatest =
          λ m h.
          by_lt_z k m
          (λ above.
          let next : (k +ℤ pos 1) ≤ℤ m = omega (arith, ints, above) in
          let scaled : ((k +ℤ pos 1) *ℤ pos q.den) ≤ℤ (m *ℤ pos q.den) = at_most_scale (k +ℤ pos 1) m q.den next in
          let parts : (k +ℤ pos 1) *ℤ pos q.den ≡ k *ℤ pos q.den +ℤ pos 1 *ℤ pos q.den = scale-add k (pos 1) q.den in
          absurd (omega (arith, ints, whole, range.1, scaled, parts, h)))
          (λ below. below);
    }

pub IsCeil-ceil_int : (q : Fraction) → 0 < q.den → IsCeil q (ceil_int q)
IsCeil-ceil_int q some =
    let k = int_div_euclid (neg_ℤ q.num) (pos q.den) in
    let floor : IsFloor (record { num = neg_ℤ q.num; den = q.den }) k = IsFloor-floor_int (record { num = neg_ℤ q.num; den = q.den }) some in
    record {
      not_below =
          let below : (k *ℤ pos q.den) ≤ℤ neg_ℤ q.num = floor.not_above in
          let opposite : neg_ℤ k *ℤ pos q.den ≡ neg_ℤ (k *ℤ pos q.den) = scale-neg k q.den in
          omega (arith, ints, below, opposite);
      least =
          λ m h.
          let opposite : neg_ℤ m *ℤ pos q.den ≡ neg_ℤ (m *ℤ pos q.den) = scale-neg m q.den in
          let above : neg_ℤ m ≤ℤ k = floor.greatest (neg_ℤ m) (omega (arith, ints, opposite, h)) in
          omega (arith, ints, above);
    }

truncated_down : (n : ℤ) (d : ℕ) → pos 0 ≤ℤ n → int_div n (pos d) ≡ int_div_euclid n (pos d)
truncated_down (pos a) d h = refl
truncated_down (negsuc a) d h = absurd (omega (arith, ints, h))

truncated_up : (n : ℤ) (d : ℕ) → n ≤ℤ pos 0 → int_div n (pos d) ≡ neg_ℤ (int_div_euclid (neg_ℤ n) (pos d))
truncated_up (pos zero) d h = rw zero-div refl
truncated_up (pos (suc a)) d h = absurd (omega (arith, ints, h))
truncated_up (negsuc a) d h = refl

pub IsTruncated-truncated_int : (q : Fraction) → 0 < q.den → IsTruncated q (truncated_int q)
IsTruncated-truncated_int q some = record {
  down = λ h. subst (λ (k : ℤ). IsFloor q k) (sym (truncated_down q.num q.den h)) (IsFloor-floor_int q some);
  up = λ h. subst (λ (k : ℤ). IsCeil q k) (sym (truncated_up q.num q.den h)) (IsCeil-ceil_int q some);
}

-- the remainder of rounding down, by a positive and by a negative number
pub remainder_positive : (x : ℤ) (m : ℕ) → 0 < m → int_rem_euclid x (pos m) ≡ x -ℤ floor_quotient x (pos m) *ℤ pos m
remainder_positive x m some =
    let one : min m 1 ≡ 1 = omega arith in
    let same : x *ℤ pos 1 ≡ x = omega (arith, ints) in
    let quotient : floor_quotient x (pos m) ≡ int_div_euclid x (pos m) = rw (one, same) refl in
    rw quotient (omega (arith, ints, euclid-parts x m some))

pub remainder_negative : (x : ℤ) (m : ℕ) → neg_ℤ (int_rem_euclid (neg_ℤ x) (pos (suc m))) ≡ x -ℤ floor_quotient x (negsuc m) *ℤ negsuc m
remainder_negative x m =
    let same : x *ℤ negsuc 0 ≡ neg_ℤ x = omega (arith, ints) in
    let k = int_div_euclid (neg_ℤ x) (pos (suc m)) in
    let opposite : k *ℤ negsuc m ≡ neg_ℤ (k *ℤ pos (suc m)) = omega (arith, ints) in
    rw (same, opposite) (omega (arith, ints, euclid-parts (neg_ℤ x) (suc m) (omega arith)))

-- the remainder by a number below 0, from that of the opposite numbers
pub rest_negative : (x y : ℤ) → y ≤ℤ pos 0 → 0 < unsigned_abs y → neg_ℤ (int_rem_euclid (neg_ℤ x) (neg_ℤ y)) ≡ x -ℤ floor_quotient x y *ℤ y
rest_negative x (pos zero) h some = absurd (omega arith)
rest_negative x (pos (suc n)) h some = absurd (omega (arith, ints, h))
rest_negative x (negsuc m) h some = remainder_negative x m
