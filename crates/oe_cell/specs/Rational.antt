-- Rational arithmetic on fractions, which are not reduced here. All denominators are above 0.
use Rattle.std.specs.Prelude.{◌≡◌, ◌⊎◌, ◌*◌, ℤ, pos, ◌+ℤ◌, ◌-ℤ◌, ◌*ℤ◌, neg_ℤ, ◌≤ℤ◌, int_div, unsigned_abs}
use Rattle.std.specs.Int.{int_signum, int_div_euclid}
use Rattle.oe_cell.specs.Fraction.{Fraction}

-- p + q
abbrev pub sum_of : Fraction → Fraction → Fraction
sum_of p q = record { num = p.num *ℤ pos q.den +ℤ q.num *ℤ pos p.den; den = p.den * q.den }

-- p - q
abbrev pub difference_of : Fraction → Fraction → Fraction
difference_of p q = record { num = p.num *ℤ pos q.den -ℤ q.num *ℤ pos p.den; den = p.den * q.den }

-- p q
abbrev pub product_of : Fraction → Fraction → Fraction
product_of p q = record { num = p.num *ℤ q.num; den = p.den * q.den }

-- p / q where q is not 0: the sign of q goes to the numerator
abbrev pub quotient_of : Fraction → Fraction → Fraction
quotient_of p q = record { num = p.num *ℤ pos q.den *ℤ int_signum q.num; den = p.den * unsigned_abs q.num }

-- a whole number as a fraction
abbrev pub whole_of : ℤ → Fraction
whole_of k = record { num = k; den = 1 }

-- q rounded down, rounded up, and cut towards 0
abbrev pub floor_int : Fraction → ℤ
floor_int q = int_div_euclid q.num (pos q.den)

abbrev pub ceil_int : Fraction → ℤ
ceil_int q = neg_ℤ (int_div_euclid (neg_ℤ q.num) (pos q.den))

abbrev pub truncated_int : Fraction → ℤ
truncated_int q = int_div q.num (pos q.den)

-- p - q floor(p / q), whose sign is that of q
abbrev pub remainder_of : Fraction → Fraction → Fraction
remainder_of p q = difference_of p (product_of q (whole_of (floor_int (quotient_of p q))))

-- k is the greatest whole number not above q
pub record IsFloor (q : Fraction) (k : ℤ) : Type 0 where
  pub not_above : (k *ℤ pos q.den) ≤ℤ q.num
  pub greatest : (m : ℤ) → (m *ℤ pos q.den) ≤ℤ q.num → m ≤ℤ k

-- k is the least whole number not below q
pub record IsCeil (q : Fraction) (k : ℤ) : Type 0 where
  pub not_below : q.num ≤ℤ (k *ℤ pos q.den)
  pub least : (m : ℤ) → q.num ≤ℤ (m *ℤ pos q.den) → k ≤ℤ m

-- k is q without its fractional part: rounded down from 0 on, rounded up to 0
pub record IsTruncated (q : Fraction) (k : ℤ) : Type 0 where
  pub down : pos 0 ≤ℤ q.num → IsFloor q k
  pub up : q.num ≤ℤ pos 0 → IsCeil q k

-- r is 0, or both are above 0, or both are below 0
abbrev pub HasSignOf : Fraction → Fraction → Type 0
HasSignOf q r = (r.num ≡ pos 0) ⊎ (int_signum r.num ≡ int_signum q.num)
