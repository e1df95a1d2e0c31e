-- Numbers of a cell, as the pairs of their numerators and denominators.
use Rattle.std.specs.Prelude.{◌≡◌, ℕ, ◌^◌, ◌<◌, ℤ, unsigned_abs}
use Rattle.std.specs.Int.{◌∣◌}

-- a numerator, which has the sign, and a denominator
pub record Fraction : Type 0 where
  pub num : ℤ
  pub den : ℕ

-- no number above 1 divides both
abbrev pub IsCoprime : ℕ → ℕ → Type 0
IsCoprime a b = (d : ℕ) → d ∣ a → d ∣ b → d ≡ 1

-- The fraction is in lowest terms, its numerator within 2^63 - 1 of 0 and its denominator from 1 to 2^63 - 1.
pub record IsNumber (q : Fraction) : Type 0 where
  pub num_fits : unsigned_abs q.num < 2 ^ 63
  pub den_positive : 0 < q.den
  pub den_fits : q.den < 2 ^ 63
  pub reduced : IsCoprime (unsigned_abs q.num) q.den
