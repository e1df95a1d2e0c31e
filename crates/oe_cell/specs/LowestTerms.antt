-- How a fraction is brought to lowest terms.
use Rattle.std.specs.Prelude.{◌≡◌, ℕ, ◌*◌, ◌<◌, ℤ, pos, ◌*ℤ◌, unsigned_abs}
use Rattle.std.specs.Int.{int_signum, int_div_euclid}
use Rattle.oe_cell.specs.Fraction.{IsCoprime}

-- the fraction r / s is n / d, which is in lowest terms, expanded by k
pub record Expands (r : ℤ) (s : ℕ) (n : ℤ) (d k : ℕ) : Type 0 where
  pub by_some : 0 < k
  pub num_is : r ≡ n *ℤ pos k
  pub den_is : s ≡ d * k
  pub lowest : IsCoprime (unsigned_abs n) d

-- x / y rounded down, where y is not 0
abbrev pub floor_quotient : ℤ → ℤ → ℤ
floor_quotient x y = int_div_euclid (x *ℤ int_signum y) (pos (unsigned_abs y))
