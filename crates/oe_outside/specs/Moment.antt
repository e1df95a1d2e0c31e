-- The moments that a clock may give: whole seconds since 1970-01-01T00:00:00Z, in the years 1 to 9999.
use Rattle.std.specs.Prelude.{ℤ, pos, neg_ℤ, ◌≤ℤ◌}

pub record IsMoment (seconds : ℤ) : Type 0 where
  pub from_year_1 : neg_ℤ (pos 62135596800) ≤ℤ seconds
  pub to_year_9999 : seconds ≤ℤ pos 253402300799
