-- The periods of a series of instants: all from that of the first to that of the last, whether an instant lies in them
-- or not (rule of this profile).
use Rattle.std.specs.Prelude.{◌≡◌, ◌↔◌, ◌<◌, ◌≤◌, ◌≤ℤ◌, ◌<ℤ◌, ℕ, ◌+◌, ◌-◌, ℤ, List, [], ◌∷◌, map, IfSome}
use Rattle.std.specs.List.{range_with_len}
use Rattle.oe_dims.specs.Instant.{IsInstant}
use Rattle.oe_periods.specs.Calendar.{period_number, period_start, period_end, periods_in_all}
use Rattle.oe_periods.specs.declared.calendar.Period.{Period}

-- the last of some instants
abbrev pub last_of : ℤ → List ℤ → ℤ
last_of instant [] = instant
last_of instant (next ∷ rest) = last_of next rest

-- the numbers of the periods of instants that rise
abbrev pub period_numbers : Period → List ℤ → List ℕ
period_numbers period [] = []
period_numbers period (instant ∷ rest) =
    let first = period_number period instant in
    range_with_len first (period_number period (last_of instant rest) + 1 - first)

-- their first instants
abbrev pub period_starts : Period → List ℤ → List ℤ
period_starts period instants = map (period_start period) (period_numbers period instants)

-- ---- periods one behind the other, as the code has them: the number of the first, and how many there are

pub record Series : Type 0 where
  pub period : Period
  pub first : ℕ
  pub count : ℕ

abbrev pub series_numbers : Series → List ℕ
series_numbers s = range_with_len s.first s.count

-- they are those of some instants
pub record ArePeriodsOf (period : Period) (instants : List ℤ) (found : Series) : Type 0 where
  pub same_period : found.period ≡ period
  pub numbers : series_numbers found ≡ period_numbers period instants

-- ---- laws

-- An instant lies in exactly one period: the one that begins at or before it and ends behind it.
pub record PartTime : Type 0 where
  pub begins : (period : Period) (number : ℕ) (instant : ℤ) → IsInstant instant
      → (period_start period number ≤ℤ instant) ↔ (number ≤ period_number period instant)
  pub ends : (period : Period) (number : ℕ) (instant : ℤ) → IsInstant instant
      → IfSome (period_end period number) (λ end. (instant <ℤ end) ↔ (period_number period instant ≤ number))
  pub valid : (period : Period) (number : ℕ) → number < periods_in_all period → IsInstant (period_start period number)
  pub all : (period : Period) (instant : ℤ) → IsInstant instant → period_number period instant < periods_in_all period
  -- and each begins with an instant of its own
  pub starts : (period : Period) (number : ℕ) → number < periods_in_all period
      → period_number period (period_start period number) ≡ number
