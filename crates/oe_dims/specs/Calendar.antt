-- The civil date of a day, by counting off whole years and then whole months of the Gregorian calendar.
use Rattle.std.specs.Prelude.{ℕ, zero, suc, ◌+◌, ◌-◌, nat_lt, if◌then◌else◌, pos}
use Rattle.jiff_core.specs.Calendar.{days_in_year, days_in_month}

-- a year, a month from 1 and a day of the month from 1
pub record Civil : Type 0 where
  pub year : ℕ
  pub month : ℕ
  pub day : ℕ

-- the date so many days after the first of a month, where at most the given number of months pass
abbrev pub in_months : ℕ → ℕ → ℕ → ℕ → Civil
in_months zero year month days = record { year = year; month = month; day = days + 1 }
in_months (suc most) year month days =
    if nat_lt days (days_in_month (pos year) month) then record { year = year; month = month; day = days + 1 }
    else in_months most year (month + 1) (days - days_in_month (pos year) month)

-- the date so many days after 1 January of a year, where at most the given number of years pass
abbrev pub in_years : ℕ → ℕ → ℕ → Civil
in_years zero year days = in_months 11 year 1 days
in_years (suc most) year days =
    if nat_lt days (days_in_year (pos year)) then in_months 11 year 1 days
    else in_years most (year + 1) (days - days_in_year (pos year))

-- the date so many days after 1 January of the year 1, within the years 1 to 9999
unfoldable pub civil_date : ℕ → Civil
civil_date days = in_years 9998 1 days
