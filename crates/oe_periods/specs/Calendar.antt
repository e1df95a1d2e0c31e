-- Calendar periods in universal time, over the years 1 to 9999 (openEO Processes, `aggregate_temporal_period`).
use Rattle.std.specs.Prelude.{ℕ, ◌+◌, ◌-◌, ◌*◌, ◌/◌, ◌%◌, ◌==◌, List, Option, Some, None, codes, if◌then◌else◌, ℤ, pos, ◌+ℤ◌, ◌-ℤ◌, ◌*ℤ◌, unsigned_abs}
use Rattle.jiff_core.specs.Calendar.{days_from_civil}
use Rattle.oe_dims.specs.Calendar.{Civil, civil_date}
use Rattle.oe_dims.specs.Dimensions.{first_instant}
use Rattle.oe_dims.specs.Names.{same_name}
use Rattle.oe_periods.specs.declared.calendar.Period.{Period}
use Rattle.oe_periods.specs.declared.calendar.Period.TheVariants.{Day, Month, Year}

abbrev pub period_named : List ℕ → Option Period
period_named name =
    if same_name name (codes "day") then Some Day else (
    if same_name name (codes "month") then Some Month else (
    if same_name name (codes "year") then Some Year else None))

-- ---- the period of an instant, by its number: 0 is the one that begins with the year 1

-- how many days lie between the first day of the year 1 and that of the instant
abbrev pub days_to : ℤ → ℕ
days_to instant = unsigned_abs (instant -ℤ first_instant) / 86400

abbrev pub month_number : Civil → ℕ
month_number date = 12 * (date.year - 1) + (date.month - 1)

abbrev pub year_number : Civil → ℕ
year_number date = date.year - 1

abbrev pub period_number : Period → ℤ → ℕ
period_number Day instant = days_to instant
period_number Month instant = month_number (civil_date (days_to instant))
period_number Year instant = year_number (civil_date (days_to instant))

-- ---- where it begins, and where it ends

-- midnight of the first of a month
abbrev pub first_of_month : ℕ → ℕ → ℤ
first_of_month year month = days_from_civil (pos year) month 1 *ℤ pos 86400

-- its first instant
abbrev pub period_start : Period → ℕ → ℤ
period_start Day number = first_instant +ℤ pos (86400 * number)
period_start Month number = first_of_month (number / 12 + 1) (number % 12 + 1)
period_start Year number = first_of_month (number + 1) 1

-- how many the years 1 to 9999 have
abbrev pub periods_in_all : Period → ℕ
periods_in_all Day = 3652059
periods_in_all Month = 119988
periods_in_all Year = 9999

-- the first instant of the next; there is none behind the year 9999
abbrev pub period_end : Period → ℕ → Option ℤ
period_end period number = if number + 1 == periods_in_all period then None else Some (period_start period (number + 1))
