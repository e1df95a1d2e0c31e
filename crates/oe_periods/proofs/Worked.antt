-- Worked values by hand. The instants are those of the dates beside them, in seconds since 1970-01-01T00:00:00Z; the months
-- from January of the year 1 on are counted as 12 a year.
use Rattle.std.proofs.Common.{◌≡◌, ℕ, true, false, [], ◌∷◌, Some, None, pos, neg_ℤ, codes, refl}
use Rattle.jiff_core.specs.Calendar.{day_count, days_from_civil, days_of_months, days_of_years}
use Rattle.oe_cell.specs.Exact.{cell_of_lowest, exact, gcd_of, gcd_within}
use Rattle.oe_cell.specs.Rational.{whole_of}
use Rattle.oe_cell.specs.declared.cell.Cell.{Cell}
use Rattle.oe_cell.specs.declared.cell.Cell.TheVariants.{Empty, Flag, Number, Over}
use Rattle.oe_dims.specs.Calendar.{civil_date}
use Rattle.oe_dims.specs.Dimensions.{first_instant}
use Rattle.oe_periods.specs.Calendar.{period_named, days_to, period_number, period_start, period_end}
use Rattle.oe_periods.specs.Periods.{period_numbers}
use Rattle.oe_periods.specs.Sums.{running_sum}
use Rattle.oe_periods.specs.declared.calendar.Period.TheVariants.{Day, Month, Year}

-- ---- periods

a_month : period_named (codes "month") ≡ Some Month
a_month = refl

no_week : period_named (codes "week") ≡ None
no_week = refl

first_day : days_to first_instant ≡ 0
first_day = refl

first_year : period_number Year first_instant ≡ 0
unfolding civil_date
first_year = refl

-- 2024-01-31, 2024-02-01 and 2024-04-05: January to April of 2024, with March, which has none of the three
four_months : period_numbers Month (pos 1706659200 ∷ pos 1706745600 ∷ pos 1712275200 ∷ []) ≡ 24276 ∷ 24277 ∷ 24278 ∷ 24279 ∷ []
unfolding civil_date
four_months = refl

january_2024 : period_start Month 24276 ≡ pos 1704067200
unfolding days_from_civil day_count days_of_years days_of_months
january_2024 = refl

march_2024 : period_start Month 24278 ≡ pos 1709251200
unfolding days_from_civil day_count days_of_years days_of_months
march_2024 = refl

-- February of 1900 has 28 days, from -2206310400 on, and of 2000 it has 29, from 949363200 on
february_1900 : period_end Month 22789 ≡ Some (neg_ℤ (pos 2203891200))
unfolding days_from_civil day_count days_of_years days_of_months
february_1900 = refl

february_2000 : period_end Month 23989 ≡ Some (pos 951868800)
unfolding days_from_civil day_count days_of_years days_of_months
february_2000 = refl

-- 9999-01-01, and the last day, month and year, which have no end
year_9999 : period_start Year 9998 ≡ pos 253370764800
unfolding days_from_civil day_count days_of_years days_of_months
year_9999 = refl

last_day : period_end Day 3652058 ≡ None
last_day = refl

last_month : period_end Month 119987 ≡ None
last_month = refl

last_year : period_end Year 9998 ≡ None
last_year = refl

no_labels : period_numbers Month [] ≡ []
no_labels = refl

-- ---- running sums

abbrev whole : ℕ → Cell
whole n = Number (whole_of (pos n))

-- 1, 3, null, 3, 1: the sums are 1, 4, null, 7, 8
second : running_sum true (whole 1 ∷ []) (whole 3) ≡ whole 4
unfolding exact cell_of_lowest gcd_of gcd_within
second = refl

at_null : running_sum true (whole 1 ∷ whole 3 ∷ []) Empty ≡ Empty
unfolding exact cell_of_lowest gcd_of gcd_within
at_null = refl

past_null : running_sum true (whole 1 ∷ whole 3 ∷ Empty ∷ []) (whole 3) ≡ whole 7
unfolding exact cell_of_lowest gcd_of gcd_within
past_null = refl

last : running_sum true (whole 1 ∷ whole 3 ∷ Empty ∷ whole 3 ∷ []) (whole 1) ≡ whole 8
unfolding exact cell_of_lowest gcd_of gcd_within
last = refl

-- where nulls count the sums are null from the third on
null_counts : running_sum false (whole 1 ∷ whole 3 ∷ Empty ∷ []) (whole 3) ≡ Empty
null_counts = refl

-- a sum that no number equals is Over, also at a null, but where nulls count
sum_over : running_sum true (whole 9223372036854775807 ∷ whole 1 ∷ []) Empty ≡ Over
unfolding exact cell_of_lowest gcd_of gcd_within
sum_over = refl

null_before_sum : running_sum false (whole 9223372036854775807 ∷ whole 1 ∷ []) Empty ≡ Empty
null_before_sum = refl

-- an Over among the cells decides before all else
over_stays : running_sum false (whole 1 ∷ Empty ∷ Over ∷ []) (whole 3) ≡ Over
over_stays = refl

null_alone : running_sum true [] Empty ≡ Empty
null_alone = refl

behind_null : running_sum true (Empty ∷ []) (whole 1) ≡ whole 1
behind_null = refl

-- flags have no sum, and what stands behind one that was added has none
behind_flags : running_sum true (Flag true ∷ Flag true ∷ []) (whole 1) ≡ Empty
behind_flags = refl
