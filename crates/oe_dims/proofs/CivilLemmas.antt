-- The date that counting off years and months gives is the one with that day number.
use Rattle.std.proofs.Common.{◌≡◌, ℕ, zero, suc, ◌+◌, ◌-◌, ◌<◌, ◌≤◌, nat_lt, refl, sym, ◌∙◌, subst, arith, pos, ◌-ℤ◌}
use Rattle.std.specs.Int.{IsInRange}
use Rattle.std.proofs.lemmas.Bool.{cond_both, ltb-true, ltb-false}
use Rattle.jiff_core.specs.Calendar.{days_in_year, days_in_month, day_count, days_from_civil}
use Rattle.jiff_core.specs.Date.{epoch_day}
use Rattle.jiff_core.specs.declared.civil.date.Date.{Date}
use Rattle.jiff_core.proofs.SignedLemmas.{signed_arith}
use Rattle.jiff_core.proofs.MarchLemmas.{day_count-early}
use Rattle.jiff_core.proofs.CalendarLemmas.{day_count-day, day_count-next_month, day_count-next_year, day_count-last_of_year, day_count-end, days_from_civil-day_count}
use Rattle.jiff_core.proofs.DateLemmas.{epoch_day_injective}
use Rattle.oe_dims.specs.Calendar.{Civil, in_months, in_years, civil_date}

-- the calendar has the date, in the years 1 to 9999, and so many days lie before it
pub record IsDay (count : ℕ) (date : Civil) : Type 0 where
  pub year : IsInRange 1 9999 date.year
  pub month : IsInRange 1 12 date.month
  pub day : IsInRange 1 (days_in_month (pos date.year) date.month) date.day
  pub counted : day_count (pos date.year) date.month date.day ≡ count

-- a day within a month
within_month : (year month days : ℕ) → IsInRange 1 9999 year → IsInRange 1 12 month → days < days_in_month (pos year) month → IsDay (day_count (pos year) month 1 + days) (record { year = year; month = month; day = days + 1 })
within_month year month days hy hm h =
    record { year = hy; month = hm; day = (omega arith, omega arith); counted = omega (arith, day_count-day (pos year) month (days + 1) 1 (omega arith) (omega arith)) }

in_months_is : (most year month days : ℕ) → IsInRange 1 9999 year → 1 ≤ month → month + most ≡ 12 → day_count (pos year) month 1 + days < day_count (pos year) 1 1 + days_in_year (pos year) → IsDay (day_count (pos year) month 1 + days) (in_months most year month days)
in_months_is zero year month days hy hm e h =
    let december : month ≡ 12 = omega arith in
    let before : day_count (pos year) 12 1 + days < day_count (pos year) 1 1 + days_in_year (pos year) = rw december at h in
    let short : days < 31 = omega (arith, before, day_count-last_of_year (pos year), day_count-day (pos year) 12 1 31 (omega arith) (omega arith)) in
    rw december (within_month year 12 days hy (omega arith, omega arith) short)
in_months_is (suc most) year month days hy hm e h =
    let next = day_count-next_month (pos year) month hm in
    cond_both (nat_lt days (days_in_month (pos year) month)) _ _ (λ date. IsDay (day_count (pos year) month 1 + days) date)
    (λ t. within_month year month days hy (hm, omega arith) (ltb-true days (days_in_month (pos year) month) t))
    (λ f. let past : days_in_month (pos year) month ≤ days = ltb-false days (days_in_month (pos year) month) f in
    let same : day_count (pos year) (month + 1) 1 + (days - days_in_month (pos year) month) ≡ day_count (pos year) month 1 + days = omega arith in
    subst (λ n. IsDay n (in_months most year (month + 1) (days - days_in_month (pos year) month))) same
    (in_months_is most year (month + 1) (days - days_in_month (pos year) month) hy (omega arith) (omega arith) (omega arith)))

next_year : (year : ℕ) → day_count (pos (year + 1)) 1 1 ≡ day_count (pos year) 1 1 + days_in_year (pos year)
next_year year = day_count-next_year (pos year) (pos (year + 1)) (omega (arith, signed_arith)) refl

in_years_is : (most year days : ℕ) → 1 ≤ year → year + most ≤ 9999 → day_count (pos year) 1 1 + days < day_count (pos (year + most + 1)) 1 1 → IsDay (day_count (pos year) 1 1 + days) (in_years most year days)
in_years_is zero year days hy last h =
    let same : year + 0 + 1 ≡ year + 1 = omega arith in
    let before = rw same at h in
    in_months_is 11 year 1 days (hy, omega arith) (omega arith) refl (omega (arith, next_year year, before))
in_years_is (suc most) year days hy last h =
    let next = next_year year in
    cond_both (nat_lt days (days_in_year (pos year))) _ _ (λ date. IsDay (day_count (pos year) 1 1 + days) date)
    (λ t. in_months_is 11 year 1 days (hy, omega arith) (omega arith) refl (omega (arith, ltb-true days (days_in_year (pos year)) t)))
    (λ f. let past : days_in_year (pos year) ≤ days = ltb-false days (days_in_year (pos year)) f in
    let same : day_count (pos (year + 1)) 1 1 + (days - days_in_year (pos year)) ≡ day_count (pos year) 1 1 + days = omega arith in
    let end : year + suc most + 1 ≡ year + 1 + most + 1 = omega arith in
    let before = rw end at h in
    subst (λ n. IsDay n (in_years most (year + 1) (days - days_in_year (pos year)))) same
    (in_years_is most (year + 1) (days - days_in_year (pos year)) (omega arith) (omega arith) (omega (arith, before))))

pub day_count-first_of_year_1 : day_count (pos 1) 1 1 ≡ 3_652_791
day_count-first_of_year_1 = day_count-early (pos 1) 10000 1 1 refl (omega arith) (omega arith) (omega arith)

pub civil_date_is : (days : ℕ) → days ≤ 3_652_058 → IsDay (3_652_791 + days) (civil_date days)
unfolding civil_date
civil_date_is days h =
    let first = day_count-first_of_year_1 in
    subst (λ n. IsDay n (in_years 9998 1 days)) (omega arith)
    (in_years_is 9998 1 days (omega arith) (omega arith) (omega (arith, day_count-end)))

-- the day number of the date, in the words of the calendar
pub days_from_civil-civil_date : (days : ℕ) → days ≤ 3_652_058 → days_from_civil (pos (civil_date days).year) (civil_date days).month (civil_date days).day ≡ pos days -ℤ pos 719_162
days_from_civil-civil_date days h =
    let date = civil_date days in
    omega (arith, signed_arith, days_from_civil-day_count (pos date.year) date.month date.day, (civil_date_is days h).counted)

-- and it is the calendar's only date with that day number
pub civil_date_only : (days : ℕ) (date : Date) → days ≤ 3_652_058 → epoch_day date ≡ pos days -ℤ pos 719_162 → (date.year ≡ pos (civil_date days).year) × (date.month ≡ (civil_date days).month) × (date.day ≡ (civil_date days).day)
civil_date_only days date h e =
    let is = civil_date_is days h in
    let other : Date = record { year = pos (civil_date days).year; month = (civil_date days).month; day = (civil_date days).day; year_in = (omega (arith, signed_arith, is.year), omega (arith, signed_arith, is.year)); month_in = is.month; day_in = is.day } in
    epoch_day_injective date other (e ∙ sym (days_from_civil-civil_date days h))
