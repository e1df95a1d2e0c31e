-- An instant lies in the one period that begins at or before it and ends behind it.
use Rattle.std.proofs.Common.{◌≡◌, ◌↔◌, ℕ, ◌+◌, ◌-◌, ◌*◌, ◌/◌, ◌%◌, ◌<◌, ◌≤◌, ◌==◌, nat_lt, Bool, true, false, refl, arith, ℤ, pos, negsuc, ◌+ℤ◌, ◌-ℤ◌, ◌≤ℤ◌, ◌<ℤ◌, unsigned_abs, IfSome, int_lt}
use Rattle.std.proofs.lemmas.Bool.{cond_both, ltb-true, ltb-false}
use Rattle.jiff_core.specs.Calendar.{day_count, days_from_civil}
use Rattle.jiff_core.proofs.SignedLemmas.{signed_arith}
use Rattle.jiff_core.proofs.CalendarLemmas.{day_count_bounds, days_from_civil-day_count}
use Rattle.oe_dims.specs.Calendar.{Civil, civil_date}
use Rattle.oe_dims.specs.Dimensions.{first_instant}
use Rattle.oe_dims.specs.Instant.{IsInstant}
use Rattle.oe_dims.proofs.CivilLemmas.{IsDay, civil_date_is}
use Rattle.oe_periods.specs.Calendar.{days_to, first_of_month, month_number, period_end, period_number, period_start, periods_in_all, year_number}
use Rattle.oe_periods.specs.Periods.{PartTime}
use Rattle.oe_periods.specs.declared.calendar.Period.{Period}
use Rattle.oe_periods.specs.declared.calendar.Period.TheVariants.{Day, Month, Year}
use Rattle.oe_periods.proofs.CivilLemmas.{civil, first_civil, from_year_1, is_before, is_reached}

-- the first day of a period, counted from that of the year 1
abbrev pub first_day : Period → ℕ → ℕ
first_day Day number = number
first_day Month number = day_count (pos (number / 12 + 1)) (number % 12 + 1) 1 - 3_652_791
first_day Year number = day_count (pos (number + 1)) 1 1 - 3_652_791

-- ---- a period begins with the midnight of its first day

month_start : (year month : ℕ) → 1 ≤ year → first_of_month year month ≡ first_instant +ℤ pos (86400 * (day_count (pos year) month 1 - 3_652_791))
month_start year month early =
    let days = day_count (pos year) month 1 - 3_652_791 in
    let least = from_year_1 year month 1 early (omega arith) in
    let day : days_from_civil (pos year) month 1 ≡ pos days -ℤ pos 719_162 = omega (arith, signed_arith, days_from_civil-day_count (pos year) month 1, least) in
    rw day (omega (arith, signed_arith))

pub start_is : (period : Period) (number : ℕ) → period_start period number ≡ first_instant +ℤ pos (86400 * first_day period number)
start_is Day number = refl
start_is Month number = month_start (number / 12 + 1) (number % 12 + 1) (omega arith)
start_is Year number = month_start (number + 1) 1 (omega arith)

-- ---- the days of an instant

after_first : (z : ℤ) → pos 0 ≤ℤ z → z ≡ pos (unsigned_abs z)
after_first (pos n) h = refl
after_first (negsuc n) h = absurd (omega (arith, signed_arith, h))

seconds_after : (instant : ℤ) → IsInstant instant → instant ≡ first_instant +ℤ pos (unsigned_abs (instant -ℤ first_instant))
seconds_after instant h =
    let same = after_first (instant -ℤ first_instant) (omega (arith, signed_arith, h.first)) in
    omega (arith, signed_arith, same)

pub few_days : (instant : ℤ) → IsInstant instant → days_to instant ≤ 3_652_058
few_days instant h = omega (arith, signed_arith, seconds_after instant h, h.last)

day_reached : (days : ℕ) (instant : ℤ) → IsInstant instant → ((first_instant +ℤ pos (86400 * days)) ≤ℤ instant) ↔ (days ≤ days_to instant)
day_reached days instant h =
    let after = seconds_after instant h in
    (λ le. omega (arith, signed_arith, after, le), λ le. omega (arith, signed_arith, after, le))

-- ---- the first day of a period is reached by the days of that period and of later ones

not_before : (days number : ℕ) (date : Civil) → IsDay (3_652_791 + days) date → first_day Month number ≤ days → number ≤ month_number date
not_before days number date is le = by (nat_lt (month_number date) number) refl
  where
    by : (b : Bool) → nat_lt (month_number date) number ≡ b → number ≤ month_number date
    by true t =
        let lt : month_number date < number = ltb-true _ _ t in
        let before = is_before date.year date.month date.day (number / 12 + 1) (number % 12 + 1) 1 (civil date.year date.month date.day is.year is.month is.day) is.month.0 (omega arith) (omega (arith, is.year, is.month)) (omega arith) in
        absurd (omega (arith, before, is.counted))
    by false f = ltb-false _ _ f

not_behind : (days number : ℕ) (date : Civil) → IsDay (3_652_791 + days) date → number ≤ month_number date → first_day Month number ≤ days
not_behind days number date is le =
    let reached = is_reached date.year date.month date.day (number / 12 + 1) (number % 12 + 1) (omega (arith, is.year, is.month), omega (arith, is.year, is.month)) (omega arith, omega arith) is.month is.day.0 (omega (arith, is.year, is.month)) in
    omega (arith, reached, is.counted)

month_reached : (days number : ℕ) → days ≤ 3_652_058 → (first_day Month number ≤ days) ↔ (number ≤ month_number (civil_date days))
month_reached days number few =
    let is = civil_date_is days few in
    (not_before days number (civil_date days) is, not_behind days number (civil_date days) is)

year_first : (number : ℕ) → first_day Year number ≡ first_day Month (12 * number)
year_first number =
    let year : 12 * number / 12 ≡ number = omega arith in
    let month : 12 * number % 12 ≡ 0 = omega arith in
    rw (year, month) refl

year_reached : (days number : ℕ) → days ≤ 3_652_058 → (first_day Year number ≤ days) ↔ (number ≤ year_number (civil_date days))
year_reached days number few =
    let is = civil_date_is days few in
    let months = month_reached days (12 * number) few in (
      λ le. omega (arith, is.year, is.month, months.0 (omega (arith, year_first number))),
      λ le. omega (arith, year_first number, months.1 (omega (arith, is.year, is.month))),
    )

-- ---- the law

reached : (period : Period) (number : ℕ) (instant : ℤ) → IsInstant instant → (first_day period number ≤ days_to instant) ↔ (number ≤ period_number period instant)
reached Day number instant h = (λ le. le, λ le. le)
reached Month number instant h = month_reached (days_to instant) number (few_days instant h)
reached Year number instant h = year_reached (days_to instant) number (few_days instant h)

pub begins : (period : Period) (number : ℕ) (instant : ℤ) → IsInstant instant → (period_start period number ≤ℤ instant) ↔ (number ≤ period_number period instant)
begins period number instant h =
    let day = day_reached (first_day period number) instant h in
    let same = reached period number instant h in
    rw (start_is period number) (λ le. same.0 (day.0 le), λ le. day.1 (same.1 le))

-- not reached is before
not_reached : (end instant : ℤ) (number found : ℕ) → (end ≤ℤ instant) ↔ (number + 1 ≤ found) → (instant <ℤ end) ↔ (found ≤ number)
not_reached end instant number found same = (λ lt. inside lt (nat_lt number found) refl, λ le. before le (int_lt instant end) refl)
  where
    inside : instant <ℤ end → (b : Bool) → nat_lt number found ≡ b → found ≤ number
    inside lt true t =
        let at : end ≤ℤ instant = same.1 (omega (arith, ltb-true _ _ t)) in
        absurd (omega (arith, signed_arith, lt, at))
    inside lt false f = ltb-false _ _ f

    before : found ≤ number → (b : Bool) → int_lt instant end ≡ b → instant <ℤ end
    before le true t = omega (arith, signed_arith, t)
    before le false f =
        let past : number + 1 ≤ found = same.0 (omega (arith, signed_arith, f)) in
        absurd (omega (arith, past, le))

ends : (period : Period) (number : ℕ) (instant : ℤ) → IsInstant instant → IfSome (period_end period number) (λ end. (instant <ℤ end) ↔ (period_number period instant ≤ number))
ends period number instant h =
    cond_both (number + 1 == periods_in_all period) _ _ (λ end. IfSome end (λ at. (instant <ℤ at) ↔ (period_number period instant ≤ number)))
    (λ t. tt)
    (λ f. not_reached (period_start period (number + 1)) instant number (period_number period instant) (begins period (number + 1) instant h))

few_first : (period : Period) (number : ℕ) → number < periods_in_all period → first_day period number ≤ 3_652_058
few_first Day number h = omega arith
few_first Month number h =
    let most = day_count_bounds (pos (number / 12 + 1)) (number % 12 + 1) 1 (first_civil (number / 12 + 1) (number % 12 + 1) (omega arith, omega arith) (omega arith, omega arith)) in
    omega (arith, most)
few_first Year number h =
    let most = day_count_bounds (pos (number + 1)) 1 1 (first_civil (number + 1) 1 (omega arith, omega arith) (omega arith, omega arith)) in
    omega (arith, most)

pub valid : (period : Period) (number : ℕ) → number < periods_in_all period → IsInstant (period_start period number)
valid period number h =
    let few = few_first period number h in
    rw (start_is period number) (record { first = omega (arith, signed_arith); last = omega (arith, signed_arith, few) })

pub all_numbered : (period : Period) (instant : ℤ) → IsInstant instant → period_number period instant < periods_in_all period
all_numbered Day instant h = omega (arith, few_days instant h)
all_numbered Month instant h = let is = civil_date_is (days_to instant) (few_days instant h) in omega (arith, is.year, is.month)
all_numbered Year instant h = let is = civil_date_is (days_to instant) (few_days instant h) in omega (arith, is.year)

-- each period begins before the next
first_day_rises : (period : Period) (number : ℕ) → number < periods_in_all period → first_day period number < first_day period (number + 1)
first_day_rises Day number h = omega arith
first_day_rises Month number h =
    let least = from_year_1 (number / 12 + 1) (number % 12 + 1) 1 (omega arith) (omega arith) in
    let before = is_before (number / 12 + 1) (number % 12 + 1) 1 ((number + 1) / 12 + 1) ((number + 1) % 12 + 1) 1 (first_civil (number / 12 + 1) (number % 12 + 1) (omega arith, omega arith) (omega arith, omega arith)) (omega arith) (omega arith) (omega arith) (omega arith) in
    omega (arith, least, before)
first_day_rises Year number h =
    let least = from_year_1 (number + 1) 1 1 (omega arith) (omega arith) in
    let before = is_before (number + 1) 1 1 (number + 1 + 1) 1 1 (first_civil (number + 1) 1 (omega arith, omega arith) (omega arith, omega arith)) (omega arith) (omega arith) (omega arith) (omega arith) in
    omega (arith, least, before)

pub start_rises : (period : Period) (number : ℕ) → number < periods_in_all period → period_start period number <ℤ period_start period (number + 1)
start_rises period number h =
    let rise = first_day_rises period number h in
    rw (start_is period number, start_is period (number + 1)) (omega (arith, signed_arith, rise))

pub starts : (period : Period) (number : ℕ) → number < periods_in_all period → period_number period (period_start period number) ≡ number
starts period number h =
    let at = period_start period number in
    let is = valid period number h in
    let least : number ≤ period_number period at = (begins period number at is).0 (omega (arith, signed_arith)) in
    let most = (not_reached (period_start period (number + 1)) at number (period_number period at) (begins period (number + 1) at is)).0 (start_rises period number h) in
    omega (arith, least, most)

pub part_time : PartTime
part_time = record { begins = begins; ends = ends; valid = valid; all = all_numbered; starts = starts }
