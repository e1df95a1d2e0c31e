-- How dates follow one another.
use Rattle.std.proofs.Common.{◌≡◌, ℕ, ◌+◌, ◌-◌, ◌*◌, ◌<◌, ◌≤◌, nat_lt, Bool, true, false, refl, subst, arith, pos}
use Rattle.std.specs.Int.{IsInRange}
use Rattle.std.proofs.lemmas.Bool.{ltb-true, ltb-false}
use Rattle.jiff_core.specs.Calendar.{days_in_month, day_count, IsCivilDate}
use Rattle.jiff_core.proofs.SignedLemmas.{signed_arith}
use Rattle.jiff_core.proofs.CalendarLemmas.{day_count-day, day_count-day_of_year, day_count-lt_year, day_count-lt_month, days_in_month_bounds}
use Rattle.oe_dims.proofs.CivilLemmas.{day_count-first_of_year_1}

pub civil : (year month day : ℕ) → IsInRange 1 9999 year → IsInRange 1 12 month → IsInRange 1 (days_in_month (pos year) month) day → IsCivilDate (pos year) month day
civil year month day y m d = ((omega (arith, signed_arith, y), omega (arith, signed_arith, y)), m, d)

pub first_civil : (year month : ℕ) → IsInRange 1 9999 year → IsInRange 1 12 month → IsCivilDate (pos year) month 1
first_civil year month y m = civil year month 1 y m (omega arith, omega (arith, (days_in_month_bounds (pos year) month).1))

-- a day of an earlier month lies before a later one
pub is_before : (year month day next later last : ℕ) → IsCivilDate (pos year) month day → 1 ≤ month → later ≤ 12 → 12 * year + month < 12 * next + later → 1 ≤ last
    → day_count (pos year) month day < day_count (pos next) later last
is_before year month day next later last is first few lt some = by (nat_lt year next) refl
  where
    by : (b : Bool) → nat_lt year next ≡ b → day_count (pos year) month day < day_count (pos next) later last
    by true t = day_count-lt_year (pos year) month day (pos next) later last is some (omega (arith, signed_arith, ltb-true year next t))
    by false f =
        let past : next ≤ year = ltb-false year next f in
        let same : year ≡ next = omega arith in
        subst (λ y. day_count (pos year) month day < day_count (pos y) later last) same
        (day_count-lt_month (pos year) month day later last is some (omega arith))

-- the first of a month is not behind a day of that month or of a later one
pub is_reached : (year month day next later : ℕ) → IsInRange 1 9999 next → IsInRange 1 12 later → IsInRange 1 12 month → 1 ≤ day → 12 * next + later ≤ 12 * year + month
    → day_count (pos next) later 1 ≤ day_count (pos year) month day
is_reached year month day next later y m range some le = by (nat_lt (12 * next + later) (12 * year + month)) refl
  where
    by : (b : Bool) → nat_lt (12 * next + later) (12 * year + month) ≡ b → day_count (pos next) later 1 ≤ day_count (pos year) month day
    by true t =
        let before = is_before next later 1 year month day (first_civil next later y m) m.0 range.1 (ltb-true _ _ t) some in
        omega (arith, before)
    by false f =
        let past : 12 * year + month ≤ 12 * next + later = ltb-false _ _ f in
        let years : next ≡ year = omega (arith, m, range) in
        let months : later ≡ month = omega (arith, m, range) in
        rw (years, months) (omega (arith, day_count-day (pos year) month 1 day (omega arith) some))

-- no day of the year 1 or later lies before the first
pub from_year_1 : (year month day : ℕ) → 1 ≤ year → 1 ≤ day → 3_652_791 ≤ day_count (pos year) month day
from_year_1 year month day early some = by (nat_lt 1 year) refl
  where
    by : (b : Bool) → nat_lt 1 year ≡ b → 3_652_791 ≤ day_count (pos year) month day
    by true t =
        let lt = day_count-lt_year (pos 1) 1 1 (pos year) month day (first_civil 1 1 (omega arith, omega arith) (omega arith, omega arith)) some (omega (arith, signed_arith, ltb-true 1 year t)) in
        omega (arith, lt, day_count-first_of_year_1)
    by false f =
        let past : year ≤ 1 = ltb-false 1 year f in
        let one : 1 ≡ year = omega arith in
        subst (λ y. 3_652_791 ≤ day_count (pos y) month day) one (omega (arith, day_count-first_of_year_1, day_count-day_of_year (pos 1) month day some))
