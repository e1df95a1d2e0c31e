-- What is printed is read again as the same instant.
use Rattle.std.proofs.Common.{◌≡◌, ℕ, ◌+◌, ◌-◌, ◌*◌, ◌/◌, ◌%◌, ◌<◌, ◌≤◌, true, List, ◌++◌, codes, refl, sym, ap, ◌∙◌, arith, ℤ, pos, ◌+ℤ◌, ◌-ℤ◌, ◌*ℤ◌, ◌≤ℤ◌, unsigned_abs, Ok}
use Rattle.std.proofs.lemmas.Bool.{le-leb, and_from}
use Rattle.jiff_core.specs.Calendar.{days_in_month, days_from_civil}
use Rattle.jiff_core.proofs.SignedLemmas.{signed_arith}
use Rattle.jiff_core.proofs.CalendarLemmas.{days_in_month_bounds}
use borrow.Author.Differences.{up, down}
use Rattle.oe_dims.specs.Calendar.{Civil, civil_date}
use Rattle.oe_dims.specs.Dimensions.{first_instant, last_instant}
use Rattle.oe_dims.specs.Names.{is_byte_in}
use Rattle.oe_dims.specs.Instant.{text_after, instant_text, date_text, time_text, follows_pattern, instant_pattern, Moment, moment_in, is_date, is_moment, seconds_to, instant_of, instant_read}
use Rattle.oe_dims.proofs.CivilLemmas.{IsDay, civil_date_is, days_from_civil-civil_date}

digit_stands : (n : ℕ) → n < 10 → is_byte_in 48 57 (48 + n) ≡ true
digit_stands n h = and_from _ _ (le-leb 48 (48 + n) (omega arith)) (le-leb (48 + n) 57 (omega arith))

-- two digits spell the number that they print
pub two_back : (n : ℕ) → 10 * (48 + n / 10 - 48) + (48 + n % 10 - 48) ≡ n
two_back n = omega arith

-- each digit printed is a digit
pub tens_stand : (n : ℕ) → n < 100 → is_byte_in 48 57 (48 + n / 10) ≡ true
tens_stand n h = digit_stands (n / 10) (omega arith)

pub ones_stand : (n : ℕ) → is_byte_in 48 57 (48 + n % 10) ≡ true
ones_stand n = digit_stands (n % 10) (omega arith)

abbrev pub text_of : Civil → ℕ → List ℕ
text_of date time = date_text date ++ codes "T" ++ time_text time ++ codes "Z"

follows_long : (date : Civil) (time : ℕ) → date.year < 10000 → date.month < 100 → date.day < 100 → time < 86400 → follows_pattern instant_pattern (text_of date time) ≡ true
follows_long date time hy hm hd ht =
    rw (tens_stand (date.year / 100) (omega arith), ones_stand (date.year / 100), tens_stand (date.year % 100) (omega arith), ones_stand (date.year % 100), tens_stand date.month hm, ones_stand date.month, tens_stand date.day hd, ones_stand date.day, tens_stand (time / 3600) (omega arith), ones_stand (time / 3600), tens_stand (time / 60 % 60) (omega arith), ones_stand (time / 60 % 60), tens_stand (time % 60) (omega arith), ones_stand (time % 60)) refl

pub same_moment : (y y' mo mo' d d' h h' mi mi' s s' : ℕ) → y ≡ y' → mo ≡ mo' → d ≡ d' → h ≡ h' → mi ≡ mi' → s ≡ s' → ◌≡◌ {A = Moment} (record { date = record { year = y; month = mo; day = d }; hour = h; minute = mi; second = s }) (record { date = record { year = y'; month = mo'; day = d' }; hour = h'; minute = mi'; second = s' })
same_moment y y' mo mo' d d' h h' mi mi' s s' ey emo ed eh emi es = rw (ey, emo, ed, eh, emi, es)

moment_in-long : (date : Civil) (time : ℕ) → moment_in (text_of date time) ≡ record { date = date; hour = time / 3600; minute = time / 60 % 60; second = time % 60 }
moment_in-long date time =
    let year : 100 * (10 * (48 + date.year / 100 / 10 - 48) + (48 + date.year / 100 % 10 - 48)) + (10 * (48 + date.year % 100 / 10 - 48) + (48 + date.year % 100 % 10 - 48)) ≡ date.year = omega arith in
    same_moment _ _ _ _ _ _ _ _ _ _ _ _ year (two_back date.month) (two_back date.day) (two_back (time / 3600)) (two_back (time / 60 % 60)) (two_back (time % 60))

instant_read-long : (date : Civil) (time : ℕ) → date.year < 10000 → date.month < 100 → date.day < 100 → time < 86400 → instant_read (text_of date time) ≡ instant_of (record { date = date; hour = time / 3600; minute = time / 60 % 60; second = time % 60 })
unfolding instant_read
instant_read-long date time hy hm hd ht =
    rw (follows_long date time hy hm hd ht) (ap instant_of (moment_in-long date time))

pub is_date_from : (count : ℕ) (date : Civil) → IsDay count date → is_date date ≡ true
is_date_from count date h =
    rw (le-leb 1 date.year h.year.0, le-leb date.year 9999 h.year.1, le-leb 1 date.month h.month.0, le-leb date.month 12 h.month.1, le-leb 1 date.day h.day.0, le-leb date.day (days_in_month (pos date.year) date.month) h.day.1) refl

is_moment_from : (date : Civil) (time : ℕ) → is_date date ≡ true → time < 86400 → is_moment (record { date = date; hour = time / 3600; minute = time / 60 % 60; second = time % 60 }) ≡ true
is_moment_from date time real h =
    let hour : time / 3600 ≤ 23 = omega arith in
    let minute : time / 60 % 60 ≤ 59 = omega arith in
    let second : time % 60 ≤ 59 = omega arith in
    and_from _ _ (and_from _ _ (and_from _ _ real (le-leb (time / 3600) 23 hour)) (le-leb (time / 60 % 60) 59 minute)) (le-leb (time % 60) 59 second)

-- the seconds to a day and a time of day
pub seconds_to_day : (day : ℤ) (days time : ℕ) → day ≡ pos days -ℤ pos 719_162 → day *ℤ pos 86400 +ℤ pos (time / 3600 * 3600 + time / 60 % 60 * 60 + time % 60) ≡ first_instant +ℤ pos (86400 * days + time)
seconds_to_day day days time e =
    let clock : time / 3600 * 3600 + time / 60 % 60 * 60 + time % 60 ≡ time = omega arith in
    rw (e, clock) (omega (arith, signed_arith))

-- the numbers of a date of the years 1 to 9999 have four, two and two digits
pub digits_bound : (count : ℕ) (date : Civil) → IsDay count date → (date.year < 10000) × (date.month < 100) × (date.day < 100)
digits_bound count date h =
    let short = days_in_month_bounds (pos date.year) date.month in
    (omega (arith, h.year), omega (arith, h.month), omega (arith, h.day, short))

pub instant_of_real : (m : Moment) → is_moment m ≡ true → instant_of m ≡ Ok (seconds_to m)
instant_of_real m h = rw h

instant_read_at : (days time : ℕ) → days ≤ 3_652_058 → time < 86400 → instant_read (text_of (civil_date days) time) ≡ Ok (first_instant +ℤ pos (86400 * days + time))
instant_read_at days time late early =
    let date = civil_date days in
    let is = civil_date_is days late in
    let digits = digits_bound _ date is in
    let real = is_moment_from date time (is_date_from _ date is) early in
    instant_read-long date time digits.0 digits.1 digits.2 early
    ∙ instant_of_real (record { date = date; hour = time / 3600; minute = time / 60 % 60; second = time % 60 }) real
    ∙ ap Ok (seconds_to_day (days_from_civil (pos date.year) date.month date.day) days time (days_from_civil-civil_date days late))

-- the text of so many seconds after the first of the year 1 is read as that instant
pub instant_read-text_after : (after : ℕ) → after < 315_537_897_600 → instant_read (text_after after) ≡ Ok (first_instant +ℤ pos after)
instant_read-text_after after h =
    let split : 86400 * (after / 86400) + after % 86400 ≡ after = omega arith in
    instant_read_at (after / 86400) (after % 86400) (omega arith) (omega arith) ∙ ap (λ n. Ok (first_instant +ℤ pos n)) split

-- how many seconds an instant comes after the first of the year 1
pub instant_text-after : (seconds : ℤ) (after : ℕ) → seconds ≡ first_instant +ℤ pos after → instant_text seconds ≡ text_after after
unfolding instant_text
instant_text-after seconds after e =
    let same : seconds -ℤ first_instant ≡ pos after = omega (arith, signed_arith) in
    ap (λ z. text_after (unsigned_abs z)) same

pub instant_read-instant_text : (seconds : ℤ) → first_instant ≤ℤ seconds → seconds ≤ℤ last_instant → instant_read (instant_text seconds) ≡ Ok seconds
instant_read-instant_text seconds first last =
    let after = up seconds + 62_135_596_800 - down seconds in
    let same : seconds ≡ first_instant +ℤ pos after = omega (arith, signed_arith) in
    let few : after < 315_537_897_600 = omega (arith, signed_arith) in
    ap instant_read (instant_text-after seconds after same) ∙ instant_read-text_after after few ∙ ap Ok (sym same)
