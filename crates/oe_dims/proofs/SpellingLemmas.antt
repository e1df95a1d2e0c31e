-- A text is read as an instant exactly where it is one of the instant's two spellings.
use Rattle.std.proofs.Common.{◌≡◌, ◌↔◌, ℕ, zero, suc, ◌+◌, ◌-◌, ◌*◌, ◌/◌, ◌%◌, ◌<◌, ◌≤◌, true, false, List, [], ◌∷◌, ◌++◌, length, get_or, take, drop, codes, nat_le, refl, sym, ap, ◌∙◌, arith, ℤ, pos, ◌+ℤ◌, ◌-ℤ◌, ◌*ℤ◌, ◌≤ℤ◌, Result, Ok, Err, IfOk, inl, inr}
use Rattle.std.proofs.Math.Seq.{take-append_seam, drop-append_seam}
use Rattle.std.proofs.lemmas.Bool.{cases_Bool, and_parts, leb-true, eqb-true}
use Rattle.std.proofs.lemmas.List.{drop_more, drop_all, length-append}
use Rattle.jiff_core.specs.Calendar.{days_in_month, days_from_civil}
use Rattle.jiff_core.specs.Date.{epoch_day}
use Rattle.jiff_core.specs.declared.civil.date.Date.{Date}
use Rattle.jiff_core.proofs.SignedLemmas.{signed_arith}
use Rattle.jiff_core.proofs.CalendarLemmas.{days_from_civil-day_count}
use Rattle.jiff_core.proofs.DateLemmas.{epoch_day_range, epoch_day-lt, cases_date, epoch_day_same}
use borrow.Author.Differences.{up, down}
use Rattle.oe_dims.specs.Calendar.{Civil, civil_date}
use Rattle.oe_dims.specs.Dimensions.{first_instant}
use Rattle.oe_dims.specs.Names.{is_byte_in}
use Rattle.oe_dims.specs.Instant.{is_let_stand, instant_text, date_text, time_text, two_at, date_in, follows_pattern, date_pattern, instant_pattern, Moment, moment_in, midnight_in, is_date, is_moment, seconds_to, instant_of, instant_read, IsInstant, SpellsInstant}
use Rattle.oe_dims.specs.declared.instant.InstantFault.{InstantFault}
use Rattle.oe_dims.specs.declared.instant.InstantFault.TheVariants.{Spelling, NoSuchDay}
use Rattle.oe_dims.proofs.CivilLemmas.{civil_date_is, civil_date_only, day_count-first_of_year_1, days_from_civil-civil_date}
use Rattle.oe_dims.proofs.InstantLemmas.{text_of, instant_text-after, instant_read-instant_text, instant_of_real, is_date_from, digits_bound, two_back, tens_stand, ones_stand, seconds_to_day, same_moment}
use Rattle.oe_dims.proofs.PatternLemmas.{follows_pattern_at, follows_pattern_length, follows_pattern_short}

-- ---- a real date is the civil date of its day

first_day : Date
first_day = record { year = pos 1; month = 1; day = 1; year_in = (omega (arith, signed_arith), omega (arith, signed_arith)); month_in = (omega arith, omega arith); day_in = (omega arith, omega arith) }

-- the days from the first of the year 1 to a date, by which the date is counted off again
pub record IsCounted (date : Civil) : Type 0 where
  days : ℕ
  few : days ≤ 3_652_058
  is : civil_date days ≡ date
  counted : days_from_civil (pos date.year) date.month date.day ≡ pos days -ℤ pos 719_162

same_civil : (a b : Civil) → a.year ≡ b.year → a.month ≡ b.month → a.day ≡ b.day → a ≡ b
same_civil a b ey em ed = same_parts a.year b.year a.month b.month a.day b.day ey em ed
  where
    same_parts : (y y' m m' d d' : ℕ) → y ≡ y' → m ≡ m' → d ≡ d' → ◌≡◌ {A = Civil} (record { year = y; month = m; day = d }) (record { year = y'; month = m'; day = d' })
    same_parts y y' m m' d d' ey em ed = rw (ey, em, ed) refl

first_day_is : epoch_day first_day ≡ pos 0 -ℤ pos 719_162
unfolding first_day
first_day_is = omega (arith, signed_arith, days_from_civil-day_count (pos 1) 1 1, day_count-first_of_year_1)

-- the parts of a real date
record IsReal (date : Civil) : Type 0 where
  year : (1 ≤ date.year) × (date.year ≤ 9999)
  month : (1 ≤ date.month) × (date.month ≤ 12)
  day : (1 ≤ date.day) × (date.day ≤ days_in_month (pos date.year) date.month)

is_real : (date : Civil) → is_date date ≡ true → IsReal date
is_real date h =
    let a = and_parts _ (nat_le date.day (days_in_month (pos date.year) date.month)) h in
    let b = and_parts _ (nat_le 1 date.day) a.0 in
    let c = and_parts _ (nat_le date.month 12) b.0 in
    let d = and_parts _ (nat_le 1 date.month) c.0 in
    let e = and_parts (nat_le 1 date.year) (nat_le date.year 9999) d.0 in
    record {
      year = (leb-true 1 date.year e.0, leb-true date.year 9999 e.1);
      month = (leb-true 1 date.month d.1, leb-true date.month 12 c.1);
      day = (leb-true 1 date.day b.1, leb-true date.day (days_in_month (pos date.year) date.month) a.1);
    }

not_before_first : (d : Date) (year : ℕ) → d.year ≡ pos year → 1 ≤ year → epoch_day first_day ≤ℤ epoch_day d
unfolding first_day
not_before_first d year e h =
    elim (cases_date d first_day) [
      | inl (inl before) ↦ absurd (omega (arith, signed_arith))
      | inl (inr (same, inl before)) ↦ absurd (omega (arith, d.month_in.0))
      | inl (inr (same, inr (month, before))) ↦ absurd (omega (arith, d.day_in.0))
      | inr (inl after) ↦ omega (arith, signed_arith, epoch_day-lt first_day d after)
      | inr (inr same) ↦ omega (arith, signed_arith, epoch_day_same d first_day same.0 same.1 same.2)
    ]

is_counted : (date : Civil) → IsReal date → IsCounted date
is_counted date real =
    let d : Date = record { year = pos date.year; month = date.month; day = date.day; year_in = (omega (arith, signed_arith, real.year), omega (arith, signed_arith, real.year)); month_in = real.month; day_in = real.day } in
    let day = days_from_civil (pos date.year) date.month date.day in
    let low : epoch_day first_day ≤ℤ day = not_before_first d date.year refl real.year.0 in
    let first = first_day_is in
    let range = epoch_day_range d in
    let days = up day + 719_162 - down day in
    let same : day ≡ pos days -ℤ pos 719_162 = omega (arith, signed_arith, low, first) in
    let few : days ≤ 3_652_058 = omega (arith, signed_arith, low, first, range.1) in
    let only = civil_date_only days d few same in
    record {
      days = days;
      few = few;
      is = same_civil (civil_date days) date (omega (arith, signed_arith, only.0)) (sym only.1) (sym only.2);
      counted = same;
    }

-- ---- the bytes of a text that follows a pattern

-- so many bytes from a first one on
gets : ℕ → ℕ → List ℕ → List ℕ
gets zero i text = []
gets (suc n) i text = get_or text i 0 ∷ gets n (i + 1) text

drop-gets : (n i : ℕ) (text : List ℕ) → length text ≡ i + n → drop i text ≡ gets n i text
unfolding gets
drop-gets zero i text h = drop_all i text (omega arith)
drop-gets (suc n) i text h =
    drop_more text i 0 (omega arith) ∙ ap (λ rest. get_or text i 0 ∷ rest) (drop-gets n (i + 1) text (omega arith))

cons_same : (a b : ℕ) (xs ys : List ℕ) → a ≡ b → xs ≡ ys → a ∷ xs ≡ b ∷ ys
cons_same a b xs ys ea es = rw (ea, es) refl

record IsDigit (b : ℕ) : Type 0 where
  low : 48 ≤ b
  high : b ≤ 57

digit : (b : ℕ) → is_byte_in 48 57 b ≡ true → IsDigit b
digit b h =
    let parts = and_parts (nat_le 48 b) (nat_le b 57) h in
    record { low = leb-true 48 b parts.0; high = leb-true b 57 parts.1 }

-- two digits of a text are those of the number that they spell
tens_again : (a b : ℕ) → IsDigit a → IsDigit b → a ≡ 48 + (10 * (a - 48) + (b - 48)) / 10
tens_again a b ha hb = omega (arith, ha.low, ha.high, hb.low, hb.high)

ones_again : (a b : ℕ) → IsDigit a → IsDigit b → b ≡ 48 + (10 * (a - 48) + (b - 48)) % 10
ones_again a b ha hb = omega (arith, ha.low, ha.high, hb.low, hb.high)

two_below : (a b : ℕ) → IsDigit a → IsDigit b → 10 * (a - 48) + (b - 48) < 100
two_below a b ha hb = omega (arith, ha.low, ha.high, hb.low, hb.high)

century : (a b : ℕ) → b < 100 → (100 * a + b) / 100 ≡ a
century a b h = omega arith

within_century : (a b : ℕ) → b < 100 → (100 * a + b) % 100 ≡ b
within_century a b h = omega arith

-- so the date of a text is spelled by its first ten bytes
date_bytes : (text : List ℕ) → ((i : ℕ) → i < 10 → is_let_stand (get_or date_pattern i 0) (get_or text i 0) ≡ true) → date_text (date_in text) ≡ gets 10 0 text
unfolding gets
date_bytes text h =
    let g = λ (i : ℕ). get_or text i 0 in
    let a = digit (g 0) (h 0 (omega arith)) in
    let b = digit (g 1) (h 1 (omega arith)) in
    let c = digit (g 2) (h 2 (omega arith)) in
    let d = digit (g 3) (h 3 (omega arith)) in
    let m = digit (g 5) (h 5 (omega arith)) in
    let n = digit (g 6) (h 6 (omega arith)) in
    let p = digit (g 8) (h 8 (omega arith)) in
    let q = digit (g 9) (h 9 (omega arith)) in
    let first = century (two_at text 0) (two_at text 2) (two_below (g 2) (g 3) c d) in
    let second = within_century (two_at text 0) (two_at text 2) (two_below (g 2) (g 3) c d) in
    cons_same _ _ _ _ (ap (λ k. 48 + k / 10) first ∙ sym (tens_again (g 0) (g 1) a b))
    (cons_same _ _ _ _ (ap (λ k. 48 + k % 10) first ∙ sym (ones_again (g 0) (g 1) a b))
    (cons_same _ _ _ _ (ap (λ k. 48 + k / 10) second ∙ sym (tens_again (g 2) (g 3) c d))
    (cons_same _ _ _ _ (ap (λ k. 48 + k % 10) second ∙ sym (ones_again (g 2) (g 3) c d))
    (cons_same _ _ _ _ (sym (eqb-true (g 4) 45 (h 4 (omega arith))))
    (cons_same _ _ _ _ (sym (tens_again (g 5) (g 6) m n))
    (cons_same _ _ _ _ (sym (ones_again (g 5) (g 6) m n))
    (cons_same _ _ _ _ (sym (eqb-true (g 7) 45 (h 7 (omega arith))))
    (cons_same _ _ _ _ (sym (tens_again (g 8) (g 9) p q))
    (cons_same _ _ _ _ (sym (ones_again (g 8) (g 9) p q)) refl)))))))))

-- and its time by the ten after them
hour_of : (h m s : ℕ) → m ≤ 59 → s ≤ 59 → (h * 3600 + m * 60 + s) / 3600 ≡ h
hour_of h m s hm hs = omega arith

minute_of : (h m s : ℕ) → m ≤ 59 → s ≤ 59 → (h * 3600 + m * 60 + s) / 60 % 60 ≡ m
minute_of h m s hm hs = omega arith

second_of : (h m s : ℕ) → m ≤ 59 → s ≤ 59 → (h * 3600 + m * 60 + s) % 60 ≡ s
second_of h m s hm hs = omega arith

-- in the long pattern the date stands first, and then the time
text_of-long : (text : List ℕ) → follows_pattern instant_pattern text ≡ true → two_at text 14 ≤ 59 → two_at text 17 ≤ 59 → text_of (date_in text) (two_at text 11 * 3600 + two_at text 14 * 60 + two_at text 17) ≡ text
unfolding gets
text_of-long text follows hm hs =
    let h = follows_pattern_at instant_pattern text follows in
    let g = λ (i : ℕ). get_or text i 0 in
    let a = digit (g 0) (h 0 (omega arith)) in
    let b = digit (g 1) (h 1 (omega arith)) in
    let c = digit (g 2) (h 2 (omega arith)) in
    let d = digit (g 3) (h 3 (omega arith)) in
    let m = digit (g 5) (h 5 (omega arith)) in
    let n = digit (g 6) (h 6 (omega arith)) in
    let p = digit (g 8) (h 8 (omega arith)) in
    let q = digit (g 9) (h 9 (omega arith)) in
    let i = digit (g 11) (h 11 (omega arith)) in
    let j = digit (g 12) (h 12 (omega arith)) in
    let k = digit (g 14) (h 14 (omega arith)) in
    let l = digit (g 15) (h 15 (omega arith)) in
    let r = digit (g 17) (h 17 (omega arith)) in
    let s = digit (g 18) (h 18 (omega arith)) in
    let first = century (two_at text 0) (two_at text 2) (two_below (g 2) (g 3) c d) in
    let second = within_century (two_at text 0) (two_at text 2) (two_below (g 2) (g 3) c d) in
    let hour = hour_of (two_at text 11) (two_at text 14) (two_at text 17) hm hs in
    let minute = minute_of (two_at text 11) (two_at text 14) (two_at text 17) hm hs in
    let last = second_of (two_at text 11) (two_at text 14) (two_at text 17) hm hs in
    let bytes : text_of (date_in text) (two_at text 11 * 3600 + two_at text 14 * 60 + two_at text 17) ≡ gets 20 0 text =
    cons_same _ _ _ _ (ap (λ v. 48 + v / 10) first ∙ sym (tens_again (g 0) (g 1) a b))
    (cons_same _ _ _ _ (ap (λ v. 48 + v % 10) first ∙ sym (ones_again (g 0) (g 1) a b))
    (cons_same _ _ _ _ (ap (λ v. 48 + v / 10) second ∙ sym (tens_again (g 2) (g 3) c d))
    (cons_same _ _ _ _ (ap (λ v. 48 + v % 10) second ∙ sym (ones_again (g 2) (g 3) c d))
    (cons_same _ _ _ _ (sym (eqb-true (g 4) 45 (h 4 (omega arith))))
    (cons_same _ _ _ _ (sym (tens_again (g 5) (g 6) m n))
    (cons_same _ _ _ _ (sym (ones_again (g 5) (g 6) m n))
    (cons_same _ _ _ _ (sym (eqb-true (g 7) 45 (h 7 (omega arith))))
    (cons_same _ _ _ _ (sym (tens_again (g 8) (g 9) p q))
    (cons_same _ _ _ _ (sym (ones_again (g 8) (g 9) p q))
    (cons_same _ _ _ _ (sym (eqb-true (g 10) 84 (h 10 (omega arith))))
    (cons_same _ _ _ _ (ap (λ v. 48 + v / 10) hour ∙ sym (tens_again (g 11) (g 12) i j))
    (cons_same _ _ _ _ (ap (λ v. 48 + v % 10) hour ∙ sym (ones_again (g 11) (g 12) i j))
    (cons_same _ _ _ _ (sym (eqb-true (g 13) 58 (h 13 (omega arith))))
    (cons_same _ _ _ _ (ap (λ v. 48 + v / 10) minute ∙ sym (tens_again (g 14) (g 15) k l))
    (cons_same _ _ _ _ (ap (λ v. 48 + v % 10) minute ∙ sym (ones_again (g 14) (g 15) k l))
    (cons_same _ _ _ _ (sym (eqb-true (g 16) 58 (h 16 (omega arith))))
    (cons_same _ _ _ _ (ap (λ v. 48 + v / 10) last ∙ sym (tens_again (g 17) (g 18) r s))
    (cons_same _ _ _ _ (ap (λ v. 48 + v % 10) last ∙ sym (ones_again (g 17) (g 18) r s))
    (cons_same _ _ _ _ (sym (eqb-true (g 19) 90 (h 19 (omega arith)))) refl)))))))))))))))))))
    in
    bytes ∙ sym (drop-gets 20 0 text (follows_pattern_length instant_pattern text follows))

date_text-short : (text : List ℕ) → follows_pattern date_pattern text ≡ true → date_text (date_in text) ≡ text
date_text-short text follows =
    date_bytes text (follows_pattern_at date_pattern text follows)
    ∙ sym (drop-gets 10 0 text (follows_pattern_length date_pattern text follows))

-- ---- what is read is spelled by the text

instant_text-at : (date : Civil) (c : IsCounted date) (time : ℕ) (seconds : ℤ) → time < 86400 → seconds ≡ first_instant +ℤ pos (86400 * c.days + time) → instant_text seconds ≡ text_of date time
instant_text-at date c time seconds h e =
    let day : (86400 * c.days + time) / 86400 ≡ c.days = omega arith in
    let rest : (86400 * c.days + time) % 86400 ≡ time = omega arith in
    instant_text-after seconds (86400 * c.days + time) e
    ∙ ap (λ n. text_of (civil_date n) ((86400 * c.days + time) % 86400)) day
    ∙ ap (λ n. text_of (civil_date c.days) n) rest
    ∙ ap (λ v. text_of v time) c.is

IsInstant-at : (days time : ℕ) (seconds : ℤ) → days ≤ 3_652_058 → time < 86400 → seconds ≡ first_instant +ℤ pos (86400 * days + time) → IsInstant seconds
IsInstant-at days time seconds few h e = record { first = omega (arith, signed_arith, e); last = omega (arith, signed_arith, e) }

seconds_at : (date : Civil) (c : IsCounted date) (time : ℕ) (seconds : ℤ) → days_from_civil (pos date.year) date.month date.day *ℤ pos 86400 +ℤ pos time ≡ seconds → seconds ≡ first_instant +ℤ pos (86400 * c.days + time)
seconds_at date c time seconds e =
    let counted = c.counted in
    sym e ∙ rw counted (omega (arith, signed_arith))

-- a moment that is real, by its parts
record IsRealMoment (m : Moment) : Type 0 where
  date : is_date m.date ≡ true
  hour : m.hour ≤ 23
  minute : m.minute ≤ 59
  second : m.second ≤ 59

is_real_moment : (m : Moment) → is_moment m ≡ true → IsRealMoment m
is_real_moment m h =
    let a = and_parts _ (nat_le m.second 59) h in
    let b = and_parts _ (nat_le m.minute 59) a.0 in
    let c = and_parts (is_date m.date) (nat_le m.hour 23) b.0 in
    record { date = c.0; hour = leb-true m.hour 23 c.1; minute = leb-true m.minute 59 b.1; second = leb-true m.second 59 a.1 }

record IsRead (m : Moment) (seconds : ℤ) : Type 0 where
  real : is_moment m ≡ true
  counted : seconds_to m ≡ seconds

same_Ok : (a b : ℤ) → ◌≡◌ {A = Result ℤ InstantFault} (Ok a) (Ok b) → a ≡ b
same_Ok a b e = cc

is_read : (m : Moment) (seconds : ℤ) → instant_of m ≡ Ok seconds → IsRead m seconds
is_read m seconds e =
    elim (cases_Bool (is_moment m)) [
      | inl t ↦ record { real = t; counted = same_Ok _ seconds (rw t at e) }
      | inr f ↦ absurd (not_ok (rw f at e))
    ]
  where
    not_ok : ◌≡◌ {A = Result ℤ InstantFault} (Err NoSuchDay) (Ok seconds) → ⊥
    not_ok e = cc

spelled_long : (text : List ℕ) (seconds : ℤ) → follows_pattern instant_pattern text ≡ true → instant_of (moment_in text) ≡ Ok seconds → SpellsInstant text seconds
spelled_long text seconds follows e =
    let read = is_read (moment_in text) seconds e in
    let real = is_real_moment (moment_in text) read.real in
    let c = is_counted (date_in text) (is_real (date_in text) real.date) in
    let time = two_at text 11 * 3600 + two_at text 14 * 60 + two_at text 17 in
    let early : time < 86400 = omega (arith, real.hour, real.minute, real.second) in
    let same = seconds_at (date_in text) c time seconds read.counted in
    record {
      in_range = IsInstant-at c.days time seconds c.few early same;
      spelling = inl (sym (text_of-long text follows real.minute real.second) ∙ sym (instant_text-at (date_in text) c time seconds early same));
    }

spelled_short : (text : List ℕ) (seconds : ℤ) → follows_pattern date_pattern text ≡ true → instant_of (midnight_in text) ≡ Ok seconds → SpellsInstant text seconds
spelled_short text seconds follows e =
    let read = is_read (midnight_in text) seconds e in
    let real = is_real_moment (midnight_in text) read.real in
    let c = is_counted (date_in text) (is_real (date_in text) real.date) in
    let same = seconds_at (date_in text) c 0 seconds read.counted in
    record {
      in_range = IsInstant-at c.days 0 seconds c.few (omega arith) same;
      spelling = inr (ap (λ v. v ++ codes "T00:00:00Z") (sym (date_text-short text follows)) ∙ sym (instant_text-at (date_in text) c 0 seconds (omega arith) same));
    }

not_spelled : (seconds : ℤ) → ◌≡◌ {A = Result ℤ InstantFault} (Err Spelling) (Ok seconds) → ⊥
not_spelled seconds e = cc

SpellsInstant-read : (text : List ℕ) (seconds : ℤ) → instant_read text ≡ Ok seconds → SpellsInstant text seconds
unfolding instant_read
SpellsInstant-read text seconds e =
    elim (cases_Bool (follows_pattern instant_pattern text)) [
      | inl long ↦ spelled_long text seconds long (rw long at e)
      | inr other ↦ elim (cases_Bool (follows_pattern date_pattern text)) [
        | inl short ↦ spelled_short text seconds short (rw (other, short) at e)
        | inr none ↦ absurd (not_spelled seconds (rw (other, none) at e))
      ]
    ]

-- ---- and each spelling of an instant is read as it

follows_short : (date : Civil) → date.year < 10000 → date.month < 100 → date.day < 100 → follows_pattern date_pattern (date_text date) ≡ true
follows_short date hy hm hd =
    rw (tens_stand (date.year / 100) (omega arith), ones_stand (date.year / 100), tens_stand (date.year % 100) (omega arith), ones_stand (date.year % 100), tens_stand date.month hm, ones_stand date.month, tens_stand date.day hd, ones_stand date.day) refl

midnight_in-short : (date : Civil) → midnight_in (date_text date) ≡ record { date = date; hour = 0; minute = 0; second = 0 }
midnight_in-short date =
    let year : 100 * (10 * (48 + date.year / 100 / 10 - 48) + (48 + date.year / 100 % 10 - 48)) + (10 * (48 + date.year % 100 / 10 - 48) + (48 + date.year % 100 % 10 - 48)) ≡ date.year = omega arith in
    same_moment _ _ _ _ _ _ 0 0 0 0 0 0 year (two_back date.month) (two_back date.day) refl refl refl

not_long : (date : Civil) → follows_pattern instant_pattern (date_text date) ≡ false
not_long date = follows_pattern_short instant_pattern (date_text date) (λ (e : ◌≡◌ {A = ℕ} 20 10). absurd (omega (arith, e)))

instant_read-short : (days : ℕ) → days ≤ 3_652_058 → instant_read (date_text (civil_date days)) ≡ Ok (first_instant +ℤ pos (86400 * days + 0))
unfolding instant_read
instant_read-short days few =
    let date = civil_date days in
    let is = civil_date_is days few in
    let digits = digits_bound _ date is in
    let midnight : Moment = record { date = date; hour = 0; minute = 0; second = 0 } in
    let real : is_moment midnight ≡ true = rw (is_date_from _ date is) refl in
    rw (not_long date, follows_short date digits.0 digits.1 digits.2)
    (ap instant_of (midnight_in-short date) ∙ instant_of_real midnight real
    ∙ ap Ok (seconds_to_day (days_from_civil (pos date.year) date.month date.day) days 0 (days_from_civil-civil_date days few)))

same_parts : (text rest first second : List ℕ) → length rest ≡ length second → text ++ rest ≡ first ++ second → (text ≡ first) × (rest ≡ second)
same_parts text rest first second long e =
    let all : length (text ++ rest) ≡ length (first ++ second) = ap length e in
    let same : length text ≡ length first = omega (arith, length-append text rest, length-append first second) in (
      sym (take-append_seam text rest) ∙ ap (λ n. take n (text ++ rest)) same ∙ ap (take (length first)) e ∙ take-append_seam first second,
      sym (drop-append_seam text rest) ∙ ap (λ n. drop n (text ++ rest)) same ∙ ap (drop (length first)) e ∙ drop-append_seam first second,
    )

-- a time that is spelled as midnight is midnight
zero_digits : (n : ℕ) → 48 ≡ 48 + n / 10 → 48 ≡ 48 + n % 10 → n ≡ 0
zero_digits n h k = omega arith

midnight_is : (time : ℕ) → codes "T00:00:00Z" ≡ codes "T" ++ time_text time ++ codes "Z" → time ≡ 0
midnight_is time e =
    let at = λ (i : ℕ) (l : List ℕ). get_or l i 0 in
    let hour = zero_digits (time / 3600) (ap (at 1) e) (ap (at 2) e) in
    let minute = zero_digits (time / 60 % 60) (ap (at 4) e) (ap (at 5) e) in
    let second = zero_digits (time % 60) (ap (at 7) e) (ap (at 8) e) in
    omega (arith, hour, minute, second)

read_midnight : (text : List ℕ) (days time : ℕ) → days ≤ 3_652_058 → text ++ codes "T00:00:00Z" ≡ text_of (civil_date days) time → instant_read text ≡ Ok (first_instant +ℤ pos (86400 * days + time))
read_midnight text days time few e =
    let date = civil_date days in
    let parts = same_parts text (codes "T00:00:00Z") (date_text date) (codes "T" ++ time_text time ++ codes "Z") refl e in
    let zero_is = midnight_is time parts.1 in
    ap instant_read parts.0 ∙ instant_read-short days few ∙ ap (λ n. Ok (first_instant +ℤ pos (86400 * days + n))) (sym zero_is)

read-SpellsInstant : (text : List ℕ) (seconds : ℤ) → SpellsInstant text seconds → instant_read text ≡ Ok seconds
read-SpellsInstant text seconds h =
    let range = h.in_range in
    elim h.spelling [
      | inl long ↦ ap instant_read long ∙ instant_read-instant_text seconds range.first range.last
      | inr short ↦
          let after = up seconds + 62_135_596_800 - down seconds in
          let same : seconds ≡ first_instant +ℤ pos after = omega (arith, signed_arith, range.first) in
          let few : after < 315_537_897_600 = omega (arith, signed_arith, range.first, range.last) in
          let split : 86400 * (after / 86400) + after % 86400 ≡ after = omega arith in
          read_midnight text (after / 86400) (after % 86400) (omega arith) (short ∙ instant_text-after seconds after same)
          ∙ ap (λ n. Ok (first_instant +ℤ pos n)) split ∙ ap Ok (sym same)
    ]

-- a text is read as an instant exactly where it spells it
pub read_exactly : (text : List ℕ) (seconds : ℤ) → (instant_read text ≡ Ok seconds) ↔ SpellsInstant text seconds
read_exactly text seconds = (SpellsInstant-read text seconds, read-SpellsInstant text seconds)

pub answer_exactly : (text : List ℕ) (answer : Result ℤ InstantFault) → answer ≡ instant_read text → (seconds : ℤ) → (answer ≡ Ok seconds) ↔ SpellsInstant text seconds
answer_exactly text answer e seconds = ((λ ok. SpellsInstant-read text seconds (sym e ∙ ok)), λ h. e ∙ read-SpellsInstant text seconds h)

pub answer_in_range : (text : List ℕ) (answer : Result ℤ InstantFault) → answer ≡ instant_read text → IfOk answer IsInstant
answer_in_range text (Ok seconds) e = (SpellsInstant-read text seconds (sym e)).in_range
answer_in_range text (Err fault) e = tt
