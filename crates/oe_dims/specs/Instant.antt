-- How an instant is spelled: YYYY-MM-DDTHH:MM:SSZ, or YYYY-MM-DD for its first second (RFC 3339, in universal time).
use Rattle.std.specs.Prelude.{◌≡◌, ◌⊎◌, ◌≤ℤ◌, ℕ, ◌+◌, ◌-◌, ◌*◌, ◌/◌, ◌%◌, ◌==◌, ◌&&◌, nat_le, if◌then◌else◌, Bool, true, false, List, [], ◌∷◌, ◌++◌, slice_index, codes, ℤ, pos, ◌+ℤ◌, ◌-ℤ◌, ◌*ℤ◌, unsigned_abs, Option, Some, None, Result, Ok, Err}
use Rattle.jiff_core.specs.Calendar.{days_in_month, days_from_civil}
use Rattle.oe_dims.specs.Calendar.{Civil, civil_date}
use Rattle.oe_dims.specs.Dimensions.{first_instant, last_instant}
use Rattle.oe_dims.specs.Names.{is_byte_in}
use Rattle.oe_dims.specs.declared.instant.InstantFault.{InstantFault}
use Rattle.oe_dims.specs.declared.instant.InstantFault.TheVariants.{Spelling, NoSuchDay}

-- a number below 100 in two digits, and one below 10000 in four
abbrev pub two_digits : ℕ → List ℕ
two_digits n = (48 + n / 10) ∷ (48 + n % 10) ∷ []

abbrev pub four_digits : ℕ → List ℕ
four_digits n = two_digits (n / 100) ++ two_digits (n % 100)

-- YYYY-MM-DD
abbrev pub date_text : Civil → List ℕ
date_text date = four_digits date.year ++ codes "-" ++ two_digits date.month ++ codes "-" ++ two_digits date.day

-- HH:MM:SS of so many seconds after midnight
abbrev pub time_text : ℕ → List ℕ
time_text seconds =
    two_digits (seconds / 3600) ++ codes ":" ++ two_digits (seconds / 60 % 60) ++ codes ":" ++ two_digits (seconds % 60)

-- the date and time so many seconds after the first second of the year 1
abbrev pub text_after : ℕ → List ℕ
text_after seconds = date_text (civil_date (seconds / 86400)) ++ codes "T" ++ time_text (seconds % 86400) ++ codes "Z"

-- an instant, in seconds since 1970-01-01T00:00:00Z, from 0001-01-01T00:00:00Z to 9999-12-31T23:59:59Z
unfoldable pub instant_text : ℤ → List ℕ
instant_text seconds = text_after (unsigned_abs (seconds -ℤ first_instant))

-- a byte that a pattern lets stand: any digit for `d`, and otherwise the same byte
abbrev pub is_let_stand : ℕ → ℕ → Bool
is_let_stand letter byte = if letter == 100 then is_byte_in 48 57 byte else byte == letter

-- a text that follows a pattern byte by byte
abbrev pub follows_pattern : List ℕ → List ℕ → Bool
follows_pattern [] [] = true
follows_pattern (letter ∷ pattern) (byte ∷ text) = is_let_stand letter byte && follows_pattern pattern text
follows_pattern _ _ = false

abbrev pub date_pattern : List ℕ
date_pattern = codes "dddd-dd-dd"

abbrev pub instant_pattern : List ℕ
instant_pattern = codes "dddd-dd-ddTdd:dd:ddZ"

-- the number that two digits of a text spell, from an index on
abbrev pub two_at : List ℕ → ℕ → ℕ
two_at text index = 10 * (slice_index text index - 48) + (slice_index text (index + 1) - 48)

-- a date and a time of day, which need not be real
pub record Moment : Type 0 where
  pub date : Civil
  pub hour : ℕ
  pub minute : ℕ
  pub second : ℕ

-- the date that a text spells
abbrev pub date_in : List ℕ → Civil
date_in text = record { year = 100 * two_at text 0 + two_at text 2; month = two_at text 5; day = two_at text 8 }

-- the first second of the date that a text spells, and the second that it spells
abbrev pub midnight_in : List ℕ → Moment
midnight_in text = record { date = date_in text; hour = 0; minute = 0; second = 0 }

abbrev pub moment_in : List ℕ → Moment
moment_in text = record { date = date_in text; hour = two_at text 11; minute = two_at text 14; second = two_at text 17 }

-- the calendar has the date, in the years 1 to 9999
abbrev pub is_date : Civil → Bool
is_date date =
    nat_le 1 date.year && nat_le date.year 9999 && nat_le 1 date.month && nat_le date.month 12 && nat_le 1 date.day
    && nat_le date.day (days_in_month (pos date.year) date.month)

-- the day number of a date, if the calendar has it, in the years 1 to 9999
abbrev pub day_number : Civil → Option ℤ
day_number date = if is_date date then Some (days_from_civil (pos date.year) date.month date.day) else None

-- the date is real, and so is the time of day; no day has a second 60
abbrev pub is_moment : Moment → Bool
is_moment m = is_date m.date && nat_le m.hour 23 && nat_le m.minute 59 && nat_le m.second 59

-- the seconds from 1970-01-01T00:00:00Z to a moment: those of its day, and those of its time
abbrev pub seconds_to : Moment → ℤ
seconds_to m =
    days_from_civil (pos m.date.year) m.date.month m.date.day *ℤ pos 86400
    +ℤ pos (m.hour * 3600 + m.minute * 60 + m.second)

-- a moment's instant, if the moment is real
abbrev pub instant_of : Moment → Result ℤ InstantFault
instant_of m = if is_moment m then Ok (seconds_to m) else Err NoSuchDay

-- the instant that a text spells: it follows one of the two patterns, and its date and time are real
unfoldable pub instant_read : List ℕ → Result ℤ InstantFault
instant_read text =
    if follows_pattern instant_pattern text then instant_of (moment_in text)
    else (if follows_pattern date_pattern text then instant_of (midnight_in text) else Err Spelling)

-- an instant of the years 1 to 9999
pub record IsInstant (seconds : ℤ) : Type 0 where
  pub first : first_instant ≤ℤ seconds
  pub last : seconds ≤ℤ last_instant

-- the text spells the instant: by its long spelling, or by the date of which it is midnight
pub record SpellsInstant (text : List ℕ) (seconds : ℤ) : Type 0 where
  pub in_range : IsInstant seconds
  pub spelling : (text ≡ instant_text seconds) ⊎ (text ++ codes "T00:00:00Z" ≡ instant_text seconds)
