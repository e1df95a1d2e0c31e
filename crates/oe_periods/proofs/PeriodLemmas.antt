-- The periods of a series of instants that rise.
use Rattle.std.proofs.Common.{◌≡◌, ℕ, zero, suc, ◌+◌, ◌-◌, ◌<◌, ◌≤◌, nat_lt, Bool, true, false, List, [], ◌∷◌, length, map, get_or, refl, ap, arith, ℤ, ◌≤ℤ◌, to_z, of_z, w64}
use Rattle.std.specs.List.{All, range_with_len}
use Rattle.std.proofs.lemmas.Bool.{and_from, ltb-true, ltb-false}
use Rattle.std.proofs.lemmas.List.Elements.{All-cons, All-get_or, All-nil}
use Rattle.jiff_core.proofs.SignedLemmas.{signed_arith}
use Rattle.oe_dims.specs.Dimensions.{rises}
use Rattle.oe_dims.specs.Instant.{IsInstant}
use Rattle.oe_dims.proofs.IndexLemmas.{from_lt, rises_lt}
use Rattle.oe_periods.specs.Calendar.{period_number, period_start, periods_in_all}
use Rattle.oe_periods.specs.Periods.{last_of, period_numbers, period_starts}
use Rattle.oe_periods.specs.declared.calendar.Period.{Period}
use Rattle.oe_periods.proofs.PartLemmas.{all_numbered, begins, start_rises, valid}

-- a later instant lies in no earlier period
pub number_rises : (period : Period) (a b : ℤ) → IsInstant a → IsInstant b → a ≤ℤ b → period_number period a ≤ period_number period b
number_rises period a b first last le =
    let at = (begins period (period_number period a) a first).1 (omega arith) in
    (begins period (period_number period a) b last).0 (omega (arith, signed_arith, at, le))

-- the first is not behind the last
pub first_to_last : (labels : List ℤ) (d : ℤ) → rises labels ≡ true → 0 < length labels → get_or labels 0 d ≤ℤ get_or labels (length labels - 1) d
first_to_last labels d h some = by (nat_lt 0 (length labels - 1)) refl
  where
    by : (b : Bool) → nat_lt 0 (length labels - 1) ≡ b → get_or labels 0 d ≤ℤ get_or labels (length labels - 1) d
    by true t =
        let lt = rises_lt labels 0 (length labels - 1) d h (ltb-true _ _ t) (omega arith) in
        omega (arith, signed_arith, lt)
    by false f =
        let one : length labels - 1 ≡ 0 = omega (arith, ltb-false _ _ f) in
        rw one (omega (arith, signed_arith))

last_is : (a : ℤ) (rest : List ℤ) (d : ℤ) → last_of a rest ≡ get_or (a ∷ rest) (length rest) d
last_is a [] d = refl
last_is a (b ∷ rest) d = last_is b rest d

-- the numbers, by the first and the last
pub numbers_by_ends : (period : Period) (labels : List ℤ) (d : ℤ) → 0 < length labels
    → period_numbers period labels
    ≡ range_with_len (period_number period (get_or labels 0 d)) (period_number period (get_or labels (length labels - 1) d) + 1 - period_number period (get_or labels 0 d))
numbers_by_ends period [] d some = absurd (omega arith)
numbers_by_ends period (a ∷ rest) d some =
    let back : length (a ∷ rest) - 1 ≡ length rest = omega arith in
    rw back (ap (λ last. range_with_len (period_number period a) (period_number period last + 1 - period_number period a)) (last_is a rest d))

pub same_bits : (instant : ℤ) → IsInstant instant → to_z w64 (of_z w64 instant) ≡ instant
same_bits instant h = omega (arith, signed_arith, h.first, h.last)

-- ---- the starts of periods one behind the other

starts_between : (period : Period) (first count : ℕ) → first + count ≤ periods_in_all period → rises (map (period_start period) (range_with_len first count)) ≡ true
starts_between period first zero h = refl
starts_between period first (suc zero) h = refl
starts_between period first (suc (suc count)) h =
    and_from _ _ (from_lt _ _ (start_rises period first (omega arith))) (starts_between period (first + 1) (suc count) (omega arith))

valid_between : (period : Period) (first count : ℕ) → first + count ≤ periods_in_all period → All IsInstant (map (period_start period) (range_with_len first count))
valid_between period first zero h = All-nil IsInstant
valid_between period first (suc count) h =
    All-cons IsInstant (period_start period first) (map (period_start period) (range_with_len (first + 1) count)) (valid period first (omega arith)) (valid_between period (first + 1) count (omega arith))

-- the periods of instants are periods of the years 1 to 9999
within_all : (period : Period) (a : ℤ) (rest : List ℤ) → All IsInstant (a ∷ rest)
    → period_number period a + (period_number period (last_of a rest) + 1 - period_number period a) ≤ periods_in_all period
within_all period a rest h =
    let first : IsInstant a = All-get_or IsInstant (a ∷ rest) 0 a (omega arith) h in
    let last : IsInstant (last_of a rest) = rw (last_is a rest a) (All-get_or IsInstant (a ∷ rest) (length rest) a (omega arith) h) in
    omega (arith, all_numbered period a first, all_numbered period (last_of a rest) last)

-- the starts of the periods of instants rise
pub starts_rise : (period : Period) (instants : List ℤ) → All IsInstant instants → rises (period_starts period instants) ≡ true
starts_rise period [] h = refl
starts_rise period (a ∷ rest) h = starts_between period _ _ (within_all period a rest h)

-- and are instants
pub starts_valid : (period : Period) (instants : List ℤ) → All IsInstant instants → All IsInstant (period_starts period instants)
starts_valid period [] h = All-nil IsInstant
starts_valid period (a ∷ rest) h = valid_between period _ _ (within_all period a rest h)
