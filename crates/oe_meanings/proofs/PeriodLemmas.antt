-- The calendar periods of labels: their starts rise, their labels are valid, and an aggregation over them as intervals is
-- one over periods.
use Rattle.std.proofs.Common.{◌≡◌, ◌↔◌, ℕ, zero, suc, ◌+◌, ◌-◌, ◌<◌, ◌≤◌, ◌==◌, nat_le, nat_lt, Bool, true, false, ◌&&◌, ◌||◌, List, [], ◌∷◌, ◌++◌, map, length, filter, find, refl, sym, ap, ◌∙◌, subst, arith, Option, Some, None, ℤ, ◌≤ℤ◌, ◌<ℤ◌, int_lt, slice_get, slice_index_or, true≢false, le-leb, leb-true, ltb-true, ltb-false, lt-ltb, eqb-true, eq-eqb}
use Rattle.std.specs.Prelude.{int_le, IfSome, unwrap_or, All}
use Rattle.std.specs.List.{list_all, list_any, range_with_len, Contains}
use Rattle.std.specs.Option.{option_map_or}
use Rattle.std.proofs.lemmas.Bool.{and_from}
use Rattle.std.proofs.lemmas.Int.{ints}
use Rattle.std.proofs.lemmas.List.{length-map}
use Rattle.std.proofs.lemmas.List.Elements.{All-nil, All-cons}
use Rattle.std.proofs.lemmas.List.Folds.{list_all-map}
use Rattle.std.proofs.lemmas.List.FromFn.{length-range_with_len}
use Rattle.oe_cell.specs.declared.cell.Cell.{Cell}
use Rattle.oe_dims.specs.Cube.{Tuple, IsLabelOf, Cube, tuples, tabulate}
use Rattle.oe_dims.specs.Dimensions.{Dimensions, IsShape, of_labels, rises, all_between, most_labels, first_instant, last_instant, number_labels}
use Rattle.oe_dims.specs.Indices.{same_number}
use Rattle.oe_dims.specs.Instant.{IsInstant}
use Rattle.oe_dims.specs.Plain.{plain_instants}
use Rattle.oe_dims.specs.declared.kind.Kind.TheVariants.{Time}
use Rattle.oe_dims.proofs.CubeLemmas.{IsTuple-from_get}
use Rattle.oe_dims.proofs.IndexLemmas.{lt_from, from_lt, same_number_is, same_number_refl}
use Rattle.oe_dims.proofs.ShapeLemmas.{is_in_range_kind}
use Rattle.oe_expr.specs.Callback.{Callback}
use Rattle.oe_periods.proofs.PartLemmas.{part_time}
use Rattle.oe_periods.specs.Calendar.{period_number, period_start, period_end, periods_in_all}
use Rattle.oe_periods.specs.Periods.{ArePeriodsOf, Series, last_of, period_numbers, period_starts}
use Rattle.oe_periods.specs.declared.calendar.Period.{Period}
use Rattle.oe_periods.specs.declared.calendar.Period.TheVariants.{Day, Month, Year}
use Rattle.oe_meanings.proofs.OrderedLemmas.{left_of, right_of, below_is_order, ordered_differ, rises_stand}
use Rattle.oe_meanings.specs.Callbacks.{AreIntervals}
use Rattle.oe_requests.specs.Extents.{has_begun, has_not_ended, is_in_time, is_empty_extent}
use Rattle.oe_requests.specs.Labels.{is_below, insert_label, sorted_labels, are_distinct}
use Rattle.oe_meanings.specs.Laws.{AggregateByPeriods}
use Rattle.oe_meanings.specs.Meaning.{value_on_list, extent_labelled, instants_inside, cells_at, aggregated, labels_in_period_of, labels_in_period, by_period}
use Rattle.oe_requests.specs.Operations.{shape_of_aggregation}
use Rattle.oe_requests.specs.Parameters.{extent_from}
use Rattle.oe_requests.specs.Periods.{period_interval, period_intervals, period_shape}
use Rattle.oe_meanings.specs.ValidShapes.{labels_of, AreIntervalLabels, is_within_limits}
use Rattle.oe_requests.specs.declared.extent.Interval.{Interval}

-- ---- tests of instants and of numbers that say the same

le_from : (a b : ℤ) → int_le a b ≡ true → a ≤ℤ b
le_from a b h = grind (arith, ints)

from_le : (a b : ℤ) → a ≤ℤ b → int_le a b ≡ true
from_le a b h = grind (arith, ints)

not_lt : (a b : ℤ) → int_lt a b ≡ false → b ≤ℤ a
not_lt a b h = grind (arith, ints)

not_le : (a b : ℤ) → a <ℤ b → int_le b a ≡ false
not_le a b h = grind (arith, ints)

same_le : (a b : ℤ) (m n : ℕ) → (a ≤ℤ b) ↔ (m ≤ n) → int_le a b ≡ nat_le m n
same_le a b m n same = by (int_le a b) (nat_le m n) refl refl
  where
    by : (p q : Bool) → int_le a b ≡ p → nat_le m n ≡ q → int_le a b ≡ nat_le m n
    by true true e f = e ∙ sym f
    by false false e f = e ∙ sym f
    by true false e f = e ∙ sym (le-leb m n (same.0 (le_from a b e)))
    by false true e f = from_le a b (same.1 (leb-true m n f)) ∙ sym f

same_lt : (a b : ℤ) (m n : ℕ) → (a <ℤ b) ↔ (m ≤ n) → int_lt a b ≡ nat_le m n
same_lt a b m n same = by (int_lt a b) (nat_le m n) refl refl
  where
    by : (p q : Bool) → int_lt a b ≡ p → nat_le m n ≡ q → int_lt a b ≡ nat_le m n
    by true true e f = e ∙ sym f
    by false false e f = e ∙ sym f
    by true false e f = e ∙ sym (le-leb m n (same.0 (lt_from a b e)))
    by false true e f = from_lt a b (same.1 (leb-true m n f)) ∙ sym f

-- neither above nor below is the same
both_le : (m n : ℕ) → (nat_le n m && nat_le m n) ≡ (m == n)
both_le m n = by (nat_le n m) (nat_le m n) (m == n) refl refl refl
  where
    by : (p q r : Bool) → nat_le n m ≡ p → nat_le m n ≡ q → (m == n) ≡ r → (nat_le n m && nat_le m n) ≡ (m == n)
    by true true r e f g = and_from _ _ e f ∙ sym (eq-eqb m n (omega (arith, leb-true n m e, leb-true m n f)))
    by p q true e f g =
        let same : m ≡ n = eqb-true m n g in
        and_from _ _ (le-leb n m (omega arith)) (le-leb m n (omega arith)) ∙ sym g
    by true false false e f g = ap (λ b. b && nat_le m n) e ∙ (f ∙ sym g)
    by false q false e f g = ap (λ b. b && nat_le m n) e ∙ sym g

-- ---- labels that are instants

instant_of : (l : ℤ) → (int_le first_instant l && int_le l last_instant) ≡ true → IsInstant l
instant_of l h = record {
  first = le_from first_instant l (left_of (int_le first_instant l) _ h);
  last = le_from l last_instant (right_of (int_le first_instant l) _ h);
}

of_instant : (l : ℤ) → IsInstant l → (int_le first_instant l && int_le l last_instant) ≡ true
of_instant l h = and_from _ _ (from_le first_instant l h.first) (from_le l last_instant h.last)

abbrev AreInstants : List ℤ → Type 0
AreInstants labels = all_between first_instant last_instant labels ≡ true

last_instant_of : (l : ℤ) (labels : List ℤ) → AreInstants (l ∷ labels) → IsInstant (last_of l labels)
last_instant_of l [] h = instant_of l (left_of (int_le first_instant l && int_le l last_instant) _ h)
last_instant_of l (next ∷ labels) h = last_instant_of next labels (right_of (int_le first_instant l && int_le l last_instant) _ h)

instants_there : (t : Option (List ℤ)) → of_labels (all_between first_instant last_instant) t ≡ true → AreInstants (unwrap_or t [])
instants_there None h = refl
instants_there (Some labels) h = h

pub instants_of_shape : (d : Dimensions) → IsShape d → AreInstants (number_labels d Time)
instants_of_shape d v = instants_there d.t (is_in_range_kind d v Time)

filter_same : (f g : ℤ → Bool) → ((l : ℤ) → IsInstant l → f l ≡ g l) → (labels : List ℤ) → AreInstants labels → filter f labels ≡ filter g labels
filter_same f g same [] h = refl
filter_same f g same (l ∷ labels) h =
    let here : f l ≡ g l = same l (instant_of l (left_of (int_le first_instant l && int_le l last_instant) _ h)) in
    let rest : filter f labels ≡ filter g labels = filter_same f g same labels (right_of (int_le first_instant l && int_le l last_instant) _ h) in
    rw (here, rest) refl

-- ---- starts of periods

module _ (period : Period) where
  next_later : (number : ℕ) → number + 1 < periods_in_all period → period_start period number <ℤ period_start period (number + 1)
  next_later number few = by (int_lt (period_start period number) (period_start period (number + 1))) refl
    where
      by : (b : Bool) → int_lt (period_start period number) (period_start period (number + 1)) ≡ b → period_start period number <ℤ period_start period (number + 1)
      by true e = lt_from _ _ e
      by false e =
          let starts = part_time.starts period number (omega arith) in
          let past = (part_time.begins period (number + 1) (period_start period number) (part_time.valid period number (omega arith))).0 (not_lt _ _ e) in
          absurd (omega (arith, starts, past))

  -- the numbers of the periods of labels are one behind the other
  record Run (labels : List ℤ) : Type 0 where
    first : ℕ
    count : ℕ
    is : period_numbers period labels ≡ range_with_len first count
    fits : 0 < count → first + count ≤ periods_in_all period
    least : count ≤ periods_in_all period

  run : (labels : List ℤ) → AreInstants labels → Run labels
  run [] h = record { first = 0; count = 0; is = refl; fits = λ some. absurd (omega (arith, some)); least = omega arith }
  run (l ∷ labels) h =
      let first = period_number period l in
      let last = period_number period (last_of l labels) in
      let few : last < periods_in_all period = part_time.all period (last_of l labels) (last_instant_of l labels h) in
      record { first = first; count = last + 1 - first; is = refl; fits = λ some. omega (arith, few, some); least = omega (arith, few) }

  run_all : (q : ℕ → Bool) (first count : ℕ) → (0 < count → first + count ≤ periods_in_all period)
      → ((number : ℕ) → number < periods_in_all period → q number ≡ true) → list_all q (range_with_len first count) ≡ true
  run_all q first zero fits each = refl
  run_all q first (suc count) fits each =
      let most : first + suc count ≤ periods_in_all period = fits (omega arith) in
      and_from (q first) _ (each first (omega (arith, most))) (run_all q (first + 1) count (λ some. omega (arith, most)) each)

  numbers_all : (q : ℕ → Bool) (labels : List ℤ) → AreInstants labels → ((number : ℕ) → number < periods_in_all period → q number ≡ true)
      → list_all q (period_numbers period labels) ≡ true
  numbers_all q labels h each =
      let r = run labels h in
      ap (list_all q) r.is ∙ run_all q r.first r.count r.fits each

  run_rises : (first count : ℕ) → (0 < count → first + count ≤ periods_in_all period) → rises (map (period_start period) (range_with_len first count)) ≡ true
  run_rises first zero fits = refl
  run_rises first (suc zero) fits = refl
  run_rises first (suc (suc count)) fits =
      let most : first + suc (suc count) ≤ periods_in_all period = fits (omega arith) in
      and_from (int_lt (period_start period first) (period_start period (first + 1))) _
      (from_lt (period_start period first) (period_start period (first + 1)) (next_later first (omega (arith, most))))
      (run_rises (first + 1) (suc count) (λ some. omega (arith, most)))

  pub starts_rise : (labels : List ℤ) → AreInstants labels → rises (period_starts period labels) ≡ true
  starts_rise labels h =
      let r = run labels h in
      ap (λ ns. rises (map (period_start period) ns)) r.is ∙ run_rises r.first r.count r.fits

  pub starts_between : (labels : List ℤ) → AreInstants labels → AreInstants (period_starts period labels)
  starts_between labels h =
      list_all-map (λ l. int_le first_instant l && int_le l last_instant) (period_start period) (period_numbers period labels)
      ∙ numbers_all (λ number. int_le first_instant (period_start period number) && int_le (period_start period number) last_instant) labels h
      (λ number few. of_instant (period_start period number) (part_time.valid period number few))

  pub few_numbers : (labels : List ℤ) → AreInstants labels → length (period_numbers period labels) ≤ periods_in_all period
  few_numbers labels h =
      let r = run labels h in
      let count : length (period_numbers period labels) ≡ r.count = ap length r.is ∙ length-range_with_len r.first r.count in
      omega (arith, count, r.least)

  -- ---- as intervals

  labels_are : (numbers : List ℕ) → map (λ (i : Interval). i.label) (map (period_interval period) numbers) ≡ map (period_start period) numbers
  labels_are [] = refl
  labels_are (number ∷ numbers) = ap (λ ls. period_start period number ∷ ls) (labels_are numbers)

  not_last : (number : ℕ) → number < periods_in_all period → (number + 1 == periods_in_all period) ≡ false → number + 1 < periods_in_all period
  not_last number few other = by (nat_lt (number + 1) (periods_in_all period)) refl
    where
      by : (b : Bool) → nat_lt (number + 1) (periods_in_all period) ≡ b → number + 1 < periods_in_all period
      by true g = ltb-true _ _ g
      by false g =
          let same : number + 1 ≡ periods_in_all period = omega (arith, few, ltb-false (number + 1) (periods_in_all period) g) in
          absurd (true≢false (sym (eq-eqb (number + 1) (periods_in_all period) same) ∙ other))

  -- no period is empty
  end_later : (number : ℕ) → number < periods_in_all period → is_empty_extent (period_interval period number).extent ≡ false
  end_later number few = by (number + 1 == periods_in_all period) refl
    where
      by : (b : Bool) → (number + 1 == periods_in_all period) ≡ b → is_empty_extent (period_interval period number).extent ≡ false
      by true e = rw e refl
      by false e = rw e (not_le (period_start period number) (period_start period (number + 1)) (next_later number (not_last number few e)))

  none_empty : (numbers : List ℕ) → list_all (λ number. nat_lt number (periods_in_all period)) numbers ≡ true
      → All (λ (i : Interval). is_empty_extent i.extent ≡ false) (map (period_interval period) numbers)
  none_empty [] within = All-nil (λ (i : Interval). is_empty_extent i.extent ≡ false)
  none_empty (number ∷ numbers) within =
      All-cons (λ (i : Interval). is_empty_extent i.extent ≡ false) (period_interval period number) (map (period_interval period) numbers)
      (end_later number (ltb-true _ _ (left_of (nat_lt number (periods_in_all period)) _ within)))
      (none_empty numbers (right_of (nat_lt number (periods_in_all period)) _ within))

-- labels in order are the labels
sorted_rising : (labels : List ℤ) → rises labels ≡ true → sorted_labels is_below labels ≡ labels
sorted_rising [] h = refl
sorted_rising (a ∷ []) h = refl
sorted_rising (a ∷ b ∷ labels) h =
    let next : is_below a b ≡ true = left_of (int_lt a b) _ h in
    ap (insert_label is_below a) (sorted_rising (b ∷ labels) (right_of (int_lt a b) _ h)) ∙ rw next refl

pub period_shape_is : (period : Period) (d : Dimensions) → IsShape d → shape_of_aggregation (period_intervals period (number_labels d Time)) d ≡ period_shape period d
period_shape_is period d v =
    let labels = number_labels d Time in
    ap (λ ls. record d { t = Some (sorted_labels is_below ls) }) (labels_are period (period_numbers period labels))
    ∙ ap (λ ls. record d { t = Some ls }) (sorted_rising (period_starts period labels) (starts_rise period labels (instants_of_shape d v)))

pub period_labels : (period : Period) (d : Dimensions) → IsShape d → AreIntervalLabels (labels_of (period_intervals period (number_labels d Time)))
period_labels period d v =
    let labels = number_labels d Time in
    let instants = instants_of_shape d v in
    let same = sym (labels_are period (period_numbers period labels)) in
    record {
      differ = subst (λ ls. are_distinct same_number ls ≡ true) same
          (ordered_differ is_below below_is_order (period_starts period labels) (rises_stand (period_starts period labels) (starts_rise period labels instants)));
      in_range = subst AreInstants same (starts_between period labels instants);
    }

most_periods : (period : Period) → periods_in_all period ≤ 3652059
most_periods Day = omega arith
most_periods Month = omega arith
most_periods Year = omega arith

pub stand_as_intervals : (period : Period) (d : Dimensions) → IsShape d → AreIntervals (period_intervals period (number_labels d Time))
stand_as_intervals period d v =
    let labels = number_labels d Time in
    let instants = instants_of_shape d v in
    let numbers = period_numbers period labels in
    let count = length-map numbers (period_interval period) in
    record {
      not_empty = none_empty period numbers (numbers_all period (λ k. nat_lt k (periods_in_all period)) labels instants (λ k few. lt-ltb k (periods_in_all period) few));
      few = omega (arith, count, few_numbers period labels instants, most_periods period);
    }

-- ---- as the code has them

pub shape_instants : (d : Dimensions) → IsShape d → All IsInstant (number_labels d Time)
shape_instants d v = by (number_labels d Time) (instants_of_shape d v)
  where
    by : (labels : List ℤ) → AreInstants labels → All IsInstant labels
    by [] h = All-nil IsInstant
    by (l ∷ labels) h =
        All-cons IsInstant l labels (instant_of l (left_of (int_le first_instant l && int_le l last_instant) _ h))
        (by labels (right_of (int_le first_instant l && int_le l last_instant) _ h))

-- one number more
last_number : {X : Type 0} (f : ℕ → X) (first count : ℕ) → map f (range_with_len first (suc count)) ≡ map f (range_with_len first count) ++ f (first + count) ∷ []
last_number f first zero = let same : first ≡ first + 0 = omega arith in ap (λ k. f k ∷ []) same
last_number f first (suc count) =
    let same : first + 1 + count ≡ first + suc count = omega arith in
    ap (λ xs. f first ∷ xs) (last_number f (first + 1) count ∙ ap (λ k. map f (range_with_len (first + 1) count) ++ f k ∷ []) same)

pub one_more : {X : Type 0} (f : ℕ → X) (first count : ℕ) → map f (range_with_len first (count + 1)) ≡ map f (range_with_len first count) ++ f (first + count) ∷ []
one_more f first count = let next : count + 1 ≡ suc count = omega arith in ap (λ k. map f (range_with_len first k)) next ∙ last_number f first count

pub intervals_are : (period : Period) (labels : List ℤ) (s : Series) → ArePeriodsOf period labels s
    → map (period_interval s.period) (range_with_len s.first s.count) ≡ period_intervals period labels
intervals_are period labels s are =
    ap (λ (p : Period). map (period_interval p) (range_with_len s.first s.count)) are.same_period ∙ ap (map (period_interval period)) are.numbers

pub starts_are : (period : Period) (labels : List ℤ) (s : Series) → ArePeriodsOf period labels s
    → map (period_start s.period) (range_with_len s.first s.count) ≡ period_starts period labels
starts_are period labels s are =
    ap (λ (p : Period). map (period_start p) (range_with_len s.first s.count)) are.same_period ∙ ap (map (period_start period)) are.numbers

-- so many periods are too many labels
is_many : (n : ℕ) → most_labels < n → nat_le n most_labels ≡ false
is_many n h = grind arith

pub too_many : (period : Period) (d : Dimensions) (s : Series) → ArePeriodsOf period (number_labels d Time) s → most_labels < s.count
    → is_within_limits (period_shape period d) ≡ false
too_many period d s are many =
    let starts = period_starts period (number_labels d Time) in
    let counted : length starts ≡ s.count =
    sym (ap length (starts_are period (number_labels d Time) s are)) ∙ (length-map (range_with_len s.first s.count) (period_start s.period) ∙ length-range_with_len s.first s.count) in
    let past : nat_le (length starts) most_labels ≡ false = is_many (length starts) (omega (arith, counted, many)) in
    rw past refl

-- ---- a period as an interval has the labels of the period

none_behind : (period : Period) (number : ℕ) → period_end period number ≡ None → number + 1 ≡ periods_in_all period
none_behind period number h = by (number + 1 == periods_in_all period) refl
  where
    by : (b : Bool) → (number + 1 == periods_in_all period) ≡ b → number + 1 ≡ periods_in_all period
    by true e = eqb-true _ _ e
    by false e =
        let some : Some (period_start period (number + 1)) ≡ None = rw e at h in
        absurd cc

ended_by : (end : Option ℤ) (label : ℤ) (m n : ℕ) → IfSome end (λ at. (label <ℤ at) ↔ (m ≤ n)) → (end ≡ None → m ≤ n)
    → option_map_or (λ at. int_lt label at) end true ≡ nat_le m n
ended_by None label m n h none = sym (le-leb m n (none refl))
ended_by (Some end) label m n h none = same_lt label end m n h

in_period : (period : Period) (number : ℕ) (label : ℤ) → IsInstant label
    → is_in_time (period_interval period number).extent label ≡ (period_number period label == number)
in_period period number label h =
    let found = period_number period label in
    let begun : int_le (period_start period number) label ≡ nat_le number found =
    same_le (period_start period number) label number found (part_time.begins period number label h) in
    let ended : option_map_or (λ at. int_lt label at) (period_end period number) true ≡ nat_le found number =
    ended_by (period_end period number) label found number (part_time.ends period number label h)
    (λ none. omega (arith, none_behind period number none, part_time.all period label h)) in
    ap (λ b. b && option_map_or (λ at. int_lt label at) (period_end period number) true) begun
    ∙ (ap (λ b. nat_le number found && b) ended ∙ both_le found number)

-- ---- the interval of a label

found_period : (period : Period) (label : ℤ) (numbers : List ℕ) → list_all (λ number. nat_lt number (periods_in_all period)) numbers ≡ true
    → list_any (λ number. same_number (period_start period number) label) numbers ≡ true
    → find (λ (i : Interval). same_number i.label label) (map (period_interval period) numbers) ≡ Some (period_interval period (period_number period label))
found_period period label [] within has = absurd (true≢false (sym has))
found_period period label (number ∷ numbers) within has =
    by (same_number (period_start period number) label) refl
    (λ later. found_period period label numbers (right_of (nat_lt number (periods_in_all period)) _ within) later)
  where
    by : (b : Bool) → same_number (period_start period number) label ≡ b
        → (list_any (λ k. same_number (period_start period k) label) numbers ≡ true
        → find (λ (i : Interval). same_number i.label label) (map (period_interval period) numbers) ≡ Some (period_interval period (period_number period label)))
        → find (λ (i : Interval). same_number i.label label) (map (period_interval period) (number ∷ numbers)) ≡ Some (period_interval period (period_number period label))
    by true e rest =
        let few : number < periods_in_all period = ltb-true _ _ (left_of (nat_lt number (periods_in_all period)) _ within) in
        let here : number ≡ period_number period label =
        sym (part_time.starts period number few) ∙ sym (ap (period_number period) (same_number_is (period_start period number) label e)) in
        rw e (ap (λ k. Some (period_interval period k)) here)
    by false e rest =
        let later : list_any (λ k. same_number (period_start period k) label) numbers ≡ true =
        sym (ap (λ b. b || list_any (λ k. same_number (period_start period k) label) numbers) e) ∙ has in
        rw e (rest later)

or_right : (a b : Bool) → b ≡ true → (a || b) ≡ true
or_right true b h = refl
or_right false b h = h

has_start : (period : Period) (label : ℤ) (numbers : List ℕ) (k : ℕ) → k < length (map (period_start period) numbers)
    → slice_index_or (map (period_start period) numbers) k label ≡ label
    → list_any (λ number. same_number (period_start period number) label) numbers ≡ true
has_start period label [] k below is = absurd (omega (arith, below))
has_start period label (number ∷ numbers) zero below is =
    let same : same_number (period_start period number) label ≡ true =
    subst (λ l. same_number l label ≡ true) (sym is) (same_number_refl label) in
    rw same refl
has_start period label (number ∷ numbers) (suc k) below is =
    or_right (same_number (period_start period number) label) _ (has_start period label numbers k (omega (arith, below)) is)

labels_same : (period : Period) (d : Dimensions) → AreInstants (number_labels d Time) → (t : Option ℤ)
    → IsLabelOf (Some (period_starts period (number_labels d Time))) t
    → instants_inside d (extent_labelled (period_intervals period (number_labels d Time)) t) ≡ labels_in_period period d t
labels_same period d instants None there = absurd there
labels_same period d instants (Some label) there =
    let labels = number_labels d Time in
    let numbers = period_numbers period labels in
    let within = numbers_all period (λ k. nat_lt k (periods_in_all period)) labels instants (λ k few. lt-ltb k (periods_in_all period) few) in
    let found = found_period period label numbers within (has_start period label numbers there.0 there.1 there.2) in
    ap (λ o. instants_inside d (option_map_or (λ (i : Interval). Some i.extent) o None)) found
    ∙ filter_same (is_in_time (period_interval period (period_number period label)).extent)
    (λ other. period_number period other == period_number period label)
    (λ l is. in_period period (period_number period label) l is) labels instants

-- ---- the cube

pub map_same : {X Y : Type 0} (f g : X → Y) (xs : List X) → ((k : ℕ) (x : X) → slice_get xs k ≡ Some x → f x ≡ g x) → map f xs ≡ map g xs
map_same f g [] same = refl
map_same f g (x ∷ xs) same =
    ap (λ y. y ∷ map f xs) (same 0 x refl) ∙ ap (λ ys. g x ∷ ys) (map_same f g xs (λ k y e. same (suc k) y e))

by_periods : (period : Period) (c : Callback) (cube : Cube Cell) → IsShape cube.shape
    → aggregated (period_intervals period (number_labels cube.shape Time)) c cube ≡ by_period period c cube
by_periods period c cube v =
    let d = cube.shape in
    let intervals = period_intervals period (number_labels d Time) in
    let value : Tuple → List ℤ → Cell = λ tuple labels. value_on_list c (plain_instants labels) (cells_at cube tuple labels) in
    ap (λ shape. tabulate shape (λ tuple. value tuple (instants_inside d (extent_labelled intervals tuple.t)))) (period_shape_is period d v)
    ∙ ap (λ cells. record { shape = period_shape period d; cells = cells })
    (map_same (λ tuple. value tuple (instants_inside d (extent_labelled intervals tuple.t))) (λ tuple. value tuple (labels_in_period period d tuple.t))
    (tuples (period_shape period d))
    (λ k tuple e. ap (value tuple) (labels_same period d (instants_of_shape d v) tuple.t (IsTuple-from_get (period_shape period d) k tuple e).t)))

pub aggregate_by_periods : AggregateByPeriods
aggregate_by_periods = record { each = by_periods }
