-- Intervals that can be written: all their instants are of the years 1 to 9999.
use Rattle.std.proofs.Common.{◌≡◌, ℕ, zero, suc, ◌+◌, ◌-◌, ◌<◌, ◌≤◌, ◌==◌, nat_lt, Bool, true, false, List, [], ◌∷◌, map, refl, sym, ap, ◌∙◌, arith, Option, Some, None, ℤ, slice_get, slice_index_or, pos, drop, length, ◌++◌, append_assoc, drop-cons, add-one, true≢false, ltb-true, ltb-false, eq-eqb}
use Rattle.std.specs.Prelude.{IfSome, All, codes}
use Rattle.std.specs.List.{AllByRecursion, range_with_len}
use Rattle.std.specs.Option.{option_map_or}
use Rattle.std.proofs.lemmas.List.{append-nil, drop_all}
use Rattle.std.proofs.lemmas.List.Elements.{All-nil, All-cons, recursion_from_All}
use Rattle.oe_dims.specs.Instant.{IsInstant}
use Rattle.oe_dims.specs.declared.dims.DimsRow.{DimsRow}
use Rattle.oe_graph.specs.Tree.{Nodes, PlainNode}
use Rattle.oe_expr.specs.Requests.{read}
use Rattle.oe_periods.specs.Calendar.{period_number, period_end, periods_in_all}
use Rattle.oe_periods.specs.Periods.{last_of}
use Rattle.oe_periods.specs.declared.calendar.Period.{Period}
use Rattle.oe_periods.proofs.PartLemmas.{part_time}
use Rattle.oe_requests.specs.Periods.{period_interval, period_intervals}
use Rattle.oe_requests.specs.declared.extent.Interval.{Interval}
use Rattle.oe_requests.specs.Parameters.{extent_from, labelled_interval, period_in}
use Rattle.oe_translate.specs.Translated.{labels_at, periods_at}
use Rattle.oe_translate.specs.Written.{IsWritable, growing_intervals, intervals_from, interval_up_to}

-- ---- periods

module _ (period : Period) where
  end_writable : (number : ℕ) → number < periods_in_all period → IfSome (period_end period number) IsInstant
  end_writable number few = by (number + 1 == periods_in_all period) refl
    where
      next : (number + 1 == periods_in_all period) ≡ false → (b : Bool) → nat_lt (number + 1) (periods_in_all period) ≡ b → number + 1 < periods_in_all period
      next other true g = ltb-true _ _ g
      next other false g =
          let same : number + 1 ≡ periods_in_all period = omega (arith, few, ltb-false (number + 1) (periods_in_all period) g) in
          absurd (true≢false (sym (eq-eqb (number + 1) (periods_in_all period) same) ∙ other))

      by : (b : Bool) → (number + 1 == periods_in_all period) ≡ b → IfSome (period_end period number) IsInstant
      by true e = rw e tt
      by false e = rw e (part_time.valid period (number + 1) (next e (nat_lt (number + 1) (periods_in_all period)) refl))

  period_writable : (number : ℕ) → number < periods_in_all period → IsWritable (period_interval period number)
  period_writable number few = record {
    limited = refl;
    start = part_time.valid period number few;
    end = end_writable number few;
    label = part_time.valid period number few;
  }

  range_writable : (first count : ℕ) → (0 < count → first + count ≤ periods_in_all period)
      → All IsWritable (map (period_interval period) (range_with_len first count))
  range_writable first zero fits = All-nil IsWritable
  range_writable first (suc count) fits =
      let most : first + suc count ≤ periods_in_all period = fits (omega arith) in
      All-cons IsWritable (period_interval period first) (map (period_interval period) (range_with_len (first + 1) count))
      (period_writable first (omega (arith, most))) (range_writable (first + 1) count (λ some. omega (arith, most)))

  last_instant_of : (l : ℤ) (labels : List ℤ) → AllByRecursion IsInstant (l ∷ labels) → IsInstant (last_of l labels)
  last_instant_of l [] h = h.0
  last_instant_of l (next ∷ labels) h = last_instant_of next labels h.1

  by_labels : (labels : List ℤ) → AllByRecursion IsInstant labels → All IsWritable (period_intervals period labels)
  by_labels [] h = All-nil IsWritable
  by_labels (l ∷ labels) h =
      let last = period_number period (last_of l labels) in
      let few : last < periods_in_all period = part_time.all period (last_of l labels) (last_instant_of l labels h) in
      range_writable (period_number period l) (last + 1 - period_number period l) (λ some. omega (arith, few, some))

pub periods_writable : (period : Period) (labels : List ℤ) → All IsInstant labels → All IsWritable (period_intervals period labels)
periods_writable period labels h = by_labels period labels (recursion_from_All IsInstant labels h)

pub periods_at_writable : (rows : List DimsRow) (nodes : Nodes) (n : PlainNode) → All IsInstant (labels_at rows nodes n)
    → All IsWritable (periods_at rows nodes n)
periods_at_writable rows nodes n h = by (read period_in (codes "period") n.arguments)
  where
    by : (o : Option Period) → All IsWritable (option_map_or (λ period. period_intervals period (labels_at rows nodes n)) o [])
    by None = All-nil IsWritable
    by (Some period) = periods_writable period (labels_at rows nodes n) h

-- ---- intervals from the first label on

next_instant : (later : List ℤ) → AllByRecursion IsInstant later → IfSome (slice_get later 0) IsInstant
next_instant [] h = tt
next_instant (label ∷ later) h = h.0

from_writable : (first : ℤ) → IsInstant first → (labels : List ℤ) → AllByRecursion IsInstant labels → All IsWritable (intervals_from first labels)
from_writable first is [] h = All-nil IsWritable
from_writable first is (label ∷ later) h =
    All-cons IsWritable (interval_up_to first label later) (intervals_from first later)
    (record { limited = refl; start = is; end = next_instant later h.1; label = h.0 }) (from_writable first is later h.1)

pub growing_writable : (labels : List ℤ) → All IsInstant labels → All IsWritable (growing_intervals labels)
growing_writable [] h = All-nil IsWritable
growing_writable (label ∷ later) h =
    let each = recursion_from_All IsInstant (label ∷ later) h in from_writable label each.0 (label ∷ later) each

-- ---- as the code writes them, label by label

abbrev first_label : List ℤ → ℤ
first_label labels = slice_index_or labels 0 (pos 0)

pub growing_is : (labels : List ℤ) → intervals_from (first_label labels) labels ≡ growing_intervals labels
growing_is [] = refl
growing_is (label ∷ later) = refl

get_after : (labels : List ℤ) (k : ℕ) → slice_get (drop k labels) 0 ≡ slice_get labels k
get_after [] zero = refl
get_after [] (suc k) = refl
get_after (label ∷ later) zero = refl
get_after (label ∷ later) (suc k) = get_after later k

-- the interval of the label at an index, as the code has it
abbrev interval_at : List ℤ → ℕ → Interval
interval_at labels index =
    labelled_interval (extent_from (Some (first_label labels)) (slice_get labels (index + 1))) (slice_index_or labels index (pos 0))

pub one_interval_more : (labels : List ℤ) (index : ℕ) (items new : List Interval) (i : Interval) → index < length labels
    → new ≡ items ++ i ∷ [] → i ≡ interval_at labels index
    → items ++ intervals_from (first_label labels) (drop index labels) ≡ growing_intervals labels
    → new ++ intervals_from (first_label labels) (drop (index + 1) labels) ≡ growing_intervals labels
one_interval_more labels index items new i below pushed is before =
    let later = drop (index + 1) labels in
    let label = slice_index_or labels index (pos 0) in
    let parts : drop index labels ≡ label ∷ later =
    drop-cons labels index (pos 0) below ∙ ap (λ k. label ∷ drop k labels) (sym (add-one index)) in
    let same : interval_up_to (first_label labels) label later ≡ i =
    ap (λ end. labelled_interval (extent_from (Some (first_label labels)) end) label) (get_after labels (index + 1)) ∙ sym is in
    ap (λ xs. xs ++ intervals_from (first_label labels) later) pushed
    ∙ (append_assoc items (i ∷ []) (intervals_from (first_label labels) later)
    ∙ (ap (λ x. items ++ x ∷ intervals_from (first_label labels) later) (sym same)
    ∙ (sym (ap (λ ls. items ++ intervals_from (first_label labels) ls) parts) ∙ before)))

pub all_intervals : (labels : List ℤ) (index : ℕ) (items : List Interval) → length labels ≤ index
    → items ++ intervals_from (first_label labels) (drop index labels) ≡ growing_intervals labels → items ≡ growing_intervals labels
all_intervals labels index items past is =
    sym (append-nil items) ∙ (sym (ap (λ ls. items ++ intervals_from (first_label labels) ls) (drop_all index labels past)) ∙ is)
