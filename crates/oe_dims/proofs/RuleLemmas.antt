-- What the tests of a shape say of its labels, and that the fault of a shape is the first that stands.
use Rattle.std.proofs.Common.{◌≡◌, ℕ, zero, suc, ◌+◌, ◌<◌, ◌≤◌, nat_le, Bool, true, false, ◌&&◌, List, [], ◌∷◌, get_or, slice_get, refl, sym, ap, ◌∙◌, subst, arith, Option, Some, None, IfSome, unwrap_or, cond, pos, neg_ℤ, ℤ, ◌<ℤ◌, ◌≤ℤ◌, ◌⊎◌, inl, inr}
use Rattle.std.specs.Int.Signed.{le_z}
use Rattle.std.specs.List.{list_any, list_all}
use Rattle.std.specs.Option.{option_map_or}
use Rattle.std.proofs.lemmas.Bool.{and_parts, and_from, cases_Bool, false≢true, leb-true, le-leb, not-true, or_parts}
use Rattle.std.proofs.lemmas.Int.{ints}
use Rattle.std.proofs.lemmas.Option.{same_Some, slice_get_within, get_or_from_slice_get}
use Rattle.oe_dims.specs.Names.{same_name, is_name}
use Rattle.oe_dims.specs.Dimensions.{Dimensions, IsShape, rises, falls, all_differ, all_between, of_labels, is_ordered, is_in_range, is_within_limit, has_fitting_epsg, first_instant, last_instant, farthest_coordinate, label_count, cell_count, most_labels, most_cells}
use Rattle.oe_dims.specs.Dimensions.{shape_fault, order_fault, range_fault, limit_fault, epsg_fault, cells_fault, first_failing, all_kinds, or_else}
use Rattle.oe_dims.specs.Rules.{IsRising, IsFalling, IsWithoutTwice, IsBetween, AreNames, KeepsRule, kind_rank, fault_rank, IsFirstFault, KeepsEveryRule}
use Rattle.oe_dims.specs.declared.kind.Kind.{Kind}
use Rattle.oe_dims.specs.declared.kind.Kind.TheVariants.{Time, Bands, Y, X}
use Rattle.oe_dims.specs.declared.shape.ShapeFault.{ShapeFault}
use Rattle.oe_dims.specs.declared.shape.ShapeFault.TheVariants.{OrderWrong, OutOfRange, TooMany, EpsgWrong, TooManyCells}
use Rattle.oe_dims.proofs.ListsLemmas.{each_passes}
use Rattle.oe_dims.proofs.ShapeLemmas.{labels_pass, no_fault, is_ordered_kind, is_in_range_kind, is_within_limit_kind, fitting_epsg, cell_count_within}
use Rattle.oe_dims.proofs.OrderLemmas.{same_name_is, same_name_refl}
use Rattle.oe_dims.proofs.IndexLemmas.{from_lt, rises_lt, falls_lt}

-- ---- labels in order, said of neighbours and of any two

pub IsRising-rises : (labels : List ℤ) → rises labels ≡ true → IsRising labels
IsRising-rises labels h i j a b lt ea eb =
    let within = slice_get_within labels j b eb in
    let at_i = get_or_from_slice_get labels i a a ea in
    let at_j = get_or_from_slice_get labels j b a eb in
    subst (λ v. v <ℤ b) at_i (subst (λ v. get_or labels i a <ℤ v) at_j (rises_lt labels i j a h lt within))

pub rises-IsRising : (labels : List ℤ) → IsRising labels → rises labels ≡ true
rises-IsRising [] h = refl
rises-IsRising (a ∷ []) h = refl
rises-IsRising (a ∷ b ∷ labels) h =
    and_from _ _ (from_lt a b (h 0 1 a b (omega arith) refl refl))
    (rises-IsRising (b ∷ labels) (λ i j c e lt ec ee. h (suc i) (suc j) c e (omega arith) ec ee))

pub IsFalling-falls : (labels : List ℤ) → falls labels ≡ true → IsFalling labels
IsFalling-falls labels h i j a b lt ea eb =
    let within = slice_get_within labels j b eb in
    let at_i = get_or_from_slice_get labels i a a ea in
    let at_j = get_or_from_slice_get labels j b a eb in
    subst (λ v. b <ℤ v) at_i (subst (λ v. v <ℤ get_or labels i a) at_j (falls_lt labels i j a h lt within))

pub falls-IsFalling : (labels : List ℤ) → IsFalling labels → falls labels ≡ true
falls-IsFalling [] h = refl
falls-IsFalling (a ∷ []) h = refl
falls-IsFalling (a ∷ b ∷ labels) h =
    and_from _ _ (from_lt b a (h 0 1 a b (omega arith) refl refl))
    (falls-IsFalling (b ∷ labels) (λ i j c e lt ec ee. h (suc i) (suc j) c e (omega arith) ec ee))

-- ---- names that differ

none_the_same : (name : List ℕ) (names : List (List ℕ)) (k : ℕ) (other : List ℕ) → list_any (same_name name) names ≡ false → slice_get names k ≡ Some other → name ≡ other → ⊥
none_the_same name [] k other h e same = cc
none_the_same name (a ∷ names) zero other h e same =
    let here : a ≡ other = same_Some a other e in
    false≢true (sym (or_parts _ _ h).0 ∙ ap (same_name name) (here ∙ sym same) ∙ same_name_refl name)
none_the_same name (a ∷ names) (suc k) other h e same = none_the_same name names k other (or_parts _ _ h).1 e same

pub IsWithoutTwice-all_differ : (names : List (List ℕ)) → all_differ names ≡ true → IsWithoutTwice names
IsWithoutTwice-all_differ [] h i j name ei ej = cc
IsWithoutTwice-all_differ (a ∷ names) h zero zero name ei ej = refl
IsWithoutTwice-all_differ (a ∷ names) h zero (suc j) name ei ej =
    absurd (none_the_same a names j name (not-true _ (and_parts _ _ h).0) ej (same_Some a name ei))
IsWithoutTwice-all_differ (a ∷ names) h (suc i) zero name ei ej =
    absurd (none_the_same a names i name (not-true _ (and_parts _ _ h).0) ei (same_Some a name ej))
IsWithoutTwice-all_differ (a ∷ names) h (suc i) (suc j) name ei ej =
    ap suc (IsWithoutTwice-all_differ names (and_parts _ _ h).1 i j name ei ej)

any_the_same : (name : List ℕ) (names : List (List ℕ)) → list_any (same_name name) names ≡ true → (k : ℕ) × (slice_get names k ≡ Some name)
any_the_same name [] h = absurd (false≢true h)
any_the_same name (a ∷ names) h =
    elim (cases_Bool (same_name name a)) [
      | inl t ↦ (0, ap Some (same_name_is name a t))
      | inr f ↦ let rest = any_the_same name names (rw f at h) in (suc rest.0, rest.1)
    ]

pub all_differ-IsWithoutTwice : (names : List (List ℕ)) → IsWithoutTwice names → all_differ names ≡ true
all_differ-IsWithoutTwice [] h = refl
all_differ-IsWithoutTwice (a ∷ names) h =
    let rest = all_differ-IsWithoutTwice names (λ i j name ei ej. omega (arith, h (suc i) (suc j) name ei ej)) in
    elim (cases_Bool (list_any (same_name a) names)) [
      | inl t ↦ let again = any_the_same a names t in absurd (omega (arith, h 0 (suc again.0) a refl again.1))
      | inr f ↦ rw (f, rest) refl
    ]

-- ---- labels within their ranges

between_from : (low high a : ℤ) → (le_z low a && le_z a high) ≡ true → (low ≤ℤ a) × (a ≤ℤ high)
between_from low high a h = (grind (arith, ints), grind (arith, ints))

from_between : (low high a : ℤ) → low ≤ℤ a → a ≤ℤ high → (le_z low a && le_z a high) ≡ true
from_between low high a h k = grind (arith, ints)

pub IsBetween-all_between : (low high : ℤ) (labels : List ℤ) → all_between low high labels ≡ true → IsBetween low high labels
IsBetween-all_between low high [] h i a e = cc
IsBetween-all_between low high (b ∷ labels) h zero a e =
    subst (λ v. (low ≤ℤ v) × (v ≤ℤ high)) (same_Some b a e) (between_from low high b (and_parts _ _ h).0)
IsBetween-all_between low high (b ∷ labels) h (suc i) a e =
    IsBetween-all_between low high labels (and_parts _ _ h).1 i a e

pub all_between-IsBetween : (low high : ℤ) (labels : List ℤ) → IsBetween low high labels → all_between low high labels ≡ true
all_between-IsBetween low high [] h = refl
all_between-IsBetween low high (b ∷ labels) h =
    let here = h 0 b refl in
    and_from _ _ (from_between low high b here.0 here.1) (all_between-IsBetween low high labels (λ i a e. h (suc i) a e))

pub AreNames-list_all : (names : List (List ℕ)) → list_all is_name names ≡ true → AreNames names
AreNames-list_all [] h i name e = cc
AreNames-list_all (a ∷ names) h zero name e = subst (λ v. is_name v ≡ true) (same_Some a name e) (and_parts _ _ h).0
AreNames-list_all (a ∷ names) h (suc i) name e = AreNames-list_all names (and_parts _ _ h).1 i name e

pub list_all-AreNames : (names : List (List ℕ)) → AreNames names → list_all is_name names ≡ true
list_all-AreNames [] h = refl
list_all-AreNames (a ∷ names) h =
    and_from _ _ (h 0 a refl) (list_all-AreNames names (λ i name e. h (suc i) name e))

-- ---- each test of a shape decides its rule

passes_labels : {L : Type 0} (test : List L → Bool) (labels : Option (List L)) → test (unwrap_or labels []) ≡ true → of_labels test labels ≡ true
passes_labels test None h = refl
passes_labels test (Some labels) h = h

pub order_kept : (d : Dimensions) (kind : Kind) → is_ordered d kind ≡ true → KeepsRule d (OrderWrong kind)
order_kept d Time h = IsRising-rises _ (labels_pass rises d.t refl h)
order_kept d Bands h = IsWithoutTwice-all_differ _ (labels_pass all_differ d.bands refl h)
order_kept d Y h = IsFalling-falls _ (labels_pass falls d.y refl h)
order_kept d X h = IsRising-rises _ (labels_pass rises d.x refl h)

order_passes : (d : Dimensions) (kind : Kind) → KeepsRule d (OrderWrong kind) → is_ordered d kind ≡ true
order_passes d Time h = passes_labels rises d.t (rises-IsRising _ h)
order_passes d Bands h = passes_labels all_differ d.bands (all_differ-IsWithoutTwice _ h)
order_passes d Y h = passes_labels falls d.y (falls-IsFalling _ h)
order_passes d X h = passes_labels rises d.x (rises-IsRising _ h)

pub range_kept : (d : Dimensions) (kind : Kind) → is_in_range d kind ≡ true → KeepsRule d (OutOfRange kind)
range_kept d Time h = IsBetween-all_between _ _ _ (labels_pass (all_between first_instant last_instant) d.t refl h)
range_kept d Bands h = AreNames-list_all _ (labels_pass (list_all is_name) d.bands refl h)
range_kept d Y h = IsBetween-all_between _ _ _ (labels_pass (all_between (neg_ℤ (pos farthest_coordinate)) (pos farthest_coordinate)) d.y refl h)
range_kept d X h = IsBetween-all_between _ _ _ (labels_pass (all_between (neg_ℤ (pos farthest_coordinate)) (pos farthest_coordinate)) d.x refl h)

range_passes : (d : Dimensions) (kind : Kind) → KeepsRule d (OutOfRange kind) → is_in_range d kind ≡ true
range_passes d Time h = passes_labels (all_between first_instant last_instant) d.t (all_between-IsBetween _ _ _ h)
range_passes d Bands h = passes_labels (list_all is_name) d.bands (list_all-AreNames _ h)
range_passes d Y h = passes_labels (all_between (neg_ℤ (pos farthest_coordinate)) (pos farthest_coordinate)) d.y (all_between-IsBetween _ _ _ h)
range_passes d X h = passes_labels (all_between (neg_ℤ (pos farthest_coordinate)) (pos farthest_coordinate)) d.x (all_between-IsBetween _ _ _ h)

limit_of : (count : Option ℕ) → option_map_or (λ n. nat_le n most_labels) count true ≡ true → IfSome count (λ n. n ≤ most_labels)
limit_of None h = tt
limit_of (Some n) h = leb-true n most_labels h

of_limit : (count : Option ℕ) → IfSome count (λ n. n ≤ most_labels) → option_map_or (λ n. nat_le n most_labels) count true ≡ true
of_limit None h = refl
of_limit (Some n) h = le-leb n most_labels h

-- ---- the fault that is found is the first that stands

-- a dimension fails the test, and those before it pass
record StopsAt (test : Kind → Bool) (fault : Kind → ShapeFault) (found : ShapeFault) : Type 0 where
  kind : Kind
  is : fault kind ≡ found
  fails : test kind ≡ false
  before : (other : Kind) → kind_rank other < kind_rank kind → test other ≡ true

before_bands : (test : Kind → Bool) → test Time ≡ true → (other : Kind) → kind_rank other < 1 → test other ≡ true
before_bands test t Time lt = t
before_bands test t Bands lt = absurd (omega arith)
before_bands test t Y lt = absurd (omega arith)
before_bands test t X lt = absurd (omega arith)

before_y : (test : Kind → Bool) → test Time ≡ true → test Bands ≡ true → (other : Kind) → kind_rank other < 2 → test other ≡ true
before_y test t b Time lt = t
before_y test t b Bands lt = b
before_y test t b Y lt = absurd (omega arith)
before_y test t b X lt = absurd (omega arith)

before_x : (test : Kind → Bool) → test Time ≡ true → test Bands ≡ true → test Y ≡ true → (other : Kind) → kind_rank other < 3 → test other ≡ true
before_x test t b y Time lt = t
before_x test t b y Bands lt = b
before_x test t b y Y lt = y
before_x test t b y X lt = absurd (omega arith)

stops_at : (test : Kind → Bool) (fault : Kind → ShapeFault) (found : ShapeFault) → first_failing test fault all_kinds ≡ Some found → StopsAt test fault found
stops_at test fault found e =
    elim (cases_Bool (test Time)) [
      | inl t ↦ elim (cases_Bool (test Bands)) [
        | inl b ↦ elim (cases_Bool (test Y)) [
          | inl y ↦ elim (cases_Bool (test X)) [
            | inl x ↦ let none : None ≡ Some found = rw (t, b, y, x) at e in cc
            | inr x ↦ let is : fault X ≡ found = same_Some _ _ (rw (t, b, y, x) at e) in
                record { kind = X; is = is; fails = x; before = before_x test t b y }
          ]
          | inr y ↦ let is : fault Y ≡ found = same_Some _ _ (rw (t, b, y) at e) in
              record { kind = Y; is = is; fails = y; before = before_y test t b }
        ]
        | inr b ↦ let is : fault Bands ≡ found = same_Some _ _ (rw (t, b) at e) in
            record { kind = Bands; is = is; fails = b; before = before_bands test t }
      ]
      | inr t ↦ let is : fault Time ≡ found = same_Some _ _ (rw t at e) in
          record { kind = Time; is = is; fails = t; before = λ other lt. absurd (omega arith) }
    ]

either_fault : (first next : Option ShapeFault) (found : ShapeFault) → or_else first next ≡ Some found → (first ≡ Some found) ⊎ ((first ≡ None) × (next ≡ Some found))
either_fault None next found e = inr (refl, e)
either_fault (Some fault) next found e = inl e

kind_rank_below : (kind : Kind) → kind_rank kind < 4
kind_rank_below Time = omega arith
kind_rank_below Bands = omega arith
kind_rank_below Y = omega arith
kind_rank_below X = omega arith

orders_kept : (d : Dimensions) → order_fault d ≡ None → (kind : Kind) → KeepsRule d (OrderWrong kind)
unfolding order_fault
orders_kept d e kind = order_kept d kind (each_passes (is_ordered d) OrderWrong e kind)

ranges_kept : (d : Dimensions) → range_fault d ≡ None → (kind : Kind) → KeepsRule d (OutOfRange kind)
unfolding range_fault
ranges_kept d e kind = range_kept d kind (each_passes (is_in_range d) OutOfRange e kind)

limits_kept : (d : Dimensions) → limit_fault d ≡ None → (kind : Kind) → KeepsRule d (TooMany kind)
unfolding limit_fault
limits_kept d e kind = limit_of (label_count d kind) (each_passes (is_within_limit d) TooMany e kind)

first_order : (d : Dimensions) (found : ShapeFault) → order_fault d ≡ Some found → IsFirstFault d found
unfolding order_fault
first_order d found e =
    let s = stops_at (is_ordered d) OrderWrong found e in
    subst (IsFirstFault d) s.is (record {
      stands = λ keeps. false≢true (sym s.fails ∙ order_passes d s.kind keeps);
      first = λ other lt. first_order_other d s.kind s.before other lt;
    })
  where
    first_order_other : (d : Dimensions) (kind : Kind) → ((other : Kind) → kind_rank other < kind_rank kind → is_ordered d other ≡ true) → (other : ShapeFault) → fault_rank other < kind_rank kind → KeepsRule d other
    first_order_other d kind before (OrderWrong other) lt = order_kept d other (before other lt)
    first_order_other d kind before (OutOfRange other) lt = absurd (omega (arith, kind_rank_below kind))
    first_order_other d kind before (TooMany other) lt = absurd (omega (arith, kind_rank_below kind))
    first_order_other d kind before EpsgWrong lt = absurd (omega (arith, kind_rank_below kind))
    first_order_other d kind before TooManyCells lt = absurd (omega (arith, kind_rank_below kind))

first_range : (d : Dimensions) (found : ShapeFault) → order_fault d ≡ None → range_fault d ≡ Some found → IsFirstFault d found
unfolding range_fault
first_range d found order e =
    let s = stops_at (is_in_range d) OutOfRange found e in
    subst (IsFirstFault d) s.is (record {
      stands = λ keeps. false≢true (sym s.fails ∙ range_passes d s.kind keeps);
      first = λ other lt. first_range_other d s.kind order s.before other lt;
    })
  where
    first_range_other : (d : Dimensions) (kind : Kind) → order_fault d ≡ None → ((other : Kind) → kind_rank other < kind_rank kind → is_in_range d other ≡ true) → (other : ShapeFault) → fault_rank other < 4 + kind_rank kind → KeepsRule d other
    first_range_other d kind order before (OrderWrong other) lt = orders_kept d order other
    first_range_other d kind order before (OutOfRange other) lt = range_kept d other (before other (omega arith))
    first_range_other d kind order before (TooMany other) lt = absurd (omega (arith, kind_rank_below kind))
    first_range_other d kind order before EpsgWrong lt = absurd (omega (arith, kind_rank_below kind))
    first_range_other d kind order before TooManyCells lt = absurd (omega (arith, kind_rank_below kind))

first_limit : (d : Dimensions) (found : ShapeFault) → order_fault d ≡ None → range_fault d ≡ None → limit_fault d ≡ Some found → IsFirstFault d found
unfolding limit_fault
first_limit d found order range e =
    let s = stops_at (is_within_limit d) TooMany found e in
    subst (IsFirstFault d) s.is (record {
      stands = λ keeps. false≢true (sym s.fails ∙ of_limit (label_count d s.kind) keeps);
      first = λ other lt. first_limit_other d s.kind order range s.before other lt;
    })
  where
    first_limit_other : (d : Dimensions) (kind : Kind) → order_fault d ≡ None → range_fault d ≡ None → ((other : Kind) → kind_rank other < kind_rank kind → is_within_limit d other ≡ true) → (other : ShapeFault) → fault_rank other < 8 + kind_rank kind → KeepsRule d other
    first_limit_other d kind order range before (OrderWrong other) lt = orders_kept d order other
    first_limit_other d kind order range before (OutOfRange other) lt = ranges_kept d range other
    first_limit_other d kind order range before (TooMany other) lt = limit_of (label_count d other) (before other (omega arith))
    first_limit_other d kind order range before EpsgWrong lt = absurd (omega (arith, kind_rank_below kind))
    first_limit_other d kind order range before TooManyCells lt = absurd (omega (arith, kind_rank_below kind))

one_fault : (b : Bool) (fault found : ShapeFault) → cond b None (Some fault) ≡ Some found → (b ≡ false) × (fault ≡ found)
one_fault true fault found e = cc
one_fault false fault found e = (refl, same_Some fault found e)

first_epsg : (d : Dimensions) (found : ShapeFault) → order_fault d ≡ None → range_fault d ≡ None → limit_fault d ≡ None → epsg_fault d ≡ Some found → IsFirstFault d found
unfolding epsg_fault
first_epsg d found order range limit e =
    let wrong = one_fault (has_fitting_epsg d) EpsgWrong found e in
    subst (IsFirstFault d) wrong.1 (record {
      stands = λ keeps. false≢true (sym wrong.0 ∙ keeps);
      first = first_epsg_other d order range limit;
    })
  where
    first_epsg_other : (d : Dimensions) → order_fault d ≡ None → range_fault d ≡ None → limit_fault d ≡ None → (other : ShapeFault) → fault_rank other < 12 → KeepsRule d other
    first_epsg_other d order range limit (OrderWrong other) lt = orders_kept d order other
    first_epsg_other d order range limit (OutOfRange other) lt = ranges_kept d range other
    first_epsg_other d order range limit (TooMany other) lt = limits_kept d limit other
    first_epsg_other d order range limit EpsgWrong lt = absurd (omega arith)
    first_epsg_other d order range limit TooManyCells lt = absurd (omega arith)

first_cells : (d : Dimensions) (found : ShapeFault) → order_fault d ≡ None → range_fault d ≡ None → limit_fault d ≡ None → epsg_fault d ≡ None → cells_fault d ≡ Some found → IsFirstFault d found
unfolding cells_fault epsg_fault
first_cells d found order range limit epsg e =
    let wrong = one_fault (nat_le (cell_count d) most_cells) TooManyCells found e in
    subst (IsFirstFault d) wrong.1 (record {
      stands = λ keeps. false≢true (sym wrong.0 ∙ le-leb (cell_count d) most_cells keeps);
      first = first_cells_other d order range limit (no_fault (has_fitting_epsg d) EpsgWrong epsg);
    })
  where
    first_cells_other : (d : Dimensions) → order_fault d ≡ None → range_fault d ≡ None → limit_fault d ≡ None → has_fitting_epsg d ≡ true → (other : ShapeFault) → fault_rank other < 13 → KeepsRule d other
    first_cells_other d order range limit epsg (OrderWrong other) lt = orders_kept d order other
    first_cells_other d order range limit epsg (OutOfRange other) lt = ranges_kept d range other
    first_cells_other d order range limit epsg (TooMany other) lt = limits_kept d limit other
    first_cells_other d order range limit epsg EpsgWrong lt = epsg
    first_cells_other d order range limit epsg TooManyCells lt = absurd (omega arith)

-- the fault of dimensions is the first that stands
pub IsFirstFault-shape_fault : (d : Dimensions) (found : ShapeFault) → shape_fault d ≡ Some found → IsFirstFault d found
unfolding shape_fault
IsFirstFault-shape_fault d found e =
    elim (either_fault (order_fault d) _ found e) [
      | inl order ↦ first_order d found order
      | inr order ↦ elim (either_fault (range_fault d) _ found order.1) [
        | inl range ↦ first_range d found order.0 range
        | inr range ↦ elim (either_fault (limit_fault d) _ found range.1) [
          | inl limit ↦ first_limit d found order.0 range.0 limit
          | inr limit ↦ elim (either_fault (epsg_fault d) _ found limit.1) [
            | inl epsg ↦ first_epsg d found order.0 range.0 limit.0 epsg
            | inr epsg ↦ first_cells d found order.0 range.0 limit.0 epsg.0 epsg.1
          ]
        ]
      ]
    ]

-- and a shape is what keeps every rule
pub KeepsEveryRule-IsShape : (d : Dimensions) → IsShape d → KeepsEveryRule d
KeepsEveryRule-IsShape d h (OrderWrong kind) = order_kept d kind (is_ordered_kind d h kind)
KeepsEveryRule-IsShape d h (OutOfRange kind) = range_kept d kind (is_in_range_kind d h kind)
KeepsEveryRule-IsShape d h (TooMany kind) = limit_of (label_count d kind) (is_within_limit_kind d h kind)
KeepsEveryRule-IsShape d h EpsgWrong = fitting_epsg d h
KeepsEveryRule-IsShape d h TooManyCells = cell_count_within d h

pub IsShape-KeepsEveryRule : (d : Dimensions) → KeepsEveryRule d → IsShape d
IsShape-KeepsEveryRule d h = none_stands (shape_fault d) refl
  where
    none_stands : (found : Option ShapeFault) → shape_fault d ≡ found → found ≡ None
    none_stands None e = refl
    none_stands (Some fault) e = absurd ((IsFirstFault-shape_fault d fault e).stands (h fault))
