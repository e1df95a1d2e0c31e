-- The values of a callback on the lists inside intervals of a cube, at the positions of a window.
use Rattle.std.proofs.Common.{◌≡◌, ◌⊎◌, inl, inr, ℕ, zero, suc, ◌+◌, ◌-◌, ◌<◌, ◌≤◌, ℤ, Bool, true, false, if◌then◌else◌, List, [], ◌∷◌, length, map, drop, get_or, refl, sym, ap, ◌∙◌, subst, arith, true≢false, Option, Some, None, FitsSigned, w64, to_z, of_z}
use Rattle.std.specs.List.{range_with_len, slice_get, slice_index_or, slice_range}
use Rattle.std.specs.Option.{option_map_or}
use Rattle.std.proofs.Math.ListN.{drop_of_length-le}
use Rattle.std.proofs.lemmas.Int.{to_z-of_z}
use Rattle.std.proofs.lemmas.List.{get_or-drop, get_or_default, get_or-take, length-drop, length-map, length-take-le}
use Rattle.std.proofs.lemmas.List.Sums.{count_by-le-length}
use Rattle.std.proofs.lemmas.Option.{same_Some, slice_get-get_or, slice_get_past, slice_get_within, get_or_from_slice_get}
use Rattle.oe_cell.specs.declared.cell.Cell.{Cell}
use Rattle.oe_cell.specs.declared.cell.Cell.TheVariants.{Empty}
use Rattle.oe_dims.specs.Cube.{Cube, IsCube, Tuple}
use Rattle.oe_dims.specs.Dimensions.{Dimensions, IsShape, most_labels, number_labels, rises}
use Rattle.oe_dims.specs.Indices.{same_number}
use Rattle.oe_dims.specs.Plain.{PlainLabels, plain_instants}
use Rattle.oe_dims.specs.Positions.{Position, IsPosition, label_of, tuple_of}
use Rattle.oe_dims.specs.declared.kind.Kind.TheVariants.{Time}
use Rattle.oe_dims.proofs.IndexLemmas.{same_number_refl}
use Rattle.oe_dims.proofs.ShapeLemmas.{numbers_within, t_rises}
use Rattle.oe_expr.specs.Callback.{Callback, callback_value}
use Rattle.oe_expr.specs.Scope.{count_labels, labels_in, list_labels, no_labels}
use Rattle.oe_window.specs.Cells.{cells_on}
use Rattle.oe_window.specs.Windows.{Holds, IsIn, position_count, positions, whole_window}
use Rattle.oe_window.specs.declared.window.Window.{Window}
use Rattle.oe_window.proofs.CellLemmas.{cells_on-tabulate}
use Rattle.oe_window.proofs.WholeLemmas.{position_in}
use Rattle.oe_window.proofs.WindowLemmas.{IsFilled, within_from_holds}
use Rattle.oe_requests.specs.Extents.{has_not_ended, labels_in_time, part_in_time}
use Rattle.oe_requests.specs.Labels.{sorted_labels, is_below, insert_label}
use Rattle.oe_meanings.specs.Meaning.{aggregated, cell, cells_at, extent_labelled, instants_inside, value_on_list}
use Rattle.oe_requests.specs.Operations.{shape_of_aggregation}
use Rattle.oe_requests.specs.declared.extent.Interval.{Interval}
use Rattle.oe_requests.specs.declared.extent.TemporalExtent.{TemporalExtent}
use Rattle.oe_check.proofs.InputLemmas.{find_here, find_over}
use Rattle.oe_meanings.proofs.TimeLemmas.{part_in_time_is}
use Rattle.oe_ops.specs.Lists.{TakesIntervals, TakesList, interval_labelled, list_from, value_of_list, with_index}
use Rattle.oe_ops.specs.Needs.{HasLabelsBeside, HoldsNeed}
use Rattle.oe_ops.specs.Slices.{IsOn, cell_of}
use Rattle.oe_ops.specs.declared.slice.Slice.{Slice}
use Rattle.oe_ops.proofs.ListLemmas.{map-agree}
use Rattle.oe_ops.proofs.NumberLemmas.{are_some}
use Rattle.oe_ops.proofs.ReduceLemmas.{inside, label_there, listed}

-- ---- labels in order are the same labels

abbrev StandsIn : ℤ → List ℤ → Type 0
StandsIn label labels = (j : ℕ) × (slice_get labels j ≡ Some label)

put_there : (label x : ℤ) (ys : List ℤ) (k : ℕ) → slice_get (insert_label is_below x ys) k ≡ Some label → (label ≡ x) ⊎ StandsIn label ys
put_there label x [] zero e = inl cc
put_there label x [] (suc k) e = cc
put_there label x (y ∷ ys) k e = by (is_below x y) k e (put_there label x ys)
  where
    later : (label ≡ x) ⊎ StandsIn label ys → (label ≡ x) ⊎ StandsIn label (y ∷ ys)
    later (inl same) = inl same
    later (inr there) = inr (suc there.0, there.1)

    by : (b : Bool) (k : ℕ) → slice_get (if b then x ∷ y ∷ ys else y ∷ insert_label is_below x ys) k ≡ Some label
        → ((n : ℕ) → slice_get (insert_label is_below x ys) n ≡ Some label → (label ≡ x) ⊎ StandsIn label ys) → (label ≡ x) ⊎ StandsIn label (y ∷ ys)
    by true zero e rest = inl cc
    by true (suc k) e rest = inr (k, e)
    by false zero e rest = inr (0, e)
    by false (suc k) e rest = later (rest k e)

order_there : (label : ℤ) (ys : List ℤ) (k : ℕ) → slice_get (sorted_labels is_below ys) k ≡ Some label → StandsIn label ys
order_there label [] k e = cc
order_there label (y ∷ ys) k e = by (put_there label y (sorted_labels is_below ys) k e) (order_there label ys)
  where
    by : (label ≡ y) ⊎ StandsIn label (sorted_labels is_below ys) → ((n : ℕ) → slice_get (sorted_labels is_below ys) n ≡ Some label → StandsIn label ys) → StandsIn label (y ∷ ys)
    by (inl same) rest = (0, ap Some (sym same))
    by (inr there) rest = let found = rest there.0 there.1 in (suc found.0, found.1)

length-put : (x : ℤ) (ys : List ℤ) → length (insert_label is_below x ys) ≡ suc (length ys)
length-put x [] = refl
length-put x (y ∷ ys) = by (is_below x y) (length-put x ys)
  where
    by : (b : Bool) → length (insert_label is_below x ys) ≡ suc (length ys) → length (if b then x ∷ y ∷ ys else y ∷ insert_label is_below x ys) ≡ suc (suc (length ys))
    by true rest = refl
    by false rest = ap suc rest

length-order : (ys : List ℤ) → length (sorted_labels is_below ys) ≡ length ys
length-order [] = refl
length-order (y ∷ ys) = length-put y (sorted_labels is_below ys) ∙ ap suc (length-order ys)

-- ---- the interval of a label

abbrev label_of_interval : Interval → ℤ
label_of_interval i = i.label

found_labelled : (intervals : List Interval) (label : ℤ) (j : ℕ) → slice_get (map label_of_interval intervals) j ≡ Some label → (i : Interval) × (interval_labelled intervals label ≡ Some i)
found_labelled [] label j e = cc
found_labelled (i ∷ intervals) label j e = by (same_number i.label label) refl j e (found_labelled intervals label)
  where
    by : (b : Bool) → same_number i.label label ≡ b → (j : ℕ) → slice_get (i.label ∷ map label_of_interval intervals) j ≡ Some label
        → ((n : ℕ) → slice_get (map label_of_interval intervals) n ≡ Some label → (k : Interval) × (interval_labelled intervals label ≡ Some k))
        → (k : Interval) × (interval_labelled (i ∷ intervals) label ≡ Some k)
    by true is j e rest = (i, rw is refl)
    by false is zero e rest = absurd (true≢false (sym (subst (λ l. same_number i.label l ≡ true) (same_Some _ _ e) (same_number_refl i.label)) ∙ is))
    by false is (suc j) e rest = let found = rest j e in (found.0, rw is found.1)

-- a search along the intervals
pub labelled_here : (intervals : List Interval) (label : ℤ) (n : ℕ) (d : Interval) → n < length intervals → same_number (get_or intervals n d).label label ≡ true → interval_labelled intervals label ≡ interval_labelled (drop n intervals) label → slice_get intervals n ≡ interval_labelled intervals label
labelled_here intervals label n d below test before =
    let i = get_or intervals n d in
    let is : i ≡ get_or intervals n i = get_or_default intervals n d i below in
    slice_get-get_or intervals n d below
    ∙ sym (before ∙ find_here (λ (j : Interval). same_number j.label label) intervals n i below is test)

pub labelled_over : (intervals : List Interval) (label : ℤ) (n : ℕ) (d : Interval) → n < length intervals → same_number (get_or intervals n d).label label ≡ false → interval_labelled intervals label ≡ interval_labelled (drop n intervals) label → interval_labelled intervals label ≡ interval_labelled (drop (n + 1) intervals) label
labelled_over intervals label n d below test before =
    let i = get_or intervals n d in
    let is : i ≡ get_or intervals n i = get_or_default intervals n d i below in
    before ∙ find_over (λ (j : Interval). same_number j.label label) intervals n i below is test

pub labelled_past : (intervals : List Interval) (label : ℤ) (n : ℕ) → length intervals ≤ n → interval_labelled intervals label ≡ interval_labelled (drop n intervals) label → slice_get intervals (length intervals) ≡ interval_labelled intervals label
labelled_past intervals label n past before =
    let none : drop n intervals ≡ [] = drop_of_length-le intervals past in
    slice_get_past intervals (length intervals) (omega arith) ∙ sym (before ∙ ap (λ (l : List Interval). interval_labelled l label) none)

-- the first interval with a label has a number
pub record IsLabelledAt (intervals : List Interval) (label : ℤ) (number : ℕ) : Type 0 where
  pub interval : Interval
  pub there : slice_get intervals number ≡ Some interval
  pub first : interval_labelled intervals label ≡ Some interval

-- each label of the result is that of an interval
labelled_at : (intervals : List Interval) (d shape : Dimensions) (label : ℤ) (t number : ℕ) → shape ≡ shape_of_aggregation intervals d → slice_get (number_labels shape Time) t ≡ Some label → slice_get intervals number ≡ interval_labelled intervals label → IsLabelledAt intervals label number
labelled_at intervals d shape label t number is e found =
    let at_t : slice_get (sorted_labels is_below (map label_of_interval intervals)) t ≡ Some label = subst (λ (s : Dimensions). slice_get (number_labels s Time) t ≡ Some label) is e in
    let there = order_there label (map label_of_interval intervals) t at_t in
    let first = found_labelled intervals label there.0 there.1 in
    record { interval = first.0; there = found ∙ first.1; first = first.1 }

pub labelled_by : (intervals : List Interval) (d shape : Dimensions) (label : ℤ) (t number : ℕ) → shape ≡ shape_of_aggregation intervals d → slice_get (number_labels shape Time) t ≡ Some label → FitsSigned w64 label → slice_get intervals number ≡ interval_labelled intervals (to_z w64 (of_z w64 label)) → IsLabelledAt intervals label number
labelled_by intervals d shape label t number is e fits found =
    labelled_at intervals d shape label t number is e (found ∙ ap (interval_labelled intervals) (to_z-of_z w64 label fits))

-- there are few intervals
pub few_intervals : (intervals : List Interval) (d shape : Dimensions) → shape ≡ shape_of_aggregation intervals d → IsShape shape → length intervals ≤ most_labels
few_intervals intervals d shape is valid =
    let few : length (sorted_labels is_below (map label_of_interval intervals)) ≤ most_labels = numbers_within (shape_of_aggregation intervals d) Time (subst IsShape is valid) in
    let ordered = length-order (map label_of_interval intervals) in
    let mapped = length-map intervals label_of_interval in
    omega (arith, few, ordered, mapped)

-- the first index along t of a window has a label
pub first_label : (intervals : List Interval) (d shape : Dimensions) (window : Window) → shape ≡ shape_of_aggregation intervals d → Holds (whole_window shape) window → 0 < position_count window → window.t.from < length (number_labels shape Time)
first_label intervals d shape window is holds more =
    let some = are_some window more in
    let t = some.t in
    let bands = some.bands in
    let y = some.y in
    let x = some.x in
    let filled : IsFilled window = record { t = omega arith; bands = omega arith; y = omega arith; x = omega arith } in
    let here : Holds (whole_window (shape_of_aggregation intervals d)) window = subst (λ (s : Dimensions). Holds (whole_window s) window) is holds in
    let within = within_from_holds window (whole_window (shape_of_aggregation intervals d)) filled here in
    let ends : window.t.to ≤ length (sorted_labels is_below (map label_of_interval intervals)) = within.t.to in
    subst (λ (s : Dimensions). window.t.from < length (number_labels s Time)) (sym is) (omega (arith, ends, filled.t))

-- ---- the list of an interval

abbrev pub from_of : TemporalExtent → Dimensions → ℕ
from_of e d = (part_in_time e (number_labels d Time)).from

abbrev pub to_of : TemporalExtent → Dimensions → ℕ
to_of e d = (part_in_time e (number_labels d Time)).to

abbrev pub count_of : TemporalExtent → Dimensions → ℕ
count_of e d = to_of e d - from_of e d

ends_within : (e : TemporalExtent) (d : Dimensions) → to_of e d ≤ length (number_labels d Time)
ends_within e d = count_by-le-length (has_not_ended e) (number_labels d Time)

length-part : (e : TemporalExtent) (d : Dimensions) → length (slice_range (number_labels d Time) (from_of e d) (to_of e d)) ≡ count_of e d
length-part e d =
    let ends = ends_within e d in
    let rest = length-drop (from_of e d) (number_labels d Time) in
    length-take-le (count_of e d) (drop (from_of e d) (number_labels d Time)) (omega (arith, ends, rest))

-- there is room for it
pub count_within : (e : TemporalExtent) (d : Dimensions) → count_of e d ≤ length (number_labels d Time)
count_within e d = let ends = ends_within e d in omega (arith, ends)

-- a label of the part
in_part : (labels : List ℤ) (from to i : ℕ) (l : ℤ) → slice_get (slice_range labels from to) i ≡ Some l → to ≤ length labels → slice_get labels (from + i) ≡ Some l
in_part labels from to i l e ends =
    let below = slice_get_within (slice_range labels from to) i l e in
    let rest = length-drop from labels in
    let long : length (slice_range labels from to) ≡ to - from = length-take-le (to - from) (drop from labels) (omega (arith, ends, rest)) in
    let short : i < to - from = omega (arith, below, long) in
    let here : get_or labels (from + i) l ≡ l =
    sym (get_or-drop from labels i l) ∙ sym (get_or-take (to - from) (drop from labels) i l short) ∙ get_or_from_slice_get (slice_range labels from to) i l l e in
    slice_get-get_or labels (from + i) l (omega (arith, short, ends)) ∙ ap Some here

labels_of_list : (labels : List ℤ) (intervals : List Interval) (k : ℕ) (i : Interval) → slice_get intervals k ≡ Some i
    → slice_index_or (map (labels_in (plain_instants labels)) (map (λ (j : Interval). part_in_time j.extent labels) intervals)) k no_labels ≡ plain_instants (slice_range labels (part_in_time i.extent labels).from (part_in_time i.extent labels).to)
labels_of_list labels [] k i e = cc
labels_of_list labels (j ∷ intervals) zero i e = ap (λ (x : Interval). plain_instants (slice_range labels (part_in_time x.extent labels).from (part_in_time x.extent labels).to)) (same_Some j i e)
labels_of_list labels (j ∷ intervals) (suc k) i e = labels_of_list labels intervals k i e

-- the callback takes it
pub takes_interval : (c : Callback) (intervals : List Interval) (d : Dimensions) (cells : List Cell) (k : ℕ) (i : Interval) → slice_get intervals k ≡ Some i → TakesIntervals c intervals d cells → TakesList c k (count_of i.extent d) cells
takes_interval c intervals d cells k i e takes = record {
  kind = takes.kind;
  labels = plain_instants (number_labels d Time);
  lists = map (λ (j : Interval). part_in_time j.extent (number_labels d Time)) intervals;
  scope_is = takes.scope_is;
  list_is = subst (λ n. k < n) (sym (length-map intervals (λ (j : Interval). part_in_time j.extent (number_labels d Time)))) (slice_get_within intervals k i e);
  as_many = ap count_labels (labels_of_list (number_labels d Time) intervals k i e) ∙ length-part i.extent d;
  of_kind = takes.of_kind;
}

-- its labels are those inside the extent
interval_value : (c : Callback) (intervals : List Interval) (d : Dimensions) (cells list : List Cell) (k : ℕ) (i : Interval) → slice_get intervals k ≡ Some i → TakesIntervals c intervals d cells → rises (number_labels d Time) ≡ true → value_of_list c k list ≡ value_on_list c (plain_instants (labels_in_time i.extent (number_labels d Time))) list
interval_value c intervals d cells list k i e takes up =
    let labels : slice_index_or (list_labels c.scope) k no_labels ≡ plain_instants (labels_in_time i.extent (number_labels d Time)) =
    ap (λ s. slice_index_or (list_labels s) k no_labels) takes.scope_is
    ∙ labels_of_list (number_labels d Time) intervals k i e
    ∙ ap plain_instants (sym (part_in_time_is i.extent (number_labels d Time) up)) in
    ap (λ (its : PlainLabels). callback_value c (record { x = Empty; y = Empty; context = c.context; cells = list; labels = its })) labels

-- ---- which positions are needed

beside_aggregated : (intervals : List Interval) (d : Dimensions) (p : Position) (n : ℕ) → IsPosition (shape_of_aggregation intervals d) p → n < length (number_labels d Time) → HasLabelsBeside Time (shape_of_aggregation intervals d) d p (with_index Time p n)
beside_aggregated intervals d p n h lt = record { is_position = record { t = inside d.t n lt; band = h.band; y = h.y; x = h.x }; labels = refl }

held_at : (intervals : List Interval) (d : Dimensions) (window : Window) (slice : Slice) (p : Position) (n : ℕ) → Holds (whole_window (shape_of_aggregation intervals d)) window → HoldsNeed (HasLabelsBeside Time (shape_of_aggregation intervals d) d) window slice.window → IsIn window p → n < length (number_labels d Time) → IsIn slice.window (with_index Time p n)
held_at intervals d window slice p n holds need h lt =
    need p (with_index Time p n) h (beside_aggregated intervals d p n (position_in (shape_of_aggregation intervals d) p (holds p h)) lt)

pub held_inside : (intervals : List Interval) (d shape : Dimensions) (window : Window) (slice : Slice) (e : TemporalExtent) → shape ≡ shape_of_aggregation intervals d → Holds (whole_window shape) window → HoldsNeed (HasLabelsBeside Time shape d) window slice.window → (p : Position) → IsIn window p → (i : ℕ) → i < count_of e d → IsIn slice.window (with_index Time p (from_of e d + i))
held_inside intervals d shape window slice e is holds need p h i lt =
    let ends = ends_within e d in
    held_at intervals d window slice p (from_of e d + i)
    (subst (λ (s : Dimensions). Holds (whole_window s) window) is holds)
    (subst (λ (s : Dimensions). HoldsNeed (HasLabelsBeside Time s d) window slice.window) is need) h (omega (arith, ends, lt))

-- ---- the list is that of the cube

by_index : {L : Type 0} (f : ℕ → Cell) (g : L → Cell) (labels : List L) (a : ℕ) → ((i j : ℕ) (l : L) → slice_get labels i ≡ Some l → j ≡ a + i → f j ≡ g l) → map f (range_with_len a (length labels)) ≡ map g labels
by_index f g [] a e = refl
by_index f g (l ∷ labels) a e =
    let first : f a ≡ g l = e 0 a l refl (omega arith) in
    let rest : map f (range_with_len (a + 1) (length labels)) ≡ map g labels = by_index f g labels (a + 1) (λ i j m s place. e (suc i) j m s (omega arith)) in
    ap (λ (v : Cell). v ∷ map f (range_with_len (a + 1) (length labels))) first ∙ ap (λ (r : List Cell). g l ∷ r) rest

module _ (intervals : List Interval) (cube : Cube Cell) (slice : Slice) (window : Window) (valid : IsShape cube.shape) (whole : IsCube cube) (on : IsOn cube slice)
    (holds : Holds (whole_window (shape_of_aggregation intervals cube.shape)) window) (need : HoldsNeed (HasLabelsBeside Time (shape_of_aggregation intervals cube.shape) cube.shape) window slice.window) where
  abbrev result_tuple : Position → Tuple
  result_tuple p = tuple_of (shape_of_aggregation intervals cube.shape) p

  cell_inside : (p : Position) → IsIn window p → (n : ℕ) (l : ℤ) → slice_get (number_labels cube.shape Time) n ≡ Some l → cell_of slice (with_index Time p n) ≡ cell cube (record (result_tuple p) { t = Some l })
  cell_inside p h n l e =
      let lt = slice_get_within (number_labels cube.shape Time) n l e in
      let here = position_in (shape_of_aggregation intervals cube.shape) p (holds p h) in
      listed cube slice valid whole on (with_index Time p n) (beside_aggregated intervals cube.shape p n here lt).is_position (held_at intervals cube.shape window slice p n holds need h lt)
      ∙ ap (λ (o : Option ℤ). cell cube (record (result_tuple p) { t = o })) (label_there cube.shape.t n l e)

  interval_cells : (e : TemporalExtent) (p : Position) → IsIn window p → list_from slice Time (from_of e cube.shape) (count_of e cube.shape) p ≡ cells_at cube (result_tuple p) (labels_in_time e (number_labels cube.shape Time))
  interval_cells e p h =
      let labels = number_labels cube.shape Time in
      let from = from_of e cube.shape in
      let to = to_of e cube.shape in
      ap (λ n. map (λ i. cell_of slice (with_index Time p (from + i))) (range_with_len 0 n)) (sym (length-part e cube.shape))
      ∙ by_index (λ i. cell_of slice (with_index Time p (from + i))) (λ label. cell cube (record (result_tuple p) { t = Some label })) (slice_range labels from to) 0
      (λ i j l at_i place.
      let same : from + i ≡ from + j = omega arith in
      cell_inside p h (from + j) l (ap (slice_get labels) (sym same) ∙ in_part labels from to i l at_i (ends_within e cube.shape)))
      ∙ ap (cells_at cube (result_tuple p)) (sym (part_in_time_is e labels (t_rises cube.shape valid)))

  aggregated_here : (c : Callback) (k : ℕ) (label : ℤ) (i : Interval) → TakesIntervals c intervals cube.shape slice.cells.now → slice_get intervals k ≡ Some i → interval_labelled intervals label ≡ Some i
      → ((p : Position) → IsIn window p → label_of (shape_of_aggregation intervals cube.shape).t p.t ≡ Some label)
      → map (λ p. value_of_list c k (list_from slice Time (from_of i.extent cube.shape) (count_of i.extent cube.shape) p)) (positions window) ≡ cells_on Empty (aggregated intervals c cube) window
  aggregated_here c k label i takes there first labelled =
      let labels = number_labels cube.shape Time in
      map-agree _ _ window (λ p h.
      interval_value c intervals cube.shape slice.cells.now (list_from slice Time (from_of i.extent cube.shape) (count_of i.extent cube.shape) p) k i there takes (t_rises cube.shape valid)
      ∙ ap (value_on_list c (plain_instants (labels_in_time i.extent labels))) (interval_cells i.extent p h)
      ∙ ap (λ e. value_on_list c (plain_instants (instants_inside cube.shape e)) (cells_at cube (result_tuple p) (instants_inside cube.shape e)))
      (sym (ap (extent_labelled intervals) (labelled p h) ∙ ap (λ (o : Option Interval). option_map_or (λ (j : Interval). Some j.extent) o None) first)))
      ∙ sym (cells_on-tabulate Empty (shape_of_aggregation intervals cube.shape) (λ tuple. value_on_list c (plain_instants (instants_inside cube.shape (extent_labelled intervals tuple.t))) (cells_at cube tuple (instants_inside cube.shape (extent_labelled intervals tuple.t)))) window holds)

-- each position of a window with one index along t has one label
label_at_one : (intervals : List Interval) (d : Dimensions) (window : Window) (label : ℤ) → window.t.to ≡ window.t.from + 1 → slice_get (number_labels (shape_of_aggregation intervals d) Time) window.t.from ≡ Some label → (p : Position) → IsIn window p → label_of (shape_of_aggregation intervals d).t p.t ≡ Some label
label_at_one intervals d window label one e p h =
    let t = h.t in
    let begun = t.begun in
    let before = t.before in
    let same : p.t ≡ window.t.from = omega arith in
    ap (slice_get (sorted_labels is_below (map label_of_interval intervals))) same ∙ e

pub aggregated_is : (intervals : List Interval) (c : Callback) (cube : Cube Cell) (slice : Slice) (window : Window) (shape argument : Dimensions) (k : ℕ) (label : ℤ) (found : IsLabelledAt intervals label k) → cube.shape ≡ argument → shape ≡ shape_of_aggregation intervals argument → IsShape argument → IsCube cube → IsOn cube slice → TakesIntervals c intervals argument slice.cells.now → Holds (whole_window shape) window → HoldsNeed (HasLabelsBeside Time shape argument) window slice.window → window.t.to ≡ window.t.from + 1 → slice_get (number_labels shape Time) window.t.from ≡ Some label
    → map (λ p. value_of_list c k (list_from slice Time (from_of found.interval.extent argument) (count_of found.interval.extent argument) p)) (positions window) ≡ cells_on Empty (aggregated intervals c cube) window
aggregated_is intervals c cube slice window shape argument k label found same is valid whole on takes holds need one e =
    let e_here : slice_get (number_labels (shape_of_aggregation intervals argument) Time) window.t.from ≡ Some label = subst (λ (s : Dimensions). slice_get (number_labels s Time) window.t.from ≡ Some label) is e in
    let holds_here : Holds (whole_window (shape_of_aggregation intervals argument)) window = subst (λ (s : Dimensions). Holds (whole_window s) window) is holds in
    let need_here : HoldsNeed (HasLabelsBeside Time (shape_of_aggregation intervals argument) argument) window slice.window = subst (λ (s : Dimensions). HoldsNeed (HasLabelsBeside Time s argument) window slice.window) is need in
    subst (λ (a : Dimensions). IsShape a → TakesIntervals c intervals a slice.cells.now → Holds (whole_window (shape_of_aggregation intervals a)) window → HoldsNeed (HasLabelsBeside Time (shape_of_aggregation intervals a) a) window slice.window → slice_get (number_labels (shape_of_aggregation intervals a) Time) window.t.from ≡ Some label
    → map (λ p. value_of_list c k (list_from slice Time (from_of found.interval.extent a) (count_of found.interval.extent a) p)) (positions window) ≡ cells_on Empty (aggregated intervals c cube) window) same
    (λ v t w n l. aggregated_here intervals cube slice window v whole on w n c k label found.interval t found.there found.first (label_at_one intervals cube.shape window label one l))
    valid takes holds_here need_here e_here
