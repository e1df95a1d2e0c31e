-- The merge of the sums up to each label with the data is the cube of running sums.
use Rattle.std.proofs.Common.{◌≡◌, inl, inr, ℕ, ◌==◌, Bool, true, false, not, ◌&&◌, List, [], ◌∷◌, ◌++◌, map, filter, find, refl, sym, ap, ◌∙◌, subst, arith, Option, Some, None, ℤ, int_lt, slice_get, true≢false, Contains}
use Rattle.std.specs.Prelude.{int_le, unwrap_or}
use Rattle.std.specs.List.{AllByRecursion, list_all}
use Rattle.std.specs.Option.{option_map_or}
use Rattle.std.proofs.lemmas.Int.{ints}
use Rattle.std.proofs.lemmas.List.{map-append}
use Rattle.oe_cell.specs.declared.cell.Cell.{Cell}
use Rattle.oe_cell.specs.declared.cell.Cell.TheVariants.{Empty}
use Rattle.oe_cell.specs.Operations.{add_of, multiply_of}
use Rattle.oe_dims.specs.Cube.{Tuple, Cube, IsCube, IsLabelOf, IsTuple, at, tabulate, tuples}
use Rattle.oe_dims.specs.Dimensions.{Dimensions, IsShape, number_labels, rises}
use Rattle.oe_dims.specs.Indices.{same_number}
use Rattle.oe_dims.specs.Plain.{PlainLabels, plain_instants}
use Rattle.oe_dims.specs.declared.kind.CellKind.TheVariants.{Numbers}
use Rattle.oe_dims.specs.declared.kind.Kind.TheVariants.{Time, Bands, Y, X}
use Rattle.oe_dims.proofs.CubeLemmas.{IsTuple-from_get, at-tabulate, tabulate-cell_or}
use Rattle.oe_dims.proofs.IndexLemmas.{same_number_is, same_number_refl}
use Rattle.oe_dims.proofs.ShapeLemmas.{t_rises}
use Rattle.oe_expr.specs.Callback.{Callback, callback_of, callback_kind}
use Rattle.oe_expr.specs.Nodes.{down_from}
use Rattle.oe_expr.specs.Scope as scope
use Rattle.oe_expr.specs.Scope.{Environment, no_labels}
use Rattle.oe_expr.specs.Value.{graph_value}
use Rattle.oe_expr.specs.declared.scope.ListPart.{ListPart}
use Rattle.oe_fold.specs.Value.{reduction_of}
use Rattle.oe_fold.specs.declared.reducer.Reducer.TheVariants.{Sum}
use Rattle.oe_graph.specs.Tree.{PlainGraph, no_nodes}
use Rattle.oe_periods.specs.Sums.{running_sum}
use Rattle.oe_calls.proofs.Along.{there_cases, none_there}
use Rattle.oe_requests.specs.Extents.{is_in_time, labels_in_time, part_in_time}
use Rattle.oe_requests.specs.Labels.{either_epsg, insert_label, is_below, shape_of_merge, only_along, restrict, sorted_labels}
use Rattle.oe_meanings.specs.Meaning.{Datacube, accumulated, cell, cells_at, extent_labelled, instants_inside, joined, labels_before, merged, operated, outline, value_on_list}
use Rattle.oe_requests.specs.Operations.{accumulate, aggregate, shape_of_aggregation, callback_under, interval_scope, merge}
use Rattle.oe_requests.specs.Parameters.{callback_in}
use Rattle.oe_requests.specs.Requests.{called}
use Rattle.oe_meanings.specs.ValidShapes.{labels_of}
use Rattle.oe_requests.specs.declared.extent.Interval.{Interval}
use Rattle.oe_requests.specs.declared.extent.TemporalExtent.{TemporalExtent}
use Rattle.oe_meanings.proofs.OrderedLemmas.{left_of, right_of, rises_stand, stand_in_order, turned}
use Rattle.oe_meanings.proofs.SameLemmas.{all_stay, same_stay}
use Rattle.oe_meanings.proofs.PeriodLemmas.{map_same}
use Rattle.oe_translate.specs.Written.{growing_intervals, interval_up_to, intervals_from, sum_callback, sum_where_number}
use Rattle.oe_translate.proofs.ValueLemmas.{IsSummand, running_sum_is, zero_cell}

-- ---- the values of both callbacks

-- the graph of a callback argument
abbrev pub sum_graph : Bool → PlainGraph
sum_graph ignore = unwrap_or (callback_in (sum_callback ignore)) (record { nodes = no_nodes; result = 0 })

abbrev pub merge_graph : PlainGraph
merge_graph = unwrap_or (callback_in sum_where_number) (record { nodes = no_nodes; result = 0 })

sum_value : (ignore : Bool) (e : Environment) → graph_value (sum_graph ignore) e ≡ reduction_of Sum ignore e.cells
unfolding down_from
sum_value ignore e = refl

merge_value : (e : Environment) → graph_value merge_graph e ≡ add_of e.x (multiply_of e.y zero_cell)
unfolding down_from
merge_value e = refl

pub sum_kind : (ignore : Bool) (labels : PlainLabels) (lists : List ListPart)
    → callback_kind (callback_of (sum_graph ignore) (scope.reduce Numbers labels lists) Empty) ≡ Numbers
unfolding down_from
sum_kind ignore labels lists = refl

-- ---- labels in order

not_itself : (l : ℤ) → int_lt l l ≡ false
not_itself l = grind (arith, ints)

le_itself : (l : ℤ) → int_le l l ≡ true
le_itself l = grind (arith, ints)

lt_le : (a b : ℤ) → int_lt a b ≡ true → int_le a b ≡ true
lt_le a b h = grind (arith, ints)

lt_not : (a b : ℤ) → int_lt a b ≡ true → int_lt b a ≡ false
lt_not a b h = grind (arith, ints)

lt_trans : (a b c : ℤ) → int_lt a b ≡ true → int_lt b c ≡ true → int_lt a c ≡ true
lt_trans a b c h k = grind (arith, ints)

put_first : (x : ℤ) (xs : List ℤ) → list_all (is_below x) xs ≡ true → insert_label is_below x xs ≡ x ∷ xs
put_first x [] h = refl
put_first x (y ∷ ys) h = let first : int_lt x y ≡ true = left_of (int_lt x y) _ h in rw first refl

sorted_itself : (xs : List ℤ) → stand_in_order is_below xs ≡ true → sorted_labels is_below xs ≡ xs
sorted_itself [] h = refl
sorted_itself (x ∷ xs) h =
    ap (insert_label is_below x) (sorted_itself xs (right_of (list_all (is_below x) xs) _ h))
    ∙ put_first x xs (left_of (list_all (is_below x) xs) _ h)

labels_from : (first : ℤ) (labels : List ℤ) → labels_of (intervals_from first labels) ≡ labels
labels_from first [] = refl
labels_from first (l ∷ labels) = ap (λ ls. l ∷ ls) (labels_from first labels)

pub labels_growing : (labels : List ℤ) → labels_of (growing_intervals labels) ≡ labels
labels_growing [] = refl
labels_growing (l ∷ labels) = labels_from l (l ∷ labels)

-- ---- the labels up to one

-- the interval of a label among labels in order, with those before it and behind it
record Found (first : ℤ) (labels : List ℤ) (label : ℤ) : Type 0 where
  before : List ℤ
  later : List ℤ
  parts : labels ≡ before ++ label ∷ later
  found : find (λ (i : Interval). same_number i.label label) (intervals_from first labels) ≡ Some (interval_up_to first label later)

found_in : (first : ℤ) (labels : List ℤ) (label : ℤ) → Contains labels label → Found first labels label
found_in first [] label has = absurd (none_there label has)
found_in first (x ∷ xs) label has = by (same_number x label) refl (λ there. found_in first xs label there)
  where
    by : (b : Bool) → same_number x label ≡ b → (Contains xs label → Found first xs label) → Found first (x ∷ xs) label
    by true e later =
        let same : x ≡ label = sym (same_number_is x label e) in
        record { before = []; later = xs; parts = ap (λ l. l ∷ xs) same; found = rw e (ap (λ l. Some (interval_up_to first l xs)) same) }
    by false e later =
        elim (there_cases x xs label has) as (λ _. Found first (x ∷ xs) label) [
          | inl is ↦ absurd (true≢false (sym (subst (λ l. same_number x l ≡ true) is (same_number_refl x)) ∙ e))
          | inr there ↦ (
              let f = later there in
              record { before = x ∷ f.before; later = f.later; parts = ap (λ ls. x ∷ ls) f.parts; found = rw e f.found }
              )
        ]

-- the test of the labels that are at or behind the first and before the next one
abbrev in_interval : ℤ → ℤ → List ℤ → ℤ → Bool
in_interval first label later = is_in_time (interval_up_to first label later).extent

none_behind : (first label : ℤ) (later : List ℤ) → stand_in_order is_below later ≡ true → filter (in_interval first label later) later ≡ []
none_behind first label [] h = refl
none_behind first label (next ∷ later) h = none (next ∷ later) (from next later refl (left_of (list_all (is_below next) later) _ h))
  where
    out : (x : ℤ) → int_lt x next ≡ false → in_interval first label (next ∷ later) x ≡ false
    out x e = by (int_le first x) refl
      where
        by : (b : Bool) → int_le first x ≡ b → (int_le first x && int_lt x next) ≡ false
        by true f = rw f e
        by false f = rw f refl

    from : (x : ℤ) (xs : List ℤ) → x ≡ next → list_all (is_below next) xs ≡ true → list_all (λ y. not (int_lt y next)) (x ∷ xs) ≡ true
    from x xs is all = rw is (rw (not_itself next) (each xs all))
      where
        each : (ys : List ℤ) → list_all (is_below next) ys ≡ true → list_all (λ y. not (int_lt y next)) ys ≡ true
        each [] h = refl
        each (y ∷ ys) h = rw (lt_not next y (left_of (int_lt next y) _ h)) (each ys (right_of (int_lt next y) _ h))

    none : (xs : List ℤ) → list_all (λ y. not (int_lt y next)) xs ≡ true → filter (in_interval first label (next ∷ later)) xs ≡ []
    none [] h = refl
    none (x ∷ xs) h =
        let here : int_lt x next ≡ false = turned (int_lt x next) (left_of (not (int_lt x next)) _ h) in
        rw (out x here) (none xs (right_of (not (int_lt x next)) _ h))

-- a label is before the next one where it stands before both
not_ended : (x : ℤ) (later : List ℤ) → list_all (is_below x) later ≡ true → option_map_or (λ end. int_lt x end) (slice_get later 0) true ≡ true
not_ended x [] h = refl
not_ended x (next ∷ later) h = left_of (int_lt x next) _ h

all_right : (test : ℤ → Bool) (xs ys : List ℤ) → list_all test (xs ++ ys) ≡ true → list_all test ys ≡ true
all_right test [] ys h = h
all_right test (x ∷ xs) ys h = all_right test xs ys (right_of (test x) _ h)

kept_up_to : (first label : ℤ) (before later : List ℤ) → list_all (int_le first) (before ++ label ∷ later) ≡ true
    → stand_in_order is_below (before ++ label ∷ later) ≡ true
    → filter (in_interval first label later) (before ++ label ∷ later) ≡ before ++ label ∷ []
kept_up_to first label [] later begun stand =
    let own : int_le first label ≡ true = left_of (int_le first label) _ begun in
    let behind = left_of (list_all (is_below label) later) _ stand in
    rw (own, not_ended label later behind) (ap (λ xs. label ∷ xs) (none_behind first label later (right_of (list_all (is_below label) later) _ stand)))
kept_up_to first label (x ∷ before) later begun stand =
    let own : int_le first x ≡ true = left_of (int_le first x) _ begun in
    let below = left_of (list_all (is_below x) (before ++ label ∷ later)) _ stand in
    let rest = all_right (is_below x) before (label ∷ later) below in
    rw (own, not_ended x later (right_of (int_lt x label) _ rest))
    (ap (λ xs. x ∷ xs) (kept_up_to first label before later (right_of (int_le first x) _ begun)
    (right_of (list_all (is_below x) (before ++ label ∷ later)) _ stand)))

none_before : (label : ℤ) (later : List ℤ) → list_all (is_below label) later ≡ true → filter (λ other. int_lt other label) later ≡ []
none_before label [] h = refl
none_before label (x ∷ later) h = rw (lt_not label x (left_of (int_lt label x) _ h)) (none_before label later (right_of (int_lt label x) _ h))

kept_before : (label : ℤ) (before later : List ℤ) → stand_in_order is_below (before ++ label ∷ later) ≡ true
    → filter (λ other. int_lt other label) (before ++ label ∷ later) ≡ before
kept_before label [] later stand = rw (not_itself label) (none_before label later (left_of (list_all (is_below label) later) _ stand))
kept_before label (x ∷ before) later stand =
    let below = left_of (list_all (is_below x) (before ++ label ∷ later)) _ stand in
    let one : int_lt x label ≡ true = left_of (int_lt x label) _ (all_right (is_below x) before (label ∷ later) below) in
    rw one (ap (λ xs. x ∷ xs) (kept_before label before later (right_of (list_all (is_below x) (before ++ label ∷ later)) _ stand)))

all_at_or_behind : (first : ℤ) (labels : List ℤ) → list_all (is_below first) labels ≡ true → list_all (int_le first) labels ≡ true
all_at_or_behind first [] h = refl
all_at_or_behind first (x ∷ xs) h = rw (lt_le first x (left_of (int_lt first x) _ h)) (all_at_or_behind first xs (right_of (int_lt first x) _ h))

-- the labels in the interval of a label are those before it, and it
labels_up_to : (labels : List ℤ) (label : ℤ) → rises labels ≡ true → Contains labels label
    → (e : TemporalExtent) × (extent_labelled (growing_intervals labels) (Some label) ≡ Some e)
    × (labels_in_time e labels ≡ labels_before (Some label) labels ++ label ∷ [])
labels_up_to [] label up has = absurd (none_there label has)
labels_up_to (first ∷ labels) label up has =
    let f = found_in first (first ∷ labels) label has in
    let stand : stand_in_order is_below (first ∷ labels) ≡ true = rises_stand (first ∷ labels) up in
    let begun : list_all (int_le first) (first ∷ labels) ≡ true =
    rw (le_itself first) (all_at_or_behind first labels (left_of (list_all (is_below first) labels) _ stand)) in
    let begun_parts = subst (λ ls. list_all (int_le first) ls ≡ true) f.parts begun in
    let stand_parts = subst (λ ls. stand_in_order is_below ls ≡ true) f.parts stand in (
      (interval_up_to first label f.later).extent,
      ap (λ o. option_map_or (λ (i : Interval). Some i.extent) o None) f.found,
      ap (filter (in_interval first label f.later)) f.parts
          ∙ (kept_up_to first label f.before f.later begun_parts stand_parts
          ∙ ap (λ xs. xs ++ label ∷ []) (sym (ap (filter (λ other. int_lt other label)) f.parts ∙ kept_before label f.before f.later stand_parts))),
    )

-- ---- shapes

epsg_stays : (epsg : ℕ) → either_epsg epsg epsg ≡ epsg
epsg_stays epsg = by (epsg == 0) refl
  where
    by : (b : Bool) → (epsg == 0) ≡ b → either_epsg epsg epsg ≡ epsg
    by true e = rw e refl
    by false e = rw e refl

pub merged_itself : (d : Dimensions) → IsShape d → shape_of_merge d d ≡ d
merged_itself d s =
    all_stay d d (epsg_stays d.epsg) (same_stay Time d d s refl) (same_stay Bands d d s refl) (same_stay Y d d s refl) (same_stay X d d s refl)

only_there : {L : Type 0} (labels : Option (List L)) (label : Option L) → IsLabelOf labels label → only_along labels label ≡ label
only_there None None h = refl
only_there None (Some l) h = absurd h
only_there (Some ls) label h = refl

restrict_itself : (d : Dimensions) (tuple : Tuple) → IsTuple d tuple → restrict d tuple ≡ tuple
restrict_itself d tuple is =
    rw (only_there d.t tuple.t is.t, only_there d.bands tuple.band is.band, only_there d.y tuple.y is.y, only_there d.x tuple.x is.x) refl

-- with one label of t for each of the intervals it stays as it is
pub growing_shape : (shape : Dimensions) → IsShape shape → (labels : List ℤ) → shape.t ≡ Some labels
    → shape_of_aggregation (growing_intervals (number_labels shape Time)) shape ≡ shape
growing_shape shape valid labels has_t =
    let same : number_labels shape Time ≡ labels = ap (λ o. unwrap_or o []) has_t in
    let up : rises labels ≡ true = subst (λ ls. rises ls ≡ true) same (t_rises shape valid) in
    ap (λ ls. record shape { t = Some (sorted_labels is_below ls) }) (labels_growing (number_labels shape Time) ∙ same)
    ∙ (ap (λ ls. record shape { t = Some ls }) (sorted_itself labels (rises_stand labels up))
    ∙ ap (λ o. record shape { t = o }) (sym has_t))

-- ---- the cube

module _ (ignore : Bool) (d : Datacube) (shape_valid : IsShape d.cube.shape) (counted : IsCube d.cube)
    (labels : List ℤ) (has_t : d.cube.shape.t ≡ Some labels) (numbers : d.kind ≡ Numbers)
    (summands : (tuple : Tuple) → IsSummand (cell d.cube tuple)) where
  abbrev shape : Dimensions
  shape = d.cube.shape

  labels_are : number_labels shape Time ≡ labels
  labels_are = ap (λ o. unwrap_or o []) has_t

  up : rises labels ≡ true
  up = subst (λ ls. rises ls ≡ true) labels_are (t_rises shape shape_valid)

  abbrev pub sum_intervals : List Interval
  sum_intervals = growing_intervals (number_labels shape Time)

  abbrev pub summing : Callback
  summing = callback_under (interval_scope sum_intervals (outline d)) (called (sum_graph ignore) Empty)

  abbrev pub sums : Datacube
  sums = operated (aggregate sum_intervals summing) (d ∷ [])

  abbrev pub merging : Callback
  merging = callback_under (scope.merge sums.kind) (called merge_graph Empty)

  abbrev sum_at_tuple : Tuple → Cell
  sum_at_tuple tuple =
      let ls = instants_inside shape (extent_labelled sum_intervals tuple.t) in
      value_on_list summing (plain_instants ls) (cells_at d.cube tuple ls)

  shape_is : shape_of_aggregation sum_intervals shape ≡ shape
  shape_is = growing_shape shape shape_valid labels has_t

  sums_are : sums.cube ≡ tabulate shape sum_at_tuple
  sums_are = ap (λ s. tabulate s sum_at_tuple) shape_is

  all_summands : (tuple : Tuple) (ls : List ℤ) → AllByRecursion IsSummand (cells_at d.cube tuple ls)
  all_summands tuple [] = tt
  all_summands tuple (l ∷ ls) = (summands (record tuple { t = Some l }), all_summands tuple ls)

  -- the sum up to a label and 0 times the cell there
  sum_is_running : (tuple : Tuple) (t : Option ℤ) → tuple.t ≡ t → IsLabelOf (Some labels) t
      → add_of (sum_at_tuple tuple) (multiply_of (cell d.cube tuple) zero_cell)
      ≡ running_sum ignore (cells_at d.cube tuple (labels_before tuple.t (number_labels shape Time))) (cell d.cube tuple)
  sum_is_running tuple None is there = absurd there
  sum_is_running tuple (Some l) is there =
      let found = labels_up_to (number_labels shape Time) l (subst (λ ls. rises ls ≡ true) (sym labels_are) up)
      (subst (λ ls. Contains ls l) (sym labels_are) there) in
      let before = labels_before tuple.t (number_labels shape Time) in
      let here : record tuple { t = Some l } ≡ tuple = ap (λ o. record tuple { t = o }) (sym is) in
      let inside : instants_inside shape (extent_labelled sum_intervals tuple.t) ≡ before ++ l ∷ [] =
      ap (λ o. instants_inside shape (extent_labelled sum_intervals o)) is
      ∙ (ap (instants_inside shape) found.1 ∙ (found.2 ∙ ap (λ o. labels_before o (number_labels shape Time) ++ l ∷ []) (sym is))) in
      let cells : cells_at d.cube tuple (before ++ l ∷ []) ≡ cells_at d.cube tuple before ++ cell d.cube tuple ∷ [] =
      map-append (λ label. cell d.cube (record tuple { t = Some label })) before (l ∷ [])
      ∙ ap (λ x. cells_at d.cube tuple before ++ cell d.cube x ∷ []) here in
      let all : AllByRecursion IsSummand (cells_at d.cube tuple before ++ cell d.cube tuple ∷ []) =
      subst (AllByRecursion IsSummand) cells (all_summands tuple (before ++ l ∷ [])) in
      ap (λ ls. add_of (value_on_list summing (plain_instants ls) (cells_at d.cube tuple ls)) (multiply_of (cell d.cube tuple) zero_cell)) inside
      ∙ (ap (λ c. add_of c (multiply_of (cell d.cube tuple) zero_cell))
      (sum_value ignore (record { x = Empty; y = Empty; context = Empty; cells = cells_at d.cube tuple (before ++ l ∷ []); labels = plain_instants (before ++ l ∷ []) }))
      ∙ (ap (λ cs. add_of (reduction_of Sum ignore cs) (multiply_of (cell d.cube tuple) zero_cell)) cells
      ∙ sym (running_sum_is ignore (cells_at d.cube tuple before) (cell d.cube tuple) all (summands tuple))))

  merged_at : (k : ℕ) (tuple : Tuple) → slice_get (tuples shape) k ≡ Some tuple
      → joined (Some merging) (at (tabulate shape sum_at_tuple) (restrict shape tuple)) (at d.cube (restrict shape tuple))
      ≡ running_sum ignore (cells_at d.cube tuple (labels_before tuple.t (number_labels shape Time))) (cell d.cube tuple)
  merged_at k tuple there =
      let is = IsTuple-from_get shape k tuple there in
      let own : restrict shape tuple ≡ tuple = restrict_itself shape tuple is in
      let first : at (tabulate shape sum_at_tuple) tuple ≡ Some (sum_at_tuple tuple) = at-tabulate shape sum_at_tuple k tuple shape_valid there in
      let second : at d.cube tuple ≡ Some (cell d.cube tuple) =
      ap (λ (c : Cube Cell). at c tuple) (sym (tabulate-cell_or d.cube Empty shape_valid counted))
      ∙ at-tabulate shape (cell d.cube) k tuple shape_valid there in
      ap (λ x. joined (Some merging) (at (tabulate shape sum_at_tuple) x) (at d.cube x)) own
      ∙ (ap (λ o. joined (Some merging) o (at d.cube tuple)) first
      ∙ (ap (joined (Some merging) (Some (sum_at_tuple tuple))) second
      ∙ (merge_value (record { x = sum_at_tuple tuple; y = cell d.cube tuple; context = Empty; cells = []; labels = no_labels })
      ∙ sum_is_running tuple tuple.t refl (subst (λ o. IsLabelOf o tuple.t) has_t is.t))))

  abbrev joined_at : Cube Cell → Tuple → Cell
  joined_at one tuple = joined (Some merging) (at one (restrict one.shape tuple)) (at d.cube (restrict shape tuple))

  cubes_same : merged (Some merging) sums.cube d.cube ≡ accumulated ignore d.cube
  cubes_same =
      ap (λ (one : Cube Cell). tabulate (shape_of_merge one.shape shape) (joined_at one)) sums_are
      ∙ (ap (λ s. tabulate s (joined_at (tabulate shape sum_at_tuple))) (merged_itself shape shape_valid)
      ∙ ap (λ cells. record { shape = shape; cells = cells })
      (map_same (joined_at (tabulate shape sum_at_tuple))
      (λ tuple. running_sum ignore (cells_at d.cube tuple (labels_before tuple.t (number_labels shape Time))) (cell d.cube tuple))
      (tuples shape) merged_at))

  kind_same : sums.kind ≡ d.kind
  kind_same =
      let parts = map (λ (i : Interval). part_in_time i.extent (number_labels shape Time)) sum_intervals in
      ap (λ k. callback_kind (callback_of (sum_graph ignore) (scope.reduce k (plain_instants (number_labels shape Time)) parts) Empty)) numbers
      ∙ (sum_kind ignore (plain_instants (number_labels shape Time)) parts ∙ sym numbers)

  pub sums_same : operated (merge (Some merging)) (sums ∷ d ∷ []) ≡ operated (accumulate ignore) (d ∷ [])
  sums_same =
      ap (λ (c : Cube Cell). record { cube = c; kind = sums.kind }) cubes_same ∙ ap (λ k. record { cube = accumulated ignore d.cube; kind = k }) kind_same
