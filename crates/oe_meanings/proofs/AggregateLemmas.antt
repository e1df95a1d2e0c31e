-- The cells of an aggregation over time are of its kind: each label of the result is that of an interval, whose list is one of
-- those that the callback is checked on.
use Rattle.std.proofs.Common.{◌≡◌, ℕ, zero, suc, ◌<◌, Bool, true, false, List, [], ◌∷◌, length, map, refl, sym, ap, ◌∙◌, subst, arith, Option, Some, None, ℤ, ◌⊎◌, inl, inr, if◌then◌else◌, true≢false}
use Rattle.std.specs.Prelude.{Contains, slice_get, slice_index_or}
use Rattle.std.proofs.lemmas.List.{length-map, get_or-map}
use Rattle.std.proofs.lemmas.List.Elements.{All-map}
use Rattle.std.proofs.lemmas.Option.{slice_get_within, get_or_from_slice_get, slice_get-get_or}
use Rattle.oe_cell.specs.declared.cell.Cell.{Cell}
use Rattle.oe_cube.specs.Kinds.{IsOfKind}
use Rattle.oe_dims.proofs.CubeLemmas.{IsTuple-from_get}
use Rattle.oe_dims.proofs.IndexLemmas.{same_number_refl}
use Rattle.oe_dims.specs.Cube.{Tuple, IsLabelOf, IsTuple, Cube, tuples, tabulate}
use Rattle.oe_dims.specs.Dimensions.{Dimensions, number_labels, rises}
use Rattle.oe_dims.specs.Indices.{same_number}
use Rattle.oe_dims.specs.Plain.{plain_instants}
use Rattle.oe_dims.specs.declared.kind.CellKind.{CellKind}
use Rattle.oe_dims.specs.declared.kind.Kind.TheVariants.{Time}
use Rattle.oe_graph.specs.Tree.{PlainGraph}
use Rattle.oe_expr.specs.Callback.{Callback, callback_of, callback_kind, KeepsKind}
use Rattle.oe_expr.specs.Scope as scope
use Rattle.oe_expr.specs.Scope.{PlainScope, labels_in, no_labels}
use Rattle.oe_meanings.proofs.CellKindLemmas.{AllOfKind, cell_fits, list_value_fits, under_scope}
use Rattle.oe_meanings.proofs.TimeLemmas.{part_in_time_is}
use Rattle.oe_requests.specs.Extents.{labels_in_time, part_in_time}
use Rattle.oe_requests.specs.declared.extent.TemporalExtent.{TemporalExtent}
use Rattle.oe_requests.specs.Labels.{is_below, insert_label, sorted_labels}
use Rattle.oe_meanings.specs.Meaning.{cell, value_on_list, extent_labelled, instants_inside, cells_at, aggregated}
use Rattle.oe_requests.specs.Operations.{shape_of_aggregation}
use Rattle.oe_requests.specs.declared.extent.Interval.{Interval}

-- ---- labels in order are the same labels

-- one of these numbers
abbrev IsAmong : ℤ → List ℤ → Type 0
IsAmong x [] = ⊥
IsAmong x (y ∷ ys) = (x ≡ y) ⊎ IsAmong x ys

among_there : (x : ℤ) (ys : List ℤ) → Contains ys x → IsAmong x ys
among_there x [] c = absurd (omega arith)
among_there x (y ∷ ys) c = by c.0 c.1 c.2 (among_there x ys)
  where
    by : (k : ℕ) → k < suc (length ys) → slice_index_or (y ∷ ys) k x ≡ x → (Contains ys x → IsAmong x ys) → IsAmong x (y ∷ ys)
    by zero l e rest = inl (sym e)
    by (suc k) l e rest = inr (rest (k, omega arith, e))

put_among : (x label : ℤ) (ys : List ℤ) → IsAmong x (insert_label is_below label ys) → IsAmong x (label ∷ ys)
put_among x label [] m = m
put_among x label (y ∷ ys) m = by (is_below label y) m (put_among x label ys)
  where
    later : IsAmong x (label ∷ ys) → IsAmong x (label ∷ y ∷ ys)
    later (inl e) = inl e
    later (inr m) = inr (inr m)

    deeper : (x ≡ y) ⊎ IsAmong x (insert_label is_below label ys) → (IsAmong x (insert_label is_below label ys) → IsAmong x (label ∷ ys)) → IsAmong x (label ∷ y ∷ ys)
    deeper (inl e) rest = inr (inl e)
    deeper (inr m) rest = later (rest m)

    by : (b : Bool) → IsAmong x (if b then label ∷ y ∷ ys else y ∷ insert_label is_below label ys)
        → (IsAmong x (insert_label is_below label ys) → IsAmong x (label ∷ ys)) → IsAmong x (label ∷ y ∷ ys)
    by true m rest = m
    by false m rest = deeper m rest

order_among : (x : ℤ) (ys : List ℤ) → IsAmong x (sorted_labels is_below ys) → IsAmong x ys
order_among x [] m = m
order_among x (y ∷ ys) m = by (put_among x y (sorted_labels is_below ys) m) (order_among x ys)
  where
    by : IsAmong x (y ∷ sorted_labels is_below ys) → (IsAmong x (sorted_labels is_below ys) → IsAmong x ys) → IsAmong x (y ∷ ys)
    by (inl e) rest = inl e
    by (inr m) rest = inr (rest m)

-- ---- the interval of a label

abbrev label_of : Interval → ℤ
label_of i = i.label

-- an interval of the list, by its index, whose extent is that of the label
pub record IsLabelled (intervals : List Interval) (label : ℤ) : Type 0 where
  pub index : ℕ
  pub interval : Interval
  pub there : slice_get intervals index ≡ Some interval
  pub extent_is : extent_labelled intervals (Some label) ≡ Some interval.extent

pub labelled_there : (intervals : List Interval) (label : ℤ) → IsAmong label (map label_of intervals) → IsLabelled intervals label
labelled_there [] label m = elim m [ ]
labelled_there (i ∷ intervals) label m = by (same_number i.label label) refl m (labelled_there intervals label)
  where
    by : (b : Bool) → same_number i.label label ≡ b → IsAmong label (i.label ∷ map label_of intervals)
        → (IsAmong label (map label_of intervals) → IsLabelled intervals label) → IsLabelled (i ∷ intervals) label
    by true is m rest = record { index = 0; interval = i; there = refl; extent_is = rw is refl }
    by false is (inl e) rest = absurd (true≢false (sym (subst (λ l. same_number i.label l ≡ true) (sym e) (same_number_refl i.label)) ∙ is))
    by false is (inr m) rest =
        let found = rest m in record { index = suc found.index; interval = found.interval; there = found.there; extent_is = rw is found.extent_is }

-- ---- the list of an interval

-- its labels are those of the list of its number
list_labels_is : (labels : List ℤ) (intervals : List Interval) (k : ℕ) (i : Interval) → rises labels ≡ true → slice_get intervals k ≡ Some i
    → slice_index_or (map (labels_in (plain_instants labels)) (map (λ (j : Interval). part_in_time j.extent labels) intervals)) k no_labels ≡ plain_instants (labels_in_time i.extent labels)
list_labels_is labels intervals k i h e =
    let part = λ (j : Interval). part_in_time j.extent labels in
    let inside : k < length intervals = slice_get_within intervals k i e in
    let mapped : k < length (map part intervals) = subst (λ n. k < n) (sym (length-map intervals part)) inside in
    get_or-map (labels_in (plain_instants labels)) (map part intervals) k (part i) no_labels mapped
    ∙ ap (labels_in (plain_instants labels)) (get_or-map part intervals k i (part i) inside ∙ ap part (get_or_from_slice_get intervals k i i e))
    ∙ ap plain_instants (sym (part_in_time_is i.extent labels h))

abbrev the_scope : CellKind → List Interval → Dimensions → PlainScope
the_scope kind intervals d =
    scope.reduce kind (plain_instants (number_labels d Time)) (map (λ (i : Interval). part_in_time i.extent (number_labels d Time)) intervals)

-- the value at the labels of an extent
abbrev value_in : Callback → Cube Cell → Tuple → Option TemporalExtent → Cell
value_in c cube tuple e =
    value_on_list c (plain_instants (instants_inside cube.shape e)) (cells_at cube tuple (instants_inside cube.shape e))

module _ (kind : CellKind) (intervals : List Interval) (cube : Cube Cell) (h : AllOfKind kind cube) (up : rises (number_labels cube.shape Time) ≡ true) where
  interval_value_fits : (graph : PlainGraph) (context : Cell) → KeepsKind (callback_of graph (the_scope kind intervals cube.shape) context)
      → (tuple : Tuple) (k : ℕ) (i : Interval) → slice_get intervals k ≡ Some i
      → IsOfKind (callback_kind (callback_of graph (the_scope kind intervals cube.shape) context)) (value_in (callback_of graph (the_scope kind intervals cube.shape) context) cube tuple (Some i.extent))
  interval_value_fits graph context keeps tuple k i e =
      let labels = number_labels cube.shape Time in
      let inside = labels_in_time i.extent labels in
      let step = λ (label : ℤ). cell cube (record tuple { t = Some label }) in
      list_value_fits graph context kind (plain_instants labels) (map (λ (j : Interval). part_in_time j.extent labels) intervals) keeps k
      (subst (λ n. k < n) (sym (length-map intervals (λ (j : Interval). part_in_time j.extent labels))) (slice_get_within intervals k i e))
      (plain_instants inside) (list_labels_is labels intervals k i up e)
      (map step inside) (length-map inside step)
      (All-map (IsOfKind kind) step inside (λ n other l. cell_fits kind cube (record tuple { t = Some (slice_index_or inside n other) }) h))

  -- at a tuple of the result
  tuple_value_fits : (graph : PlainGraph) (context : Cell) → KeepsKind (callback_of graph (the_scope kind intervals cube.shape) context)
      → (tuple : Tuple) (t : Option ℤ) → IsLabelOf (Some (sorted_labels is_below (map label_of intervals))) t
      → IsOfKind (callback_kind (callback_of graph (the_scope kind intervals cube.shape) context)) (value_in (callback_of graph (the_scope kind intervals cube.shape) context) cube tuple (extent_labelled intervals t))
  tuple_value_fits graph context keeps tuple None m = elim m [ ]
  tuple_value_fits graph context keeps tuple (Some label) m =
      let found = labelled_there intervals label (order_among label (map label_of intervals) (among_there label (sorted_labels is_below (map label_of intervals)) m)) in
      subst (λ e. IsOfKind (callback_kind (callback_of graph (the_scope kind intervals cube.shape) context)) (value_in (callback_of graph (the_scope kind intervals cube.shape) context) cube tuple e))
      (sym found.extent_is) (interval_value_fits graph context keeps tuple found.index found.interval found.there)

tabulated_at : (kind : CellKind) (d : Dimensions) (f : Tuple → Cell) → ((tuple : Tuple) → IsTuple d tuple → IsOfKind kind (f tuple)) → AllOfKind kind (tabulate d f)
tabulated_at kind d f h =
    All-map (IsOfKind kind) f (tuples d) (λ k other l. h (slice_index_or (tuples d) k other) (IsTuple-from_get d k (slice_index_or (tuples d) k other) (slice_get-get_or (tuples d) k other l)))

pub aggregated_fits : (kind : CellKind) (intervals : List Interval) (c : Callback) (cube : Cube Cell) → c.scope ≡ the_scope kind intervals cube.shape → KeepsKind c
    → rises (number_labels cube.shape Time) ≡ true → AllOfKind kind cube → AllOfKind (callback_kind c) (aggregated intervals c cube)
aggregated_fits kind intervals c cube is =
    under_scope (λ k. KeepsKind k → rises (number_labels cube.shape Time) ≡ true → AllOfKind kind cube → AllOfKind (callback_kind k) (aggregated intervals k cube)) c (the_scope kind intervals cube.shape) is
    (λ keeps up h. tabulated_at _ (shape_of_aggregation intervals cube.shape) _ (λ tuple inside. tuple_value_fits kind intervals cube h up c.graph c.context keeps tuple tuple.t inside.t))
