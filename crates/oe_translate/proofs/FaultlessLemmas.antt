-- No fault stands in the translation of a graph without one.
use Rattle.std.proofs.Common.{◌≡◌, ℕ, ℤ, ◌&&◌, ◌||◌, Bool, true, false, not, nat_lt, List, [], ◌∷◌, map, Option, Some, None, Contains, refl, sym, ap, ◌∙◌, subst, true≢false, arith, eq-eqb, int_lt}
use Rattle.std.specs.Prelude.{IfSome, int_le, is_none, is_some}
use Rattle.std.specs.List.{AllByRecursion, list_all, list_any}
use Rattle.std.proofs.lemmas.Int.{ints}
use Rattle.std.proofs.lemmas.List.Elements.{recursion_from_All}
use Rattle.oe_cell.specs.declared.cell.Cell.TheVariants.{Empty}
use Rattle.oe_dims.specs.Dimensions.{Dimensions, IsShape, number_labels, rises}
use Rattle.oe_dims.specs.Indices.{same_number}
use Rattle.oe_dims.specs.Plain.{plain_instants}
use Rattle.oe_dims.specs.declared.dims.DimsRow.{DimsRow}
use Rattle.oe_dims.specs.declared.kind.CellKind.{CellKind}
use Rattle.oe_dims.specs.declared.kind.CellKind.TheVariants.{Numbers}
use Rattle.oe_dims.specs.declared.kind.Kind.TheVariants.{Time, Y, X}
use Rattle.oe_dims.proofs.ShapeLemmas.{t_rises}
use Rattle.oe_graph.specs.Form.{callback_name, node_name}
use Rattle.oe_graph.specs.Read.{IsFaultless}
use Rattle.oe_graph.specs.References.{references_named}
use Rattle.oe_graph.specs.Tree.{PlainNode}
use Rattle.oe_graph.specs.declared.code.Code.{Code}
use Rattle.oe_graph.specs.declared.code.Code.TheVariants.{CellKindInvalid, CubeTooLarge, DimensionNotAvailable}
use Rattle.oe_expr.specs.Callback.{Callback, IsFaultlessCallback, callback_kind, callback_of}
use Rattle.oe_expr.specs.Rows.{first_row}
use Rattle.oe_expr.specs.Scope as scope
use Rattle.oe_expr.proofs.NodeLemmas.{node_is}
use Rattle.oe_check.specs.Checked.{CheckedGraph, AreFaultless}
use Rattle.oe_check.specs.Walked.{IsNodeOf}
use Rattle.oe_meanings.specs.Graphs.{outline_named, request_inputs}
use Rattle.oe_meanings.specs.Rows.{cell_kind_invalid, cube_too_large, differ_in_dimensions}
use Rattle.oe_meanings.specs.Stands.{HasFaultlessCallback, HasNoFault, Passes, StandsHere, StandsInGraph, asks_for_nothing, callback_on, cubes_of, early, early_rows, in_sums, inside, of_kind, of_size, sums_of}
use Rattle.oe_meanings.specs.ValidShapes.{is_within_limits, labels_of}
use Rattle.oe_meanings.specs.Words.{codes_differ, has_another, has_code, lacks_dimension, names_other, same_cell_kind}
use Rattle.oe_meanings.proofs.OrderedLemmas.{below_is_order, left_of, ordered_differ, right_of, rises_stand, stand_in_order}
use Rattle.oe_meanings.proofs.PeriodLemmas.{period_labels, stand_as_intervals}
use Rattle.oe_meanings.proofs.RequestLemmas.{EachOf, of_node_request}
use Rattle.oe_meanings.proofs.SameLemmas.{alike_along, alike_bands}
use Rattle.oe_requests.specs.Extents.{is_empty_extent, part_in_time}
use Rattle.oe_requests.specs.Labels.{are_distinct, differing, is_below}
use Rattle.oe_requests.specs.Operations.{Outline}
use Rattle.oe_requests.specs.Periods.{period_intervals}
use Rattle.oe_requests.specs.Requests.{Called, CubeRequest, called, load_collection, filter_bbox, filter_temporal, filter_bands, apply, apply_kernel, reduce_dimension, aggregate_temporal, aggregate_temporal_period, apply_dimension, merge_cubes, mask, save_result, cube_ids, cube_request_at}
use Rattle.oe_requests.specs.RunningSums.{AreSums}
use Rattle.oe_requests.specs.declared.extent.Interval.{Interval}
use Rattle.oe_translate.specs.Laws.{HasRoomForSums, HaveValidShapes, StaysFaultless}
use Rattle.oe_translate.specs.Translated.{ignores_at, is_of_periods, is_of_sums, periods_at, translated_nodes}
use Rattle.oe_translate.specs.Written.{aggregated_node, growing_intervals, interval_up_to, intervals_from, merged_node, sum_name}
use Rattle.oe_translate.proofs.CallbackLemmas.{merge_faultless, merge_gives_numbers, sum_faultless}
use Rattle.oe_translate.proofs.OutlineLemmas.{after_at, before_at, data_at, data_has_t, data_numbers, data_valid, lacks_not, labels_same, merge_asks, merge_request, period_asks, period_refers, period_request, refers_same, sum_data_valid, sum_refers, sum_request, summing_by, sums_are, sums_ask}
use Rattle.oe_translate.proofs.PartLemmas.{PeriodParts, SumParts, no_fault, of_periods, of_sums, periods_are}
use Rattle.oe_translate.proofs.ResolvedLemmas.{is_resolved, of_all}
use Rattle.oe_translate.proofs.SumLemmas.{growing_shape, labels_growing, merge_graph, merged_itself, sum_graph}
use Rattle.oe_translate.proofs.TranslationLemmas.{after, sums_of as sums_node_of}

-- ---- the same cubes, the same faults

same_inputs : (collection f g : List ℕ → Outline) (r : CubeRequest) → EachOf (λ id. f id ≡ g id) (cube_ids r)
    → request_inputs collection f r ≡ request_inputs collection g r
same_inputs collection f g (load_collection id box time bands) h = refl
same_inputs collection f g (filter_bbox data_id box) h = ap (λ a. a ∷ []) h.0
same_inputs collection f g (filter_temporal data_id time name) h = ap (λ a. a ∷ []) h.0
same_inputs collection f g (filter_bands data_id bands) h = ap (λ a. a ∷ []) h.0
same_inputs collection f g (apply data_id c) h = ap (λ a. a ∷ []) h.0
same_inputs collection f g (apply_kernel data_id kernel factor border replace) h = ap (λ a. a ∷ []) h.0
same_inputs collection f g (reduce_dimension data_id name c) h = ap (λ a. a ∷ []) h.0
same_inputs collection f g (aggregate_temporal data_id intervals name c) h = ap (λ a. a ∷ []) h.0
same_inputs collection f g (aggregate_temporal_period data_id period name c) h = ap (λ a. a ∷ []) h.0
same_inputs collection f g (apply_dimension data_id callback) h = ap (λ a. a ∷ []) h.0
same_inputs collection f g (merge_cubes one two resolver) h = ap (λ a. a ∷ f two ∷ []) h.0 ∙ ap (λ a. g one ∷ a ∷ []) h.1.0
same_inputs collection f g (mask data_id mask_id replacement) h = ap (λ a. a ∷ f mask_id ∷ []) h.0 ∙ ap (λ a. g data_id ∷ a ∷ []) h.1.0
same_inputs collection f g (save_result data_id format) h = ap (λ a. a ∷ []) h.0

-- no fault stands in the callback of a request on these cubes
abbrev IsFree : CubeRequest → List Outline → Type 0
IsFree r cubes = IfSome (callback_on r cubes) (λ k. IsFaultlessCallback k.1) × IfSome (sums_of r) AreSums

module _ (rows : List DimsRow) (one two : List ℕ → Outline) (n : PlainNode)
    (same : (id : List ℕ) → Contains (references_named n.arguments) id → one id ≡ two id) where
  cubes_same : (r : CubeRequest) → cube_request_at n ≡ Some r → cubes_of rows one r ≡ cubes_of rows two r
  cubes_same r asks = same_inputs (outline_named rows) one two r (of_node_request (λ id. one id ≡ two id) n r asks same)

  passes_same : (r : CubeRequest) → Passes rows one n r → Passes rows two n r
  passes_same r p = record {
    asks = p.asks;
    none_holds = subst (λ cubes. first_row (early_rows rows r cubes) ≡ None) (cubes_same r p.asks) p.none_holds;
  }

  stands_same : (code : Code) (name : List ℕ) → StandsHere rows one n code name → StandsHere rows two n code name
  stands_same code name (asks_for_nothing e) = asks_for_nothing e
  stands_same code name (early {r = r} {code = k} e first) =
      early e (subst (λ cubes. first_row (early_rows rows r cubes) ≡ Some k) (cubes_same r e) first)
  stands_same code name (inside {r = r} {argument = a} {c = x} p on s) =
      inside (passes_same r p) (subst (λ cubes. callback_on r cubes ≡ Some (a, x)) (cubes_same r p.asks) on) s
  stands_same code name (in_sums {r = r} p on s) = in_sums (passes_same r p) on s
  stands_same code name (of_kind {r = r} p free invalid) =
      let cubes = cubes_same r p.asks in
      of_kind (passes_same r p) (subst (IsFree r) cubes free) (subst (λ os. cell_kind_invalid r os ≡ true) cubes invalid)
  stands_same code name (of_size {r = r} p kinds large) =
      let cubes = cubes_same r p.asks in
      of_size (passes_same r p) (λ free. subst (λ os. cell_kind_invalid r os ≡ false) cubes (kinds (subst (IsFree r) (sym cubes) free)))
      (subst (λ os. cube_too_large r os ≡ true) cubes large)

-- ---- what a node without a fault keeps

module _ (rows : List DimsRow) (at : List ℕ → Outline) (n : PlainNode) (none : HasNoFault rows at n)
    (r : CubeRequest) (asks : cube_request_at n ≡ Some r) where
  none_early : first_row (early_rows rows r (cubes_of rows at r)) ≡ None
  none_early = by (first_row (early_rows rows r (cubes_of rows at r))) refl
    where
      by : (o : Option Code) → first_row (early_rows rows r (cubes_of rows at r)) ≡ o → o ≡ None
      by None e = refl
      by (Some code) e = absurd (none code n.id (early asks e))

  passed : Passes rows at n r
  passed = record { asks = asks; none_holds = none_early }

  callback_free : IfSome (callback_on r (cubes_of rows at r)) (λ k. IsFaultlessCallback k.1)
  callback_free = by (callback_on r (cubes_of rows at r)) refl
    where
      by : (o : Option (List ℕ × Callback)) → callback_on r (cubes_of rows at r) ≡ o → IfSome o (λ k. IsFaultlessCallback k.1)
      by None e = tt
      by (Some k) e = λ path code name s.
          none code (node_name (callback_name n.id k.0) s.id) (inside {argument = k.0} {c = k.1} passed e (record { id = s.id; at = s.at; is_named = refl }))

  not_large : cube_too_large r (cubes_of rows at r) ≡ false
  not_large = by (cube_too_large r (cubes_of rows at r)) refl
    where
      kinds : HasFaultlessCallback rows at r → (b : Bool) → cell_kind_invalid r (cubes_of rows at r) ≡ b → cell_kind_invalid r (cubes_of rows at r) ≡ false
      kinds free true e = absurd (none CellKindInvalid n.id (of_kind passed free e))
      kinds free false e = e

      by : (b : Bool) → cube_too_large r (cubes_of rows at r) ≡ b → cube_too_large r (cubes_of rows at r) ≡ false
      by true e = absurd (none CubeTooLarge n.id (of_size passed (λ free. kinds free (cell_kind_invalid r (cubes_of rows at r)) refl) e))
      by false e = e

-- a node without a fault, by what it asks for
module _ (rows : List DimsRow) (at : List ℕ → Outline) (n : PlainNode) (r : CubeRequest) (cubes : List Outline)
    (asks : cube_request_at n ≡ Some r) (are : cubes_of rows at r ≡ cubes) (first : first_row (early_rows rows r cubes) ≡ None)
    (free : IfSome (callback_on r cubes) (λ k. IsFaultlessCallback k.1)) (sums : sums_of r ≡ None)
    (kinds : cell_kind_invalid r cubes ≡ false) (size : cube_too_large r cubes ≡ false) where
  -- what holds of this request on these cubes holds of each that it asks for
  of_each : (P : CubeRequest → List Outline → Type 0) (q : CubeRequest) → cube_request_at n ≡ Some q → P q (cubes_of rows at q) → P r cubes
  of_each P q e h =
      let same : q ≡ r = cc in
      subst (P r) are (subst (λ (x : CubeRequest). P x (cubes_of rows at x)) same h)

  no_fault_here : HasNoFault rows at n
  no_fault_here code name (asks_for_nothing e) = absurd cc
  no_fault_here code name (early {r = q} {code = k} e h) =
      let there : first_row (early_rows rows r cubes) ≡ Some k = of_each (λ x os. first_row (early_rows rows x os) ≡ Some k) q e h in
      absurd cc
  no_fault_here code name (inside {r = q} {argument = a} {c = x} p on s) =
      let there : callback_on r cubes ≡ Some (a, x) = of_each (λ y os. callback_on y os ≡ Some (a, x)) q p.asks on in
      let right : IsFaultlessCallback x = subst (λ (o : Option (List ℕ × Callback)). IfSome o (λ k. IsFaultlessCallback k.1)) there free in
      right (callback_name n.id a) code name s
  no_fault_here code name (in_sums {r = q} {g = g} p on s) =
      let there : sums_of r ≡ Some g = of_each (λ x os. sums_of x ≡ Some g) q p.asks on in
      absurd cc
  no_fault_here code name (of_kind {r = q} p f invalid) =
      let there : cell_kind_invalid r cubes ≡ true = of_each (λ x os. cell_kind_invalid x os ≡ true) q p.asks invalid in
      true≢false (sym there ∙ kinds)
  no_fault_here code name (of_size {r = q} p f large) =
      let there : cube_too_large r cubes ≡ true = of_each (λ x os. cube_too_large x os ≡ true) q p.asks large in
      true≢false (sym there ∙ size)

-- ---- an aggregation

aggregate_early : (rows : List DimsRow) (id : List ℕ) (intervals : List Interval) (name : Option (List ℕ)) (x : Called) (o : Outline)
    → (lacks_dimension Time o.shape || names_other name) ≡ false → list_any (λ (i : Interval). is_empty_extent i.extent) intervals ≡ false
    → are_distinct same_number (labels_of intervals) ≡ true
    → first_row (early_rows rows (aggregate_temporal id intervals name x) (o ∷ [])) ≡ None
aggregate_early rows id intervals name x o there none distinct = rw (there, none, distinct) refl

none_of_all : (intervals : List Interval) → AllByRecursion (λ (i : Interval). is_empty_extent i.extent ≡ false) intervals
    → list_any (λ (i : Interval). is_empty_extent i.extent) intervals ≡ false
none_of_all [] h = refl
none_of_all (i ∷ intervals) h = rw h.0 (none_of_all intervals h.1)

-- the intervals up to each label end behind the first
behind : (first label next : ℤ) → int_le first label ≡ true → int_lt label next ≡ true → int_le next first ≡ false
behind first label next h k = grind (arith, ints)

le_itself : (l : ℤ) → int_le l l ≡ true
le_itself l = grind (arith, ints)

le_lt : (a b c : ℤ) → int_le a b ≡ true → int_lt b c ≡ true → int_le a c ≡ true
le_lt a b c h k = grind (arith, ints)

not_empty : (first label : ℤ) (later : List ℤ) → int_le first label ≡ true → list_all (is_below label) later ≡ true
    → is_empty_extent (interval_up_to first label later).extent ≡ false
not_empty first label [] h k = refl
not_empty first label (next ∷ later) h k = behind first label next h (left_of (is_below label next) _ k)

from_not_empty : (first : ℤ) (label : ℤ) (later : List ℤ) → int_le first label ≡ true → stand_in_order is_below (label ∷ later) ≡ true
    → list_any (λ (i : Interval). is_empty_extent i.extent) (intervals_from first (label ∷ later)) ≡ false
from_not_empty first label [] h stand = rw (not_empty first label [] h refl) refl
from_not_empty first label (next ∷ later) h stand =
    let below : list_all (is_below label) (next ∷ later) ≡ true = left_of (list_all (is_below label) (next ∷ later)) _ stand in
    rw (not_empty first label (next ∷ later) h below)
    (from_not_empty first next later (le_lt first label next h (left_of (is_below label next) _ below))
    (right_of (list_all (is_below label) (next ∷ later)) _ stand))

growing_not_empty : (labels : List ℤ) → rises labels ≡ true → list_any (λ (i : Interval). is_empty_extent i.extent) (growing_intervals labels) ≡ false
growing_not_empty [] up = refl
growing_not_empty (label ∷ later) up = from_not_empty label label later (le_itself label) (rises_stand (label ∷ later) up)

-- ---- two cubes of one outline

some_none : {A : Type 0} (o : Option A) → (is_some o && is_none o) ≡ false
some_none None = refl
some_none (Some a) = refl

no_other : (d : Dimensions) → has_another d d ≡ false
no_other d = rw (some_none d.t, some_none d.bands, some_none d.y, some_none d.x) refl

none_differ : (d : Dimensions) → differing d d ≡ 0
none_differ d = rw (alike_along Time d d refl, alike_bands d d refl, alike_along Y d d refl, alike_along X d d refl) refl

same_codes : (d : Dimensions) → codes_differ d d ≡ false
same_codes d = ap (λ b. has_code d.epsg && has_code d.epsg && not b) (eq-eqb d.epsg d.epsg refl) ∙ by (has_code d.epsg)
  where
    by : (b : Bool) → (b && b && not true) ≡ false
    by true = refl
    by false = refl

alike : (d : Dimensions) → differ_in_dimensions d d ≡ false
alike d =
    ap (λ b. (b && b) || nat_lt 1 (differing d d) || codes_differ d d) (no_other d)
    ∙ (ap (λ count. nat_lt 1 count || codes_differ d d) (none_differ d) ∙ same_codes d)

merge_early : (rows : List DimsRow) (one two : List ℕ) (x : Called) (o : Outline)
    → first_row (early_rows rows (merge_cubes one two (Some x)) (o ∷ o ∷ [])) ≡ None
merge_early rows one two x o = rw (alike o.shape) refl

-- a merge of numbers by the callback is of numbers
merge_kinds : (kind : CellKind) → kind ≡ Numbers
    → (not (same_cell_kind kind kind) || not (same_cell_kind (callback_kind (callback_of merge_graph (scope.merge kind) Empty)) kind)) ≡ false
merge_kinds kind is =
    subst (λ k. (not (same_cell_kind k k) || not (same_cell_kind (callback_kind (callback_of merge_graph (scope.merge k) Empty)) k)) ≡ false) (sym is)
    (ap (λ k. not (same_cell_kind k Numbers)) merge_gives_numbers)

-- ---- the graph

module _ (c : CheckedGraph) (f : AreFaultless c) (room : HasRoomForSums c.nodes) (shapes : HaveValidShapes c.rows) where
  abbrev here : List ℕ → Outline
  here = after_at c f room shapes

  periods_free : (n : PlainNode) → IsNodeOf c.nodes n → is_of_periods n ≡ true → HasNoFault c.rows here (aggregated_node (periods_at c.rows c.nodes n) n)
  periods_free n n_in is =
      let p = of_periods c f n n_in is in
      let o = before_at c f room shapes p.cube in
      let before = period_request c f room shapes n n_in p in
      let intervals : List Interval = period_intervals p.period (number_labels o.shape Time) in
      let x = called p.graph p.context in
      let refers = period_refers c f room shapes n n_in p in
      let valid : IsShape o.shape = data_valid c f room shapes n n_in p.cube refers in
      let asks : cube_request_at (aggregated_node (periods_at c.rows c.nodes n) n) ≡ Some (aggregate_temporal p.cube intervals p.name x) =
      period_asks c f room shapes n n_in p ∙ ap (λ is. Some (aggregate_temporal p.cube is p.name x)) (periods_are c f n n_in p) in
      let none = no_fault c f n n_in in
      let first : first_row (early_rows c.rows (aggregate_temporal p.cube intervals p.name x) (o ∷ [])) ≡ None =
      aggregate_early c.rows p.cube intervals p.name x o (t_named n n_in p (lacks_dimension Time o.shape || names_other p.name) refl)
      (none_of_all intervals (recursion_from_All (λ (i : Interval). is_empty_extent i.extent ≡ false) intervals (stand_as_intervals p.period o.shape valid).not_empty))
      (period_labels p.period o.shape valid).differ in
      no_fault_here c.rows here (aggregated_node (periods_at c.rows c.nodes n) n) (aggregate_temporal p.cube intervals p.name x) (o ∷ []) asks
      (ap (λ a. a ∷ []) (refers_same c f room shapes n n_in p.cube refers)) first
      (callback_free c.rows (before_at c f room shapes) n none before p.asks) refl refl
      (not_large c.rows (before_at c f room shapes) n none before p.asks)
    where
      t_named : (n : PlainNode) (n_in : IsNodeOf c.nodes n) (p : PeriodParts n) (b : Bool)
          → (lacks_dimension Time (before_at c f room shapes p.cube).shape || names_other p.name) ≡ b
          → (lacks_dimension Time (before_at c f room shapes p.cube).shape || names_other p.name) ≡ false
      t_named n n_in p false e = e
      t_named n n_in p true e =
          let first : first_row (early_rows c.rows (period_request c f room shapes n n_in p) (before_at c f room shapes p.cube ∷ [])) ≡ Some DimensionNotAvailable = rw e refl in
          absurd (no_fault c f n n_in DimensionNotAvailable n.id (early p.asks first))

  module _ (n : PlainNode) (n_in : IsNodeOf c.nodes n) (periods : is_of_periods n ≡ false) (is : is_of_sums n ≡ true) where
    abbrev p : SumParts n
    p = of_sums c f n n_in is

    abbrev o : Outline
    o = data_at c f room shapes n n_in p

    valid : IsShape o.shape
    valid = sum_data_valid c f room shapes n n_in p

    numbers : o.kind ≡ Numbers
    numbers = data_numbers c f room shapes n n_in p

    data_same : here p.cube ≡ o
    data_same = refers_same c f room shapes n n_in p.cube (sum_refers c f room shapes n n_in p)

    -- the data are not too large
    fits : not (is_within_limits o.shape) ≡ false
    fits = not_large c.rows (before_at c f room shapes) n (no_fault c f n n_in) (sum_request c f room shapes n n_in p) p.asks

    sums_free : HasNoFault c.rows here (sums_node_of c.rows c.nodes n)
    sums_free =
        let labels : List ℤ = number_labels o.shape Time in
        let intervals : List Interval = growing_intervals labels in
        let x = summing_by c f room shapes n n_in p in
        let up : rises labels ≡ true = t_rises o.shape valid in
        let t = data_has_t c f room shapes n n_in p in
        let asks : cube_request_at (sums_node_of c.rows c.nodes n) ≡ Some (aggregate_temporal p.cube intervals None x) =
        sums_ask c f room shapes n n_in p ∙ ap (λ ls. Some (aggregate_temporal p.cube (growing_intervals ls) None x)) (labels_same c f room shapes n n_in p) in
        let distinct : are_distinct same_number (labels_of intervals) ≡ true =
        ap (are_distinct same_number) (labels_growing labels) ∙ ordered_differ is_below below_is_order labels (rises_stand labels up) in
        let first : first_row (early_rows c.rows (aggregate_temporal p.cube intervals None x) (o ∷ [])) ≡ None =
        aggregate_early c.rows p.cube intervals None x o (ap (λ b. b || false) (lacks_not c f room shapes n n_in p)) (growing_not_empty labels up) distinct in
        let parts = map (λ (i : Interval). part_in_time i.extent labels) intervals in
        let free : IsFaultlessCallback (callback_of (sum_graph (ignores_at n)) (scope.reduce o.kind (plain_instants labels) parts) Empty) =
        subst (λ k. IsFaultlessCallback (callback_of (sum_graph (ignores_at n)) (scope.reduce k (plain_instants labels) parts) Empty)) (sym numbers)
        (sum_faultless (ignores_at n) (plain_instants labels) parts) in
        no_fault_here c.rows here (sums_node_of c.rows c.nodes n) (aggregate_temporal p.cube intervals None x) (o ∷ []) asks
        (ap (λ a. a ∷ []) data_same) first free refl refl
        (ap (λ (d : Dimensions). not (is_within_limits d)) (growing_shape o.shape valid t.0 t.1) ∙ fits)

    merged_free : HasNoFault c.rows here (merged_node n)
    merged_free =
        let free : IsFaultlessCallback (callback_of merge_graph (scope.merge o.kind) Empty) =
        subst (λ k. IsFaultlessCallback (callback_of merge_graph (scope.merge k) Empty)) (sym numbers) merge_faultless in
        no_fault_here c.rows here (merged_node n) (merge_request c f room shapes n n_in p) (o ∷ o ∷ []) (merge_asks c f room shapes n n_in p)
        (ap (λ a. a ∷ here p.cube ∷ []) (sums_are c f room shapes n n_in p periods is data_same) ∙ ap (λ a. o ∷ a ∷ []) data_same)
        (merge_early c.rows (sum_name n.id) p.cube (called merge_graph Empty) o) free refl (merge_kinds o.kind numbers)
        (ap (λ (d : Dimensions). not (is_within_limits d)) (merged_itself o.shape valid) ∙ fits)

  other_free : (n : PlainNode) → IsNodeOf c.nodes n → HasNoFault c.rows here n
  other_free n n_in code name s =
      no_fault c f n n_in code name (stands_same c.rows here (before_at c f room shapes) n (refers_same c f room shapes n n_in) code name s)

  none_stands : IsFaultless (StandsInGraph c.rows (translated_nodes c.rows c.nodes))
  none_stands code name s =
      of_all c f room (HasNoFault c.rows here) periods_free merged_free sums_free (λ n n_in periods sums. other_free n n_in)
      s.at.node (node_is (after c f room) s.id s.at.node s.at.is_node).0 code name s.at.here

pub stays_faultless : StaysFaultless
stays_faultless = record { resolved = is_resolved; faultless = none_stands }
