-- What a check finds at one node whose request has none of the faults that those of its callback wait for, from the shape and
-- the kind of the cubes that the request works on.
use Rattle.std.proofs.Common.{◌≡◌, ℕ, Bool, true, false, not, List, [], ◌∷◌, map, slice_get, Option, Some, None, ◌⊎◌, inl, inr, is_none, option_map, refl, sym, ap, ◌∙◌, subst, true≢false, if◌then◌else◌}
use Rattle.std.specs.Prelude.{IfSome}
use Rattle.std.specs.Arc.{arc_value}
use Rattle.std.specs.Option.{option_and_then, option_map_or}
use Rattle.oe_cell.specs.declared.cell.Cell.{Cell}
use Rattle.oe_cell.specs.declared.cell.Cell.TheVariants.{Empty, Flag, Number, Over}
use Rattle.oe_cube.specs.Kinds.{IsOfKind}
use Rattle.oe_dims.proofs.OrderLemmas.{same_name_refl}
use Rattle.oe_dims.specs.Dimensions.{Dimensions, IsShape, number_labels}
use Rattle.oe_dims.specs.declared.dims.DimsRow.{DimsRow}
use Rattle.oe_dims.specs.declared.kind.CellKind.{CellKind}
use Rattle.oe_dims.specs.declared.kind.CellKind.TheVariants.{Numbers, Flags}
use Rattle.oe_dims.specs.declared.kind.Kind.{Kind}
use Rattle.oe_graph.specs.Faults.{IsLeast, is_before}
use Rattle.oe_graph.specs.Tree.{PlainGraph, PlainNode}
use Rattle.oe_graph.specs.declared.code.Code.{Code}
use Rattle.oe_graph.specs.declared.code.Code.TheVariants.{CellKindInvalid, CollectionNotFound, CubeTooLarge}
use Rattle.oe_graph.specs.declared.fault.Fault.{Fault}
use Rattle.oe_expr.proofs.KindLemmas.{keeps_kind}
use Rattle.oe_expr.specs.Callback.{Callback, IsFaultlessCallback}
use Rattle.oe_expr.specs.Rows.{JudgedRow, first_row}
use Rattle.oe_expr.specs.Scope as scope
use Rattle.oe_expr.specs.Scope.{PlainScope, scope_parameters}
use Rattle.oe_periods.specs.declared.calendar.Period.{Period}
use Rattle.oe_check.proofs.BuildableLemmas.{or_false, NoneHolds, none_holds}
use Rattle.oe_check.proofs.KindLemmas.{kinds_asked}
use Rattle.oe_requests.proofs.InsideLemmas.{inside_later}
use Rattle.oe_check.proofs.VerdictLemmas.{StandsInside, found_early, size_first, wrong_kinds, wrong_size, no_fault, inside_alone, inside_or_size}
use Rattle.oe_meanings.specs.Callbacks.{IsResolvedCallback, IsBuildable, StandsInCallback, of_cells, of_sums}
use Rattle.oe_meanings.specs.CellKinds.{IsSoundUnder, IsSoundOn}
use Rattle.oe_check.specs.Early.{IsEarlyFault}
use Rattle.oe_meanings.specs.Graphs.{request_outline, node_outline}
use Rattle.oe_check.specs.Inputs.{AreInputs, WorksOn}
use Rattle.oe_check.specs.Links.{loaded_by}
use Rattle.oe_requests.specs.Operations.{Operation, reduce, accumulate, Outline, no_dimensions, no_outline, first_or, operation_of, outline_of, shape_of, operation_kind, dimension_named, callback_under, reduction_scope, interval_scope}
use Rattle.oe_requests.specs.PlainRequests.{plain_operation}
use Rattle.oe_requests.specs.Requests.{Called, CubeRequest, load_collection, filter_bbox, filter_temporal, filter_bands, apply, apply_kernel, reduce_dimension, aggregate_temporal, aggregate_temporal_period, apply_dimension, merge_cubes, mask, save_result, cube_request_at}
use Rattle.oe_meanings.specs.Results.{cubes_among, takes_other_kinds, where_within_limits, HasValidLabels, IsResultShape, is_by_period}
use Rattle.oe_requests.specs.RunningSums.{ignores_nulls, AreSums}
use Rattle.oe_meanings.specs.Rows.{collection_not_found, cell_kind_invalid, cube_too_large, gives_too_large, is_of_another, dimension_not_available}
use Rattle.oe_meanings.specs.SoundNodes.{IsSoundOperation}
use Rattle.oe_meanings.specs.Stands.{early_rows, callback_in, callback_on, sums_of, cubes_of, Passes, HasFaultlessCallback, StandsHere}
use Rattle.oe_meanings.specs.ValidShapes.{BringsLabels, is_within_limits}
use Rattle.oe_check.specs.Walked.{outline_kept, IsJudgedSound}
use Rattle.oe_meanings.specs.Words.{same_cell_kind, lacks_dimension}
use Rattle.oe_check.specs.declared.checked.CheckedNode.{CheckedNode}
use Rattle.oe_requests.specs.Periods.{period_intervals}
use Rattle.oe_dims.specs.declared.kind.Kind.TheVariants.{Time}
use Rattle.oe_meanings.proofs.PeriodLemmas.{period_labels}

-- ---- an operation depends on the first cube alone

first_alone : (r : CubeRequest) (one : Outline) (xs ys : List Outline) → operation_of r (one ∷ xs) ≡ operation_of r (one ∷ ys)
first_alone (load_collection id box time bands) one xs ys = refl
first_alone (filter_bbox data_id box) one xs ys = refl
first_alone (filter_temporal data_id time name) one xs ys = refl
first_alone (filter_bands data_id bands) one xs ys = refl
first_alone (apply data_id c) one xs ys = refl
first_alone (apply_kernel data_id kernel factor border replace) one xs ys = refl
first_alone (reduce_dimension data_id name c) one xs ys = refl
first_alone (aggregate_temporal data_id intervals name c) one xs ys = refl
first_alone (aggregate_temporal_period data_id period name c) one xs ys = refl
first_alone (apply_dimension data_id callback) one xs ys = refl
first_alone (merge_cubes one_id two_id resolver) one xs ys = refl
first_alone (mask data_id mask_id replacement) one xs ys = refl
first_alone (save_result data_id format) one xs ys = refl

callback_alone : (r : CubeRequest) (one : Outline) (xs ys : List Outline) → callback_on r (one ∷ xs) ≡ callback_on r (one ∷ ys)
callback_alone r one xs ys = ap (option_and_then callback_in) (first_alone r one xs ys)

-- the cubes after the first
abbrev behind : CubeRequest → Outline → List Outline
behind (load_collection id box time bands) two = []
behind (filter_bbox data_id box) two = []
behind (filter_temporal data_id time name) two = []
behind (filter_bands data_id bands) two = []
behind (apply data_id c) two = []
behind (apply_kernel data_id kernel factor border replace) two = []
behind (reduce_dimension data_id name c) two = []
behind (aggregate_temporal data_id intervals name c) two = []
behind (aggregate_temporal_period data_id period name c) two = []
behind (apply_dimension data_id callback) two = []
behind (merge_cubes one_id two_id resolver) two = two ∷ []
behind (mask data_id mask_id replacement) two = two ∷ []
behind (save_result data_id format) two = []

among : (r : CubeRequest) (one two : Outline) → cubes_among r one two ≡ one ∷ behind r two
among (load_collection id box time bands) one two = refl
among (filter_bbox data_id box) one two = refl
among (filter_temporal data_id time name) one two = refl
among (filter_bands data_id bands) one two = refl
among (apply data_id c) one two = refl
among (apply_kernel data_id kernel factor border replace) one two = refl
among (reduce_dimension data_id name c) one two = refl
among (aggregate_temporal data_id intervals name c) one two = refl
among (aggregate_temporal_period data_id period name c) one two = refl
among (apply_dimension data_id callback) one two = refl
among (merge_cubes one_id two_id resolver) one two = refl
among (mask data_id mask_id replacement) one two = refl
among (save_result data_id format) one two = refl

-- ---- an operation without a fault

some_is : {A : Type 0} (P : A → Type 0) (o : Option A) (a : A) → o ≡ Some a → IfSome o P → P a
some_is P None a e h = absurd cc
some_is P (Some b) a e h = let same : b ≡ a = cc in subst P same h

same_so : (a b : CellKind) → not (same_cell_kind a b) ≡ false → b ≡ a
same_so Numbers Numbers e = refl
same_so Numbers Flags e = absurd cc
same_so Flags Numbers e = absurd cc
same_so Flags Flags e = refl

literal_fits : (kind : CellKind) (literal : Cell) → is_of_another kind literal ≡ false → IsOfKind kind literal
literal_fits Numbers Empty e = tt
literal_fits Numbers (Flag b) e = absurd cc
literal_fits Numbers (Number q) e = tt
literal_fits Numbers Over e = tt
literal_fits Flags Empty e = tt
literal_fits Flags (Flag b) e = tt
literal_fits Flags (Number q) e = absurd cc
literal_fits Flags Over e = tt

sound_under : (given : PlainScope) (c : Called) → IsResolvedCallback (scope_parameters given) c → IsFaultlessCallback (callback_under given c)
    → IsSoundUnder given (callback_under given c)
sound_under given c is faultless = record { scope_is = refl; keeps = keeps_kind (callback_under given c) is.resolved faultless }

-- the kinds that the operation takes
pub sound_on : (r : CubeRequest) (one two : Outline) → IsBuildable r → IsShape one.shape
    → IfSome (callback_on r (cubes_among r one two)) (λ c. IsFaultlessCallback c.1) → cell_kind_invalid r (cubes_among r one two) ≡ false
    → IfSome (operation_of r (cubes_among r one two)) (λ operation. IsSoundOn operation (cubes_among r one two))
sound_on (load_collection id box time bands) one two h s f k = tt
sound_on (filter_bbox data_id box) one two h s f k = tt
sound_on (filter_temporal data_id time name) one two h s f k = tt
sound_on (filter_bands data_id bands) one two h s f k = tt
sound_on (apply data_id c) one two h s f k = sound_under (scope.apply one.kind) c h f
sound_on (apply_kernel data_id kernel factor border replace) one two h s f k = tt
sound_on (reduce_dimension data_id name c) one two h s f k = by (dimension_named name) f
  where
    by : (o : Option Kind)
        → IfSome (option_and_then callback_in (option_map (λ kind. reduce kind (callback_under (reduction_scope kind one) c)) o)) (λ c. IsFaultlessCallback c.1)
        → IfSome (option_map (λ kind. reduce kind (callback_under (reduction_scope kind one) c)) o) (λ operation. IsSoundOn operation (one ∷ []))
    by None f = tt
    by (Some kind) f = sound_under (reduction_scope kind one) c h f
sound_on (aggregate_temporal data_id intervals name c) one two h s f k = (sound_under (interval_scope intervals one) c h.1 f, s)
sound_on (aggregate_temporal_period data_id period name c) one two h s f k =
    (sound_under (interval_scope (period_intervals period (number_labels one.shape Time)) one) c h f, s)
sound_on (apply_dimension data_id callback) one two h s f k = tt
sound_on (merge_cubes one_id two_id None) one two h s f k =
    (same_so one.kind two.kind (or_false _ _ k).0, tt)
sound_on (merge_cubes one_id two_id (Some c)) one two h s f k =
    let parts = or_false _ _ k in
    (same_so one.kind two.kind parts.0, (sound_under (scope.merge one.kind) c h f, sym (same_so _ one.kind parts.1)))
sound_on (mask data_id mask_id replacement) one two h s f k = literal_fits one.kind replacement k
sound_on (save_result data_id format) one two h s f k = tt

-- the labels that it brings
pub brings_labels : (r : CubeRequest) (cubes : List Outline) → IsShape (first_or no_outline cubes).shape → HasValidLabels r → IfSome (operation_of r cubes) BringsLabels
brings_labels (load_collection id box time bands) cubes v h = h
brings_labels (filter_bbox data_id box) cubes v h = tt
brings_labels (filter_temporal data_id time name) cubes v h = tt
brings_labels (filter_bands data_id bands) cubes v h = h
brings_labels (apply data_id c) cubes v h = tt
brings_labels (apply_kernel data_id kernel factor border replace) cubes v h = tt
brings_labels (reduce_dimension data_id name c) cubes v h = by (dimension_named name)
  where
    by : (o : Option Kind)
        → IfSome (option_map (λ kind. reduce kind (callback_under (reduction_scope kind (first_or no_outline cubes)) c)) o) BringsLabels
    by None = tt
    by (Some kind) = tt
brings_labels (aggregate_temporal data_id intervals name c) cubes v h = h
brings_labels (aggregate_temporal_period data_id period name c) cubes v h = period_labels period (first_or no_outline cubes).shape v
brings_labels (apply_dimension data_id callback) cubes v h = tt
brings_labels (merge_cubes one_id two_id resolver) cubes v h = tt
brings_labels (mask data_id mask_id replacement) cubes v h = tt
brings_labels (save_result data_id format) cubes v h = tt

-- ---- sizes

within : (d : Dimensions) (b : Bool) → is_within_limits d ≡ b → where_within_limits d ≡ (if b then Some d else None)
within d true e = rw e refl
within d false e = rw e refl

small : (d e : Dimensions) → Some e ≡ where_within_limits d → (is_within_limits d ≡ true) × (e ≡ d)
small d e is = by (is_within_limits d) refl
  where
    by : (b : Bool) → is_within_limits d ≡ b → (is_within_limits d ≡ true) × (e ≡ d)
    by true l = let same : Some e ≡ Some d = is ∙ within d true l in (l, cc)
    by false l = let none : Some e ≡ None = is ∙ within d false l in absurd cc

large : (d : Dimensions) (found : Option Dimensions) → found ≡ where_within_limits d → is_none found ≡ not (is_within_limits d)
large d found is = by (is_within_limits d) refl
  where
    by : (b : Bool) → is_within_limits d ≡ b → is_none found ≡ not (is_within_limits d)
    by true l = ap is_none (is ∙ within d true l) ∙ sym (ap not l)
    by false l = ap is_none (is ∙ within d false l) ∙ sym (ap not l)

too_large : (r : CubeRequest) (cubes : List Outline) (operation : Operation) → operation_of r cubes ≡ Some operation
    → cube_too_large r cubes ≡ gives_too_large cubes operation
too_large r cubes operation e = ap (λ o. option_map_or (gives_too_large cubes) o false) e

-- ---- running sums, and calendar periods

sums_operate : (r : CubeRequest) (g : PlainGraph) (cubes : List Outline) → sums_of r ≡ Some g → operation_of r cubes ≡ Some (accumulate (ignores_nulls g))
sums_operate (load_collection id box time bands) g cubes e = absurd cc
sums_operate (filter_bbox data_id box) g cubes e = absurd cc
sums_operate (filter_temporal data_id time name) g cubes e = absurd cc
sums_operate (filter_bands data_id bands) g cubes e = absurd cc
sums_operate (apply data_id c) g cubes e = absurd cc
sums_operate (apply_kernel data_id kernel factor border replace) g cubes e = absurd cc
sums_operate (reduce_dimension data_id name c) g cubes e = absurd cc
sums_operate (aggregate_temporal data_id intervals name c) g cubes e = absurd cc
sums_operate (aggregate_temporal_period data_id period name c) g cubes e = absurd cc
sums_operate (apply_dimension data_id callback) g cubes e = let same : callback ≡ g = cc in ap (λ x. Some (accumulate (ignores_nulls x))) same
sums_operate (merge_cubes one_id two_id resolver) g cubes e = absurd cc
sums_operate (mask data_id mask_id replacement) g cubes e = absurd cc
sums_operate (save_result data_id format) g cubes e = absurd cc

-- what a request for calendar periods is
record IsByPeriod (r : CubeRequest) : Type 0 where
  data_id : List ℕ
  period : Period
  name : Option (List ℕ)
  called : Called
  is : aggregate_temporal_period data_id period name called ≡ r

by_period : (r : CubeRequest) → is_by_period r ≡ true → IsByPeriod r
by_period (load_collection id box time bands) e = absurd cc
by_period (filter_bbox data_id box) e = absurd cc
by_period (filter_temporal data_id time name) e = absurd cc
by_period (filter_bands data_id bands) e = absurd cc
by_period (apply data_id c) e = absurd cc
by_period (apply_kernel data_id kernel factor border replace) e = absurd cc
by_period (reduce_dimension data_id name c) e = absurd cc
by_period (aggregate_temporal data_id intervals name c) e = absurd cc
by_period (aggregate_temporal_period data_id period name c) e = record { data_id = data_id; period = period; name = name; called = c; is = refl }
by_period (apply_dimension data_id callback) e = absurd cc
by_period (merge_cubes one_id two_id resolver) e = absurd cc
by_period (mask data_id mask_id replacement) e = absurd cc
by_period (save_result data_id format) e = absurd cc

period_operates : (r : CubeRequest) (one : Outline) (others : List Outline) → is_by_period r ≡ true → (operation : Operation) × (operation_of r (one ∷ others) ≡ Some operation)
period_operates r one others e =
    let b = by_period r e in
    subst (λ q. (operation : Operation) × (operation_of q (one ∷ others) ≡ Some operation)) b.is (_, refl)

periods_of_kind : (r : CubeRequest) (cubes : List Outline) → is_by_period r ≡ true → cell_kind_invalid r cubes ≡ false
periods_of_kind r cubes e = subst (λ q. cell_kind_invalid q cubes ≡ false) (by_period r e).is refl

periods_no_sums : (r : CubeRequest) → is_by_period r ≡ true → sums_of r ≡ None
periods_no_sums r e = subst (λ q. sums_of q ≡ None) (by_period r e).is refl

-- ---- the node

module _ (rows : List DimsRow) (at : List ℕ → Outline) (n : PlainNode) (r : CubeRequest) (p : Passes rows at n r)
    (one two : Outline) (works : WorksOn rows at r one two) where
  abbrev cubes : List Outline
  cubes = cubes_of rows at r

  first_cube : cubes ≡ one ∷ behind r two
  first_cube = works ∙ among r one two

  -- ---- where a fault stands in the callback

  to_inside : (code : Code) (name : List ℕ) → StandsInCallback n.id r one code name → StandsInside rows at n r p.asks p.none_holds code name
  to_inside code name (of_cells {argument = argument} {c = c} is s) = inl (argument, c, ap (callback_on r) first_cube ∙ is (behind r two), s)
  to_inside code name (of_sums {g = g} is s) = inr (g, is, s)

  from_inside : (code : Code) (name : List ℕ) → StandsInside rows at n r p.asks p.none_holds code name → StandsInCallback n.id r one code name
  from_inside code name (inl s) =
      of_cells {argument = s.0} {c = s.1} (λ others. callback_alone r one others (behind r two) ∙ (sym (ap (callback_on r) first_cube) ∙ s.2)) s.3
  from_inside code name (inr s) = of_sums {g = s.0} s.1 s.2

  least_inside : (fault : Fault) → IsLeast (StandsInCallback n.id r one) fault → IsLeast (StandsInside rows at n r p.asks p.none_holds) fault
  least_inside fault is = record {
    stands = to_inside fault.code fault.node is.stands;
    least = λ other s. is.least other (from_inside other.code other.node s);
  }

  -- an operation stands there, and its size is known
  operation_large : (operation : Operation) → operation_of r cubes ≡ Some operation → (found : Option Dimensions) → IsResultShape r one.shape two.shape found
      → is_none found ≡ cube_too_large r cubes
  operation_large operation e found shape =
      let size = large (shape_of operation (map (λ (o : Outline). o.shape) (cubes_among r one two))) found
      (shape one.kind two.kind operation (sym (ap (operation_of r) works) ∙ e)) in
      size
      ∙ (ap (λ (xs : List Outline). gives_too_large xs operation) (sym works)
      ∙ sym (too_large r cubes operation e))

  callback_large : (fault : Fault) → IsLeast (StandsInCallback n.id r one) fault → (found : Option Dimensions) → IsResultShape r one.shape two.shape found
      → is_none found ≡ cube_too_large r cubes
  callback_large fault is found shape = by_callback is.stands
    where
      by : (argument : List ℕ) (c : Callback) (o : Option Operation) → operation_of r cubes ≡ o → callback_on r cubes ≡ Some (argument, c)
          → is_none found ≡ cube_too_large r cubes
      by argument c None e on = let none : callback_on r cubes ≡ None = ap (option_and_then callback_in) e in absurd cc
      by argument c (Some operation) e on = operation_large operation e found shape

      by_callback : StandsInCallback n.id r one fault.code fault.node → is_none found ≡ cube_too_large r cubes
      by_callback (of_cells {argument = argument} {c = c} here s) =
          by argument c (operation_of r cubes) refl (ap (callback_on r) first_cube ∙ here (behind r two))
      by_callback (of_sums {g = g} here s) = operation_large (accumulate (ignores_nulls g)) (sums_operate r g cubes here) found shape

  -- so many periods are too many before their callback is judged
  pub too_many_periods : is_by_period r ≡ true → (found : Option Dimensions) → IsResultShape r one.shape two.shape found
      → is_none found ≡ true → IsLeast (StandsHere rows at n) (record { code = CubeTooLarge; node = n.id })
  too_many_periods periods found shape many =
      let operation = period_operates r one (behind r two) periods in
      size_first rows at n r p.asks p.none_holds (periods_of_kind r cubes periods)
      (sym (operation_large operation.0 (ap (operation_of r) first_cube ∙ operation.1) found shape) ∙ many) later
    where
      later : (other : Fault) → StandsInside rows at n r p.asks p.none_holds other.code other.node → is_before other (record { code = CubeTooLarge; node = n.id }) ≡ false
      later other (inl s) = inside_later n.id s.0 s.1 other.code other.node s.3
      later other (inr s) = let none : None ≡ Some s.0 = sym (periods_no_sums r periods) ∙ s.1 in absurd cc

  pub callback_alone_least : (fault : Fault) → IsLeast (StandsInCallback n.id r one) fault → (found : Option Dimensions) → IsResultShape r one.shape two.shape found
      → is_none found ≡ false → IsLeast (StandsHere rows at n) fault
  callback_alone_least fault is found shape few =
      inside_alone rows at n r p.asks p.none_holds fault (least_inside fault is) (sym (callback_large fault is found shape) ∙ few)

  pub callback_or_size : (fault : Fault) → IsLeast (StandsInCallback n.id r one) fault → (found : Option Dimensions) → IsResultShape r one.shape two.shape found
      → is_none found ≡ true → (b : Bool) → b ≡ is_before fault (record { code = CubeTooLarge; node = n.id })
      → IsLeast (StandsHere rows at n) (if b then fault else record { code = CubeTooLarge; node = n.id })
  callback_or_size fault is found shape many b before =
      inside_or_size rows at n r p.asks p.none_holds fault (least_inside fault is) b (sym before) (sym (callback_large fault is found shape) ∙ many)

  -- ---- where none stands in the callback

  module _ (operation : Operation) (op : (others : List Outline) → Some operation ≡ operation_of r (one ∷ others))
      (right : (others : List Outline) → IfSome (callback_on r (one ∷ others)) (λ c. IsFaultlessCallback c.1) × IfSome (sums_of r) AreSums) where
    is_operation : operation_of r cubes ≡ Some operation
    is_operation = ap (operation_of r) first_cube ∙ sym (op (behind r two))

    faultless : HasFaultlessCallback rows at r
    faultless =
        let both = right (behind r two) in
        (subst (λ (xs : List Outline). IfSome (callback_on r xs) (λ c. IsFaultlessCallback c.1)) (sym first_cube) both.0, both.1)

    kinds : takes_other_kinds operation one.kind two.kind ≡ cell_kind_invalid r cubes
    kinds =
        kinds_asked r one two operation (sym (ap (operation_of r) works) ∙ is_operation)
        ∙ ap (cell_kind_invalid r) (sym works)

    pub other_kinds : takes_other_kinds operation one.kind two.kind ≡ true → IsLeast (StandsHere rows at n) (record { code = CellKindInvalid; node = n.id })
    other_kinds wrong = wrong_kinds rows at n r p.asks p.none_holds faultless (sym kinds ∙ wrong)

    module _ (same : takes_other_kinds operation one.kind two.kind ≡ false) (found : Option Dimensions) (shape : IsResultShape r one.shape two.shape found) where
      result : found ≡ where_within_limits (shape_of operation (map (λ (o : Outline). o.shape) cubes))
      result =
          shape one.kind two.kind operation (sym (ap (operation_of r) works) ∙ is_operation)
          ∙ ap (λ (xs : List Outline). where_within_limits (shape_of operation (map (λ (o : Outline). o.shape) xs))) (sym works)

      size : is_none found ≡ cube_too_large r cubes
      size = large (shape_of operation (map (λ (o : Outline). o.shape) cubes)) found result ∙ sym (too_large r cubes operation is_operation)

      pub too_many : found ≡ None → IsLeast (StandsHere rows at n) (record { code = CubeTooLarge; node = n.id })
      too_many none = wrong_size rows at n r p.asks p.none_holds faultless (sym kinds ∙ same) (sym size ∙ ap is_none none)

      pub judged_sound : IsBuildable r → HasValidLabels r → IsShape one.shape → (kept : CheckedNode) → found ≡ Some (arc_value kept.shape)
          → operation ≡ plain_operation kept.operation → ((others : List CellKind) → kept.kind ≡ operation_kind operation (one.kind ∷ others))
          → kept.collection ≡ loaded_by r → IsJudgedSound rows at n kept
      judged_sound buildable labels valid kept some operation_is kind_is collection_is = record {
        no_fault = no_fault rows at n r p.asks p.none_holds faultless (sym kinds ∙ same) (sym size ∙ ap is_none some);
        operation_is =
            ap (option_and_then (λ (q : CubeRequest). operation_of q (cubes_of rows at q))) p.asks ∙ (is_operation ∙ ap Some operation_is);
        sound_operation = sound_operation;
        collection_is = ap (option_and_then loaded_by) p.asks ∙ sym collection_is;
        outline_is = outline_is;
      }
        where
          limits : (is_within_limits (shape_of operation (map (λ (o : Outline). o.shape) cubes)) ≡ true)
              × (arc_value kept.shape ≡ shape_of operation (map (λ (o : Outline). o.shape) cubes))
          limits = small (shape_of operation (map (λ (o : Outline). o.shape) cubes)) (arc_value kept.shape) (sym some ∙ result)

          sound_kinds : IsSoundOn operation cubes
          sound_kinds =
              subst (IsSoundOn operation) (sym works)
              (some_is (λ o. IsSoundOn o (cubes_among r one two)) (operation_of r (cubes_among r one two)) operation
              (sym (ap (operation_of r) works) ∙ is_operation)
              (sound_on r one two buildable valid
              (subst (λ (xs : List Outline). IfSome (callback_on r xs) (λ c. IsFaultlessCallback c.1)) works faultless.0)
              (ap (cell_kind_invalid r) (sym works) ∙ (sym kinds ∙ same))))

          is_sound : IsSoundOperation operation cubes
          is_sound = record {
            kinds = sound_kinds;
            labels = some_is BringsLabels (operation_of r cubes) operation is_operation
                (brings_labels r cubes (subst (λ (xs : List Outline). IsShape (first_or no_outline xs).shape) (sym first_cube) valid) labels);
            limits = limits.0;
          }

          sound_operation : (q : CubeRequest) (other : Operation) → cube_request_at n ≡ Some q → operation_of q (cubes_of rows at q) ≡ Some other
              → IsSoundOperation other (cubes_of rows at q)
          sound_operation q other e f =
              let mine : r ≡ q = let asks = p.asks in cc in
              let g : operation_of r cubes ≡ Some other = subst (λ (x : CubeRequest). operation_of x (cubes_of rows at x) ≡ Some other) (sym mine) f in
              let equal : operation ≡ other = let h = is_operation in cc in
              subst (λ (x : CubeRequest). IsSoundOperation other (cubes_of rows at x)) mine (subst (λ o. IsSoundOperation o cubes) equal is_sound)

          kind_there : operation_kind operation (map (λ (o : Outline). o.kind) cubes) ≡ kept.kind
          kind_there =
              ap (λ (xs : List Outline). operation_kind operation (map (λ (o : Outline). o.kind) xs)) first_cube
              ∙ sym (kind_is (map (λ (o : Outline). o.kind) (behind r two)))

          outline_is : node_outline rows at n ≡ outline_kept kept
          outline_is =
              ap (λ o. option_map_or (request_outline rows at) o no_outline) p.asks
              ∙ (ap (λ o. option_map_or (λ (x : Operation). outline_of x cubes) o no_outline) is_operation
              ∙ (ap (λ (d : Dimensions). record { shape = d; kind = operation_kind operation (map (λ (o : Outline). o.kind) cubes) }) (sym limits.1)
              ∙ ap (λ (k : CellKind). record { shape = arc_value kept.shape; kind = k }) kind_there))

  -- ---- there is an operation, since a dimension of another name is not available

  pub has_operation : ((others : List Outline) → None ≡ operation_of r (one ∷ others)) → ⊥
  has_operation none = absent r one (behind r two) (none (behind r two))
      (subst (λ (xs : List Outline). dimension_not_available r xs ≡ false) first_cube (none_holds rows r cubes p.none_holds).dimension)
    where
      no_such : (o : Option Kind) (d : Dimensions) (given : Kind → Callback) → None ≡ option_map (λ kind. reduce kind (given kind)) o
          → option_map_or (λ along. lacks_dimension along d) o true ≡ false → ⊥
      no_such None d given e f = true≢false f
      no_such (Some kind) d given e f = absurd cc

      absent : (q : CubeRequest) (first : Outline) (rest : List Outline) → None ≡ operation_of q (first ∷ rest) → dimension_not_available q (first ∷ rest) ≡ false → ⊥
      absent (load_collection id box time bands) first rest e f = absurd cc
      absent (filter_bbox data_id box) first rest e f = absurd cc
      absent (filter_temporal data_id time name) first rest e f = absurd cc
      absent (filter_bands data_id bands) first rest e f = absurd cc
      absent (apply data_id c) first rest e f = absurd cc
      absent (apply_kernel data_id kernel factor border replace) first rest e f = absurd cc
      absent (reduce_dimension data_id name c) first rest e f =
          no_such (dimension_named name) first.shape (λ kind. callback_under (reduction_scope kind first) c) e f
      absent (aggregate_temporal data_id intervals name c) first rest e f = absurd cc
      absent (aggregate_temporal_period data_id period name c) first rest e f = absurd cc
      absent (apply_dimension data_id callback) first rest e f = absurd cc
      absent (merge_cubes one_id two_id resolver) first rest e f = absurd cc
      absent (mask data_id mask_id replacement) first rest e f = absurd cc
      absent (save_result data_id format) first rest e f = absurd cc

-- ---- the rows that a callback's faults wait for, from the shapes of the cubes alone

first_true : (table : List JudgedRow) (code : Code) (b : Bool) → slice_get table 0 ≡ Some (code, b) → b ≡ true → first_row table ≡ Some code
first_true [] code b at e = absurd cc
first_true (row ∷ table) code b at e =
    let same : row ≡ (code, b) = cc in subst (λ (x : JudgedRow). first_row (x ∷ table) ≡ Some code) (sym same) (by b e)
  where
    by : (t : Bool) → t ≡ true → first_row ((code, t) ∷ table) ≡ Some code
    by true e = refl
    by false e = absurd cc

pub not_found : (rows : List DimsRow) (at : List ℕ → Outline) (n : PlainNode) (r : CubeRequest) → cube_request_at n ≡ Some r → collection_not_found rows r ≡ true
    → IsLeast (StandsHere rows at n) (record { code = CollectionNotFound; node = n.id })
not_found rows at n r asks missing =
    found_early rows at n r asks CollectionNotFound
    (first_true (early_rows rows r (cubes_of rows at r)) CollectionNotFound (collection_not_found rows r) refl missing)

-- a collection of an id
abbrev rows_with : List ℕ → List DimsRow
rows_with id = record { id = id; shape = no_dimensions; kind = Numbers } ∷ []

found_among : (r : CubeRequest) → (rows : List DimsRow) × (collection_not_found rows r ≡ false)
found_among (load_collection id box time bands) = (rows_with id, rw (same_name_refl id) refl)
found_among (filter_bbox data_id box) = ([], refl)
found_among (filter_temporal data_id time name) = ([], refl)
found_among (filter_bands data_id bands) = ([], refl)
found_among (apply data_id c) = ([], refl)
found_among (apply_kernel data_id kernel factor border replace) = ([], refl)
found_among (reduce_dimension data_id name c) = ([], refl)
found_among (aggregate_temporal data_id intervals name c) = ([], refl)
found_among (aggregate_temporal_period data_id period name c) = ([], refl)
found_among (apply_dimension data_id callback) = ([], refl)
found_among (merge_cubes one_id two_id resolver) = ([], refl)
found_among (mask data_id mask_id replacement) = ([], refl)
found_among (save_result data_id format) = ([], refl)

abbrev pub numbers_of : Dimensions → Outline
numbers_of d = record { shape = d; kind = Numbers }

pub none_early : (r : CubeRequest) (one two : Dimensions) → IsEarlyFault r one two None → NoneHolds r (cubes_among r (numbers_of one) (numbers_of two))
none_early r one two e =
    let rows = found_among r in
    none_holds rows.0 r (cubes_among r (numbers_of one) (numbers_of two)) (sym (e rows.0 Numbers Numbers rows.1))

-- the first row that holds, where the cubes are these
pub first_early : (rows : List DimsRow) (at : List ℕ → Outline) (r : CubeRequest) (one two : Outline) (code : Option Code)
    → AreInputs rows at r (Some (one, two)) → IsEarlyFault r one.shape two.shape code → first_row (early_rows rows r (cubes_of rows at r)) ≡ code
first_early rows at r one two code inputs e =
    ap (λ (cubes : List Outline). first_row (early_rows rows r cubes)) inputs.1 ∙ sym (e rows one.kind two.kind inputs.0)
