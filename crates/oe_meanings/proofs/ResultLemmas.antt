-- Shapes of results: that they are valid where they are within the limits, from their parts.
use Rattle.std.proofs.Common.{◌≡◌, ℕ, Bool, true, false, ◌≤◌, List, refl, sym, ◌∙◌, subst, arith, Option, Some, None, ℤ, nat_le, true≢false}
use Rattle.std.specs.Global.{Global}
use Rattle.std.specs.Bool.{⊤}
use Rattle.std.specs.Prelude.{Vec, IfSome}
use Rattle.std.specs.Option.{option_map}
use Rattle.oe_dims.proofs.ShapeLemmas.{is_within_limit_kind, cell_count_within}
use Rattle.oe_dims.specs.Dimensions.{Dimensions, IsShape, number_labels, shape_fault, cell_count, most_cells}
use Rattle.oe_dims.specs.Lists.{items_of, dimensions_with}
use Rattle.oe_dims.specs.declared.kind.Kind.{Kind}
use Rattle.oe_dims.specs.declared.kind.Kind.TheVariants.{Time, Bands, Y, X}
use Rattle.oe_dims.specs.declared.shape.ShapeFault.{ShapeFault}
use Rattle.oe_periods.specs.declared.calendar.Period.{Period}
use Rattle.oe_meanings.proofs.PeriodLemmas.{period_labels, period_shape_is}
use Rattle.oe_meanings.proofs.ValidLemmas.{labelled_shape, is_shape, kept_labelled, without_labelled, aggregated_labelled, merged_labelled}
use Rattle.oe_requests.specs.Extents.{Restriction, shape_of_restriction}
use Rattle.oe_requests.specs.Labels.{shape_of_merge}
use Rattle.oe_requests.specs.Operations.{without_dimension, shape_of_aggregation}
use Rattle.oe_requests.specs.Periods.{period_intervals, period_shape}
use Rattle.oe_meanings.specs.Results.{where_within_limits}
use Rattle.oe_meanings.specs.ValidShapes.{is_within_limits, AreBands, AreIntervalLabels, labels_of}
use Rattle.oe_requests.specs.declared.extent.Interval.{Interval}

abbrev IsNothing : {A : Type 0} → Option A → Type 0
IsNothing None = ⊤
IsNothing (Some a) = ⊥

is_few : (n : ℕ) → n ≤ most_cells → nat_le n most_cells ≡ true
is_few n h = grind arith

limits_of_shape : (d : Dimensions) → IsShape d → is_within_limits d ≡ true
limits_of_shape d h =
    let few = is_few (cell_count d) (cell_count_within d h) in
    rw (is_within_limit_kind d h Time, is_within_limit_kind d h Bands, is_within_limit_kind d h Y, is_within_limit_kind d h X, few) refl

pub valid_within : (d : Dimensions) → IsShape d → where_within_limits d ≡ Some d
valid_within d h = rw (limits_of_shape d h) refl

pub past_limits : (d : Dimensions) → is_within_limits d ≡ false → where_within_limits d ≡ None
past_limits d h = rw h refl

pub none_within : (d : Dimensions) (fault : ShapeFault) → (is_within_limits d ≡ true → IsShape d) → shape_fault d ≡ Some fault → where_within_limits d ≡ None
none_within d fault valid h = by (is_within_limits d) refl
  where
    nothing : {A : Type 0} {a : A} → None ≡ Some a → ⊥
    nothing e = subst (λ o. IsNothing o) e tt

    by : (b : Bool) → is_within_limits d ≡ b → where_within_limits d ≡ None
    by true is = absurd (nothing (sym (valid is) ∙ h))
    by false is = past_limits d is

-- dimensions from their parts
pub from_parts : (d : Dimensions) (epsg : ℕ) (t : Option (Vec ℤ Global)) (bands : Option (Vec (List ℕ) Global)) (y x : Option (Vec ℤ Global))
    → epsg ≡ d.epsg → option_map items_of t ≡ d.t → option_map items_of bands ≡ d.bands → option_map items_of y ≡ d.y → option_map items_of x ≡ d.x
    → dimensions_with epsg t bands y x ≡ d
from_parts d epsg t bands y x e f g h k = rw (e, f, g, h, k) refl

pub without_valid : (kind : Kind) (d : Dimensions) → IsShape d → is_within_limits (without_dimension kind d) ≡ true → IsShape (without_dimension kind d)
without_valid kind d h l = is_shape (without_dimension kind d) (without_labelled kind d (labelled_shape d h)) l

pub kept_valid : (r : Restriction) (d : Dimensions) → IfSome r.bands AreBands → IsShape d → is_within_limits (shape_of_restriction r d) ≡ true → IsShape (shape_of_restriction r d)
kept_valid r d g h l = is_shape (shape_of_restriction r d) (kept_labelled r d g (labelled_shape d h)) l

pub aggregated_valid : (intervals : List Interval) (d : Dimensions) → AreIntervalLabels (labels_of intervals) → IsShape d → is_within_limits (shape_of_aggregation intervals d) ≡ true → IsShape (shape_of_aggregation intervals d)
aggregated_valid intervals d g h l = is_shape (shape_of_aggregation intervals d) (aggregated_labelled intervals d g (labelled_shape d h)) l

pub merged_valid : (one two : Dimensions) → IsShape one → IsShape two → is_within_limits (shape_of_merge one two) ≡ true → IsShape (shape_of_merge one two)
merged_valid one two h k l = is_shape (shape_of_merge one two) (merged_labelled one two (labelled_shape one h) (labelled_shape two k)) l

pub period_valid : (period : Period) (d : Dimensions) → IsShape d → is_within_limits (period_shape period d) ≡ true → IsShape (period_shape period d)
period_valid period d v l =
    let same = period_shape_is period d v in
    subst IsShape same
    (aggregated_valid (period_intervals period (number_labels d Time)) d (period_labels period d v) v (subst (λ s. is_within_limits s ≡ true) (sym same) l))
