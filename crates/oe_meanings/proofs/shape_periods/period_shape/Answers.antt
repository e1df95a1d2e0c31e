use Rattle.std.proofs.Common.{◌≡◌, ◌<◌, ◌∙◌, sym, ap, subst, true, Some, arith}
use Rattle.oe_dims.specs.Dimensions.{Dimensions, IsShape, most_labels, number_labels}
use Rattle.oe_dims.specs.declared.kind.Kind.TheVariants.{Time}
use Rattle.oe_requests.specs.Operations.{shape_of_aggregation}
use Rattle.oe_requests.specs.Periods.{period_intervals, period_shape}
use Rattle.oe_meanings.specs.Results.{where_within_limits}
use Rattle.oe_meanings.specs.ValidShapes.{is_within_limits}
use Rattle.oe_meanings.proofs.PeriodLemmas.{starts_are, too_many, period_shape_is}
use Rattle.oe_meanings.proofs.ResultLemmas.{from_parts, past_limits, period_valid}
use Rattle.oe_meanings.proofs.shape_periods.period_shape.Goals as goal

pub returns-then-count-gt-MOST_LABELS : goal.returns-then-count-gt-MOST_LABELS
returns-then-count-gt-MOST_LABELS c =
    let d = c.args.shape.now in
    let are = c.periods_over-periods.ensures.value in
    let many : most_labels < c.periods_over-periods.result.count = omega (arith, c.if-count-gt-MOST_LABELS.true, c.count.ensures.value) in
    sym (ap where_within_limits (period_shape_is c.args.period d c.periods_over-periods.ensures.valid)
    ∙ past_limits (period_shape c.args.period d) (too_many c.args.period d c.periods_over-periods.result are many))

pub shape_within-requires : goal.shape_within-requires
shape_within-requires c =
    let starts = starts_are c.args.period (number_labels c.args.shape.now Time) _ c.periods_over-periods.ensures.value in
    let is = from_parts (period_shape c.args.period c.args.shape.now) _ (Some c.in_ok-t.t) _ _ _ c.epsg.ensures.value (ap Some (c.in_ok-t.ensures ∙ starts)) c.in_ok-bands.ensures c.in_ok-y.ensures c.in_ok-x.ensures in
    record { valid = λ l. subst IsShape (sym is) (period_valid c.args.period c.args.shape.now c.epsg.ensures.valid (subst (λ d. is_within_limits d ≡ true) is l)) }

pub returns : goal.returns
returns c =
    let starts = starts_are c.args.period (number_labels c.args.shape.now Time) _ c.periods_over-periods.ensures.value in
    c.shape_within.ensures
    ∙ ap where_within_limits (from_parts (period_shape c.args.period c.args.shape.now) _ (Some c.in_ok-t.t) _ _ _ c.epsg.ensures.value (ap Some (c.in_ok-t.ensures ∙ starts)) c.in_ok-bands.ensures c.in_ok-y.ensures c.in_ok-x.ensures)
    ∙ ap where_within_limits (sym (period_shape_is c.args.period c.args.shape.now c.epsg.ensures.valid))
