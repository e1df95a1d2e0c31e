use Rattle.std.proofs.Common.{◌≡◌, ◌∙◌, sym, ap, subst, true, Some}
use Rattle.oe_dims.specs.Dimensions.{IsShape}
use Rattle.oe_requests.specs.Operations.{shape_of_aggregation}
use Rattle.oe_meanings.specs.Results.{where_within_limits}
use Rattle.oe_meanings.specs.ValidShapes.{is_within_limits}
use Rattle.oe_meanings.proofs.ResultLemmas.{from_parts, aggregated_valid}
use Rattle.oe_meanings.proofs.shape_aggregation.shape_of_aggregation.Goals as goal

pub shape_within-requires : goal.shape_within-requires
shape_within-requires c =
    let is = from_parts (shape_of_aggregation c.args.intervals.now c.args.shape.now) _ (Some c.in_ok-t.t) _ _ _ c.epsg.ensures.value (ap Some c.in_ok-t.ensures) c.in_ok-bands.ensures c.in_ok-y.ensures c.in_ok-x.ensures in
    record { valid = λ l. subst IsShape (sym is) (aggregated_valid c.args.intervals.now c.args.shape.now c.requires.labels c.epsg.ensures.valid (subst (λ d. is_within_limits d ≡ true) is l)) }

pub returns : goal.returns
returns c =
    c.shape_within.ensures
    ∙ ap where_within_limits (from_parts (shape_of_aggregation c.args.intervals.now c.args.shape.now) _ (Some c.in_ok-t.t) _ _ _ c.epsg.ensures.value (ap Some c.in_ok-t.ensures) c.in_ok-bands.ensures c.in_ok-y.ensures c.in_ok-x.ensures)
