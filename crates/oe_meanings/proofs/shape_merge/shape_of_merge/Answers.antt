use Rattle.std.proofs.Common.{◌≡◌, ◌∙◌, sym, ap, subst, true}
use Rattle.oe_dims.specs.Dimensions.{IsShape}
use Rattle.oe_requests.specs.Labels.{shape_of_merge}
use Rattle.oe_meanings.specs.Results.{where_within_limits}
use Rattle.oe_meanings.specs.ValidShapes.{is_within_limits}
use Rattle.oe_meanings.proofs.ResultLemmas.{from_parts, merged_valid}
use Rattle.oe_meanings.proofs.shape_merge.shape_of_merge.Goals as goal

pub shape_within-requires : goal.shape_within-requires
shape_within-requires c =
    let is = from_parts (shape_of_merge c.args.one.now c.args.two.now) _ _ _ _ _ c.epsg_of_either.ensures.value c.in_ok-t.ensures c.in_ok-bands.ensures c.in_ok-y.ensures c.in_ok-x.ensures in
    record { valid = λ l. subst IsShape (sym is) (merged_valid c.args.one.now c.args.two.now c.epsg_of_either.ensures.one c.epsg_of_either.ensures.two (subst (λ d. is_within_limits d ≡ true) is l)) }

pub returns : goal.returns
returns c =
    c.shape_within.ensures
    ∙ ap where_within_limits (from_parts (shape_of_merge c.args.one.now c.args.two.now) _ _ _ _ _ c.epsg_of_either.ensures.value c.in_ok-t.ensures c.in_ok-bands.ensures c.in_ok-y.ensures c.in_ok-x.ensures)
