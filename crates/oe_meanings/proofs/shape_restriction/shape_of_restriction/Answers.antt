use Rattle.std.proofs.Common.{◌≡◌, ◌∙◌, sym, ap, subst, true}
use Rattle.oe_dims.specs.Dimensions.{IsShape}
use Rattle.oe_requests.specs.Extents.{shape_of_restriction}
use Rattle.oe_requests.specs.PlainRequests.{plain_restriction}
use Rattle.oe_meanings.specs.Results.{where_within_limits}
use Rattle.oe_meanings.specs.ValidShapes.{is_within_limits}
use Rattle.oe_meanings.proofs.ResultLemmas.{from_parts, kept_valid}
use Rattle.oe_meanings.proofs.shape_restriction.shape_of_restriction.Goals as goal

pub shape_within-requires : goal.shape_within-requires
shape_within-requires c =
    let kept = shape_of_restriction (plain_restriction c.args.restriction.now) c.args.shape.now in
    let is = from_parts kept _ _ _ _ _ c.epsg.ensures.value c.in_ok-t.ensures c.in_ok-bands.ensures c.in_ok-y.ensures c.in_ok-x.ensures in
    record { valid = λ l. subst IsShape (sym is) (kept_valid (plain_restriction c.args.restriction.now) c.args.shape.now c.requires.bands c.epsg.ensures.valid (subst (λ d. is_within_limits d ≡ true) is l)) }

pub returns : goal.returns
returns c =
    c.shape_within.ensures
    ∙ ap where_within_limits (from_parts (shape_of_restriction (plain_restriction c.args.restriction.now) c.args.shape.now) _ _ _ _ _ c.epsg.ensures.value c.in_ok-t.ensures c.in_ok-bands.ensures c.in_ok-y.ensures c.in_ok-x.ensures)
