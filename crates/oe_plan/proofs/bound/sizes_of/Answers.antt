use Rattle.std.proofs.Common.{◌≡◌, ◌∙◌}
use Rattle.oe_dims.specs.declared.kind.Kind.TheVariants.{Time, Bands, Y, X}
use Rattle.oe_plan.proofs.SizeLemmas.{product_is}
use Rattle.oe_plan.specs.Figures.{side_along}
use Rattle.oe_plan.proofs.bound.sizes_of.Goals as goal

pub returns-clause-largest : goal.returns-clause-largest
returns-clause-largest c =
    let graph = c.args.checked.now in
    let size = c.args.size in
    let sides = c.sides_of-sides.result in
    c.product.ensures.value
    ∙ product_is sides.t sides.bands sides.y sides.x
    (side_along graph size Time) (side_along graph size Bands) (side_along graph size Y) (side_along graph size X)
    c.sides_of-sides.ensures.t c.sides_of-sides.ensures.bands c.sides_of-sides.ensures.y c.sides_of-sides.ensures.x
