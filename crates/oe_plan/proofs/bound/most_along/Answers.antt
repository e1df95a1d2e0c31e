use Rattle.std.proofs.Common.{◌≡◌, ◌∙◌, ap, get_or, arith}
use Rattle.oe_dims.specs.Dimensions.{Dimensions}
use Rattle.oe_window.specs.Windows.{extent_along}
use Rattle.oe_plan.proofs.SizeLemmas.{most_more}
use Rattle.oe_plan.specs.Figures.{shape_of_node}
use Rattle.oe_plan.proofs.bound.most_along.Goals as goal

pub loop-node-preserved : goal.loop-node-preserved
loop-node-preserved c =
    let steps = c.args.steps.now in
    let i = c.loop-node.node-index in
    let extent : c.extent_of.result ≡ extent_along (shape_of_node c.args.checked.now (get_or steps i 0)) c.args.along =
    c.extent_of.ensures.value ∙ ap (λ (d : Dimensions). extent_along d c.args.along) c.shape.ensures in (
      most_more (λ node. extent_along (shape_of_node c.args.checked.now node) c.args.along) steps i c.loop-node.most
          c.max-most.result (omega arith) c.loop-node.invariant.0 (omega arith),
      omega (arith, c.extent_of.ensures.most),
    )
