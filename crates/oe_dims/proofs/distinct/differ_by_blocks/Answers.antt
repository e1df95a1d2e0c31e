use Rattle.std.proofs.Common.{◌∙◌, ◌&&◌, ap, sym, Bool}
use Rattle.oe_dims.specs.Dimensions.{all_differ}
use Rattle.oe_dims.proofs.BlockLemmas.{rest_decides}
use Rattle.oe_dims.proofs.distinct.differ_by_blocks.Goals as goal

pub returns-then-not-block_differs : goal.returns-then-not-block_differs
returns-then-not-block_differs c =
    let others = c.split_at.result.1.now in
    let rest = rest_decides _ c.split_at.result.0.now others _ c.split_at.ensures.by_index.0 c.block_differs.ensures in
    sym (c.loop-rest.invariant ∙ rest ∙ ap (λ (b : Bool). b && all_differ others) c.if-not-block_differs.true)

pub loop-rest-preserved : goal.loop-rest-preserved
loop-rest-preserved c =
    let others = c.split_at.result.1.now in
    let rest = rest_decides _ c.split_at.result.0.now others _ c.split_at.ensures.by_index.0 c.block_differs.ensures in
    c.loop-rest.invariant ∙ rest ∙ ap (λ (b : Bool). b && all_differ others) c.if-not-block_differs.false
