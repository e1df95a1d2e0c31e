use Rattle.std.proofs.Common.{◌∙◌, ◌&&◌, ap, sym, Bool}
use Rattle.oe_dims.specs.Names.{are_apart}
use Rattle.oe_dims.proofs.BlockLemmas.{are_apart-same}
use Rattle.oe_dims.proofs.distinct.block_differs.Goals as goal

pub returns-then-sort_indices : goal.returns-then-sort_indices
returns-then-sort_indices c =
    let block = c.args.block.now in
    let others = c.args.others.now in
    let differ = sym c.if-sort_indices.true ∙ c.sort_indices.ensures.value in
    c.are_apart.ensures
    ∙ are_apart-same _ block others c.sort_indices.ensures.same
    ∙ ap (λ (b : Bool). b && are_apart block others) differ
