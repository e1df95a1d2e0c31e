use Rattle.oe_slab.proofs.FoldLemmas.{bound_is}
use Rattle.oe_slab.proofs.figures.bound_at.Goals as goal

pub returns : goal.returns
returns c =
    let sizes = c.sizes_of.result in
    bound_is c.args.checked.now c.args.size c.args.cut.fold c.args.cut.width_before c.args.cut.width_behind sizes.plane sizes.slab
    sizes.scratch c.bound_of.result c.requires.before c.requires.behind c.sizes_of.ensures.plane c.sizes_of.ensures.slab
    c.sizes_of.ensures.scratch c.bound_of.ensures
