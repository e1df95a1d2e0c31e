use Rattle.std.proofs.Common.{◌∙◌, sym}
use Rattle.oe_ops.proofs.IndexLemmas.{found_below}
use Rattle.oe_ops.proofs.needs.with_label.Goals as goal

pub with_index-requires : goal.with_index-requires
with_index-requires c = found_below c.args.along c.args.shape.now c.args.argument.now c.args.index c.in-Some.other c.requires.valid (sym c.index_in.ensures.value ∙ c.in-Some.is)
