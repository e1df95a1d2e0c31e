use Rattle.std.proofs.Common.{sym, ◌∙◌, ◌-◌, arith}
use Rattle.std.proofs.lemmas.Grind.{common_steps}
use borrow.Author.Differences.{ints}
use Rattle.oe_dims.proofs.OrderLemmas.{rises_all}
use Rattle.oe_dims.proofs.order.rises.Goals as goal

pub returns : goal.returns
returns c =
    sym (c.loop-index.invariant ∙ rises_all c.args.labels.now (c.loop-index.index - 1) (omega arith))

pub loop-index-preserved : goal.loop-index-preserved
loop-index-preserved c = grind (ints, arith, common_steps) steps 2000000

pub returns-then-labels-index : goal.returns-then-labels-index
returns-then-labels-index c = grind (arith, common_steps) steps 2000000
