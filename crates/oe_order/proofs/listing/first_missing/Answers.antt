use Rattle.std.proofs.Common.{arith}
use Rattle.oe_order.proofs.Lists.{contains-at}
use Rattle.oe_order.proofs.Gets.{get_is, get_none}
use Rattle.oe_order.proofs.listing.first_missing.Goals as goal

pub bounds-standing-arguments : goal.bounds-standing-arguments
bounds-standing-arguments c = c.requires.within _ (contains-at c.args.arguments.now c.loop-at.at 0 (omega arith))

pub returns-else-standing-arguments-clause-lacks : goal.returns-else-standing-arguments-clause-lacks
returns-else-standing-arguments-clause-lacks c = λ a e. let i = get_is c.args.arguments.now c.loop-at.at a e in cc

pub returns-after-loop-at-clause-lacks : goal.returns-after-loop-at-clause-lacks
returns-after-loop-at-clause-lacks c = λ a e. get_none c.args.arguments.now c.loop-at.at a (omega arith) e
