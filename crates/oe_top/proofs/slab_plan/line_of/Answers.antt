use Rattle.std.proofs.Common.{Err, ap}
use Rattle.oe_top.proofs.slab_plan.line_of.Goals as goal

pub returns-in-Err-NoTimeFold-clause-none : goal.returns-in-Err-NoTimeFold-clause-none
returns-in-Err-NoTimeFold-clause-none c = λ _.
    c.in-Err-NoTimeFold.ensures.none (ap Err c.in-Err-NoTimeFold.field-0-is)
