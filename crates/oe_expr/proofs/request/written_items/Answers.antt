use Rattle.std.proofs.Common.{sym, arith}
use Rattle.std.proofs.lemmas.Grind.{common_steps}
use Rattle.oe_expr.proofs.ArgumentLemmas.{too_long}
use Rattle.oe_expr.proofs.request.written_items.Goals as goal

pub returns-then-len-gt-MOST_ELEMENTS : goal.returns-then-len-gt-MOST_ELEMENTS
returns-then-len-gt-MOST_ELEMENTS c = sym (too_long c.args.args.now.items (omega arith))

pub loop-arg-preserved : goal.loop-arg-preserved
loop-arg-preserved c = grind (arith, common_steps) steps 2000000

pub returns : goal.returns
returns c = grind (arith, common_steps) steps 2000000

pub returns-in-None : goal.returns-in-None
returns-in-None c = grind (arith, common_steps) steps 2000000
