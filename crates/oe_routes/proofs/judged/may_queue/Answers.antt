use Rattle.std.proofs.Common.{arith}
use Rattle.std.proofs.lemmas.Grind.{common_steps}
use Rattle.oe_routes.proofs.judged.may_queue.Goals as goal

pub returns : goal.returns
returns c = grind (arith, common_steps) steps 2000000

pub returns-in_err-graph : goal.returns-in_err-graph
returns-in_err-graph c = grind (arith, common_steps) steps 2000000

pub returns-in_err-judged : goal.returns-in_err-judged
returns-in_err-judged c = grind (arith, common_steps) steps 2000000

pub returns-then-is_busy : goal.returns-then-is_busy
returns-then-is_busy c = grind (arith, common_steps) steps 2000000
