use Rattle.std.proofs.Common.{arith}
use Rattle.std.proofs.lemmas.Grind.{common_steps, elements}
use Rattle.oe_order.proofs.NodeOrder.step_of.Goals as goal

pub returns-clause-found : goal.returns-clause-found
returns-clause-found c = grind (arith, common_steps) steps 2000000

pub returns-clause-none : goal.returns-clause-none
returns-clause-none c = grind (arith, elements) steps 2000000

pub returns-clause-only : goal.returns-clause-only
returns-clause-only c = grind (arith, common_steps) steps 2000000

pub returns-then-node-len-clause-none : goal.returns-then-node-len-clause-none
returns-then-node-len-clause-none c = grind (arith, elements) steps 2000000

pub returns-then-step-len-clause-none : goal.returns-then-step-len-clause-none
returns-then-step-len-clause-none c = grind (arith, elements) steps 2000000

pub returns-then-step-len-clause-only : goal.returns-then-step-len-clause-only
returns-then-step-len-clause-only c = grind (arith, common_steps) steps 2000000
