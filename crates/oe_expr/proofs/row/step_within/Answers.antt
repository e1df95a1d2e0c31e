use Rattle.std.proofs.Common.{arith}
use Rattle.std.proofs.lemmas.Grind.{common_steps, elements}
use Rattle.oe_expr.proofs.row.step_within.Goals as goal

pub returns-clause-before : goal.returns-clause-before
returns-clause-before c = grind (arith, common_steps) steps 2000000

pub returns-clause-value : goal.returns-clause-value
returns-clause-value c = grind (arith, elements) steps 2000000
