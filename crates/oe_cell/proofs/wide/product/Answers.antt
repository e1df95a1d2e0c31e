use Rattle.std.proofs.Common.{arith}
use Rattle.std.proofs.lemmas.Grind.{common_steps}
use Rattle.oe_cell.proofs.wide.product.Goals as goal

pub returns-clause-bound : goal.returns-clause-bound
returns-clause-bound c = grind (arith, common_steps) steps 2000000
