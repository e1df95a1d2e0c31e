use Rattle.std.proofs.Common.{arith}
use Rattle.std.proofs.lemmas.Grind.{common_steps}
use Rattle.oe_cell.proofs.arith.modulo.Goals as goal

pub returns-in-Numbers-clause-floor : goal.returns-in-Numbers-clause-floor
returns-in-Numbers-clause-floor c = grind (arith, common_steps) steps 2000000
