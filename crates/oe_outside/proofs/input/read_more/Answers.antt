use Rattle.std.proofs.Common.{arith}
use Rattle.std.proofs.lemmas.Grind.{common_steps}
use Rattle.oe_outside.proofs.input.read_more.Goals as goal

pub returns-clause-read : goal.returns-clause-read
returns-clause-read c = grind (arith, common_steps) steps 2000000
