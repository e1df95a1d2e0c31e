use Rattle.std.proofs.Common.{arith}
use Rattle.std.proofs.lemmas.Grind.{common_steps}
use Rattle.oe_dims.proofs.instant.seconds_after.Goals as goal

pub returns-clause-after : goal.returns-clause-after
returns-clause-after c = grind (arith, common_steps) steps 2000000

pub returns-clause-most : goal.returns-clause-most
returns-clause-most c = grind (arith, common_steps) steps 2000000
