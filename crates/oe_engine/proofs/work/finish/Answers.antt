use Rattle.std.proofs.Common.{arith}
use Rattle.std.proofs.lemmas.Grind.{common_steps}
use Rattle.oe_engine.proofs.work.finish.Goals as goal

pub returns-after-state : goal.returns-after-state
returns-after-state c = grind (arith, common_steps) steps 2000000
