use Rattle.std.proofs.Common.{arith}
use Rattle.std.proofs.lemmas.Grind.{common_steps}
use Rattle.oe_calls.proofs.names.join_names.Goals as goal

pub loop-name-2-init : goal.loop-name-2-init
loop-name-2-init c = grind (arith, common_steps) steps 2000000

pub loop-name-2-preserved : goal.loop-name-2-preserved
loop-name-2-preserved c = grind (arith, common_steps) steps 2000000

pub loop-name-preserved : goal.loop-name-preserved
loop-name-preserved c = grind (arith, common_steps) steps 2000000

pub returns : goal.returns
returns c = grind (arith, common_steps) steps 2000000
