use Rattle.std.proofs.Common.{arith}
use Rattle.std.proofs.lemmas.Grind.{common_steps}
use Rattle.oe_translate.proofs.written.labels_arg.Goals as goal

pub loop-interval-preserved : goal.loop-interval-preserved
loop-interval-preserved c = grind (arith, common_steps) steps 2000000

pub returns : goal.returns
returns c = grind (arith, common_steps) steps 2000000
