use Rattle.std.proofs.Common.{arith}
use Rattle.std.proofs.lemmas.Grind.{common_steps}
use borrow.Author.Differences.{ints}
use Rattle.oe_meanings.proofs.shape_restriction.labels_in_time.Goals as goal

pub loop-index-preserved : goal.loop-index-preserved
loop-index-preserved c = grind (ints, arith, common_steps) steps 4000000

pub returns : goal.returns
returns c = grind (arith, common_steps) steps 2000000
