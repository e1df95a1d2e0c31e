use borrow.Author.Differences.{ints}
use Rattle.std.proofs.Common.{arith}
use Rattle.std.proofs.lemmas.Grind.{common_steps}
use Rattle.oe_fold.proofs.columns.settle_row.Goals as goal

pub loop-k-preserved : goal.loop-k-preserved
loop-k-preserved c = grind (ints, arith, common_steps) steps 4000000

pub settle-requires-clause-few : goal.settle-requires-clause-few
settle-requires-clause-few c = grind (arith, common_steps) steps 2000000
