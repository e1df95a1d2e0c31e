use Rattle.std.proofs.Common.{arith}
use Rattle.std.proofs.lemmas.Grind.{common_steps}
use borrow.Author.Differences.{ints}
use Rattle.oe_cell.proofs.arith.crossed_sum.Goals as goal

pub returns : goal.returns
returns c = grind (ints, arith, common_steps) steps 4000000
