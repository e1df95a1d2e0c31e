use Rattle.std.proofs.Common.{arith}
use Rattle.std.proofs.lemmas.Grind.{common_steps}
use borrow.Author.Differences.{ints}
use Rattle.oe_window.proofs.window.whole.Goals as goal

pub returns-clause-count : goal.returns-clause-count
returns-clause-count c = grind (arith, common_steps) steps 2000000

pub returns-clause-numbers : goal.returns-clause-numbers
returns-clause-numbers c = grind (ints, arith, common_steps) steps 4000000

pub returns-clause-positions : goal.returns-clause-positions
returns-clause-positions c = grind (arith, common_steps) steps 2000000

pub returns-clause-value : goal.returns-clause-value
returns-clause-value c = grind (arith, common_steps) steps 2000000
