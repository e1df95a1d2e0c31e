use Rattle.std.proofs.Common.{arith}
use Rattle.std.proofs.lemmas.Grind.{common_steps}
use borrow.Author.Differences.{ints}
use Rattle.oe_top.proofs.words.read_command.Goals as goal

pub returns-in-len1-clause-some : goal.returns-in-len1-clause-some
returns-in-len1-clause-some c = grind (arith, common_steps) steps 2000000

pub returns-in-len2-clause-some : goal.returns-in-len2-clause-some
returns-in-len2-clause-some c = grind (arith, common_steps) steps 2000000

pub returns-in-len4-clause-some : goal.returns-in-len4-clause-some
returns-in-len4-clause-some c = grind (arith, common_steps) steps 2000000

pub returns-in-len5-clause-some : goal.returns-in-len5-clause-some
returns-in-len5-clause-some c = grind (arith, common_steps) steps 2000000

pub returns-in-len7-clause-some : goal.returns-in-len7-clause-some
returns-in-len7-clause-some c = grind (ints, arith, common_steps) steps 4000000
