use Rattle.std.proofs.Common.{arith}
use Rattle.std.proofs.lemmas.Grind.{common_steps}
use Rattle.oe_calls.proofs.count.more_counts.Goals as goal

pub returns-clause-sizes : goal.returns-clause-sizes
returns-clause-sizes c = grind (arith, common_steps) steps 2000000
