use Rattle.std.proofs.Common.{arith}
use Rattle.std.proofs.lemmas.Grind.{elements}
use Rattle.oe_database.proofs.load.read_head.Goals as goal

pub returns-clause-head : goal.returns-clause-head
returns-clause-head c = grind (arith, elements) steps 2000000
