use Rattle.std.proofs.Common.{arith}
use Rattle.std.proofs.lemmas.Grind.{elements}
use Rattle.oe_render.proofs.batch.read_batch.Goals as goal

pub returns-clause-read : goal.returns-clause-read
returns-clause-read c = grind (arith, elements) steps 2000000

pub returns-then-valid-cells-clause-damage : goal.returns-then-valid-cells-clause-damage
returns-then-valid-cells-clause-damage c = grind (arith, elements) steps 2000000
