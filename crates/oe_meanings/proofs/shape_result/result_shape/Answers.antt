use Rattle.std.proofs.Common.{arith}
use Rattle.std.proofs.lemmas.Grind.{elements}
use Rattle.oe_meanings.proofs.shape_result.result_shape.Goals as goal

pub returns-in-FilterBands : goal.returns-in-FilterBands
returns-in-FilterBands c = grind (arith, elements) steps 2000000
