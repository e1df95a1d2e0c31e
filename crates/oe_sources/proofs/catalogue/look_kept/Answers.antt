use Rattle.std.proofs.Common.{arith}
use Rattle.std.proofs.lemmas.Grind.{elements}
use Rattle.oe_sources.proofs.catalogue.look_kept.Goals as goal

pub look-requires-clause-inside : goal.look-requires-clause-inside
look-requires-clause-inside c = grind (arith, elements) steps 2000000

pub look_boxed-requires-clause-inside : goal.look_boxed-requires-clause-inside
look_boxed-requires-clause-inside c = grind (arith, elements) steps 2000000
