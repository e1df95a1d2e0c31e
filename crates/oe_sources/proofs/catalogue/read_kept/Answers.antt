use Rattle.std.proofs.Common.{arith}
use Rattle.std.proofs.lemmas.Grind.{elements}
use Rattle.oe_sources.proofs.catalogue.read_kept.Goals as goal

pub read-requires-clause-inside : goal.read-requires-clause-inside
read-requires-clause-inside c = grind (arith, elements) steps 2000000

pub read_boxed-requires-clause-inside : goal.read_boxed-requires-clause-inside
read_boxed-requires-clause-inside c = grind (arith, elements) steps 2000000
