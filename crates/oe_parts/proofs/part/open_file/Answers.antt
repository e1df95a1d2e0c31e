use Rattle.std.proofs.Common.{arith}
use Rattle.std.proofs.lemmas.Grind.{elements}
use Rattle.oe_parts.proofs.part.open_file.Goals as goal

pub returns-else-ends_at-clause-refused : goal.returns-else-ends_at-clause-refused
returns-else-ends_at-clause-refused c = grind (arith, elements) steps 2000000
