use Rattle.std.proofs.Common.{arith}
use Rattle.std.proofs.lemmas.Grind.{elements}
use Rattle.oe_window.proofs.run_list.RunListIterator.next.Goals as goal

pub returns-clause-goes : goal.returns-clause-goes
returns-clause-goes c = grind (arith, elements) steps 2000000

pub returns-clause-steps : goal.returns-clause-steps
returns-clause-steps c = grind (arith, elements) steps 2000000
