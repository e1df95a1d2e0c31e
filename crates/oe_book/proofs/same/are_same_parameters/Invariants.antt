use Rattle.oe_graph.specs.Plain.{plain_parameter}
use Rattle.oe_book.proofs.SameLemmas.{LeftSame}
use Rattle.oe_book.proofs.same.are_same_parameters.Given as goal

abbrev pub invariant-loop-index : goal.invariant-loop-index
invariant-loop-index l = LeftSame plain_parameter l.parameter-items l.others.items l.index
