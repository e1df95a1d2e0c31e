use Rattle.oe_graph.specs.Plain.{plain_arg, plain_node, plain_pair}
use Rattle.oe_book.proofs.SameLemmas.{LeftSame}
use Rattle.oe_book.proofs.same.+same.Given as goal

abbrev pub invariant-are_same_args-loop-index : goal.invariant-are_same_args-loop-index
invariant-are_same_args-loop-index l = LeftSame plain_arg l.item-items l.others.items l.index

abbrev pub invariant-are_same_named-loop-index : goal.invariant-are_same_named-loop-index
invariant-are_same_named-loop-index l = LeftSame plain_pair l.member-items l.others.items l.index

abbrev pub invariant-are_same_nodes-loop-index : goal.invariant-are_same_nodes-loop-index
invariant-are_same_nodes-loop-index l = LeftSame plain_node l.node-items l.others.items l.index
