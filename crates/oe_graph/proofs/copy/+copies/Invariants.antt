use Rattle.std.proofs.Common.{◌≡◌, map, take}
use Rattle.oe_graph.specs.Plain.{plain_arg, plain_pair, plain_node}
use Rattle.oe_graph.proofs.copy.+copies.Given as goal

abbrev pub invariant-copy_args-loop-item : goal.invariant-copy_args-loop-item
invariant-copy_args-loop-item l = map plain_arg l.copy.items ≡ map plain_arg (take l.item-index l.item-items)

abbrev pub invariant-copy_named-loop-member : goal.invariant-copy_named-loop-member
invariant-copy_named-loop-member l = map plain_pair l.copy.items ≡ map plain_pair (take l.member-index l.member-items)

abbrev pub invariant-copy_nodes-loop-node : goal.invariant-copy_nodes-loop-node
invariant-copy_nodes-loop-node l = map plain_node l.copy.items ≡ map plain_node (take l.node-index l.node-items)
