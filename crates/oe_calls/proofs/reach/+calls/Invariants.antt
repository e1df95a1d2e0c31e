use Rattle.std.proofs.Common.{map, take}
use Rattle.oe_graph.specs.Plain.{plain_args, plain_named, plain_nodes, plain_stored}
use Rattle.oe_calls.specs.Reached.{held_each, held_named, held_nodes, IsCalledBehind}
use Rattle.oe_calls.proofs.reach.+calls.Given as goal

abbrev pub invariant-add_nodes-loop-node : goal.invariant-add_nodes-loop-node
invariant-add_nodes-loop-node l =
    IsCalledBehind (map plain_stored l.stored) (held_nodes l.in_callback (plain_nodes (take l.node-index l.node-items)))
    l.initial.found.items l.found.items

abbrev pub invariant-add_named-loop-member : goal.invariant-add_named-loop-member
invariant-add_named-loop-member l =
    IsCalledBehind (map plain_stored l.stored) (held_named (plain_named (take l.member-index l.member-items)))
    l.initial.found.items l.found.items

abbrev pub invariant-add_args-loop-item : goal.invariant-add_args-loop-item
invariant-add_args-loop-item l =
    IsCalledBehind (map plain_stored l.stored) (held_each (plain_args (take l.item-index l.item-items)))
    l.initial.found.items l.found.items
