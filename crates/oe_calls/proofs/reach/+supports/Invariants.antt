use Rattle.std.proofs.Common.{◌≡◌, map, drop}
use Rattle.oe_graph.specs.Plain.{plain_args, plain_named, plain_nodes, plain_stored}
use Rattle.oe_calls.specs.Reached.{support_each, support_named, support_nodes}
use Rattle.oe_calls.proofs.reach.+supports.Given as goal

abbrev pub invariant-are_supported-loop-node : goal.invariant-are_supported-loop-node
invariant-are_supported-loop-node l =
    support_nodes (map plain_stored l.stored) l.in_callback (plain_nodes l.node-items)
    ≡ support_nodes (map plain_stored l.stored) l.in_callback (plain_nodes (drop l.node-index l.node-items))

abbrev pub invariant-are_supported_named-loop-member : goal.invariant-are_supported_named-loop-member
invariant-are_supported_named-loop-member l =
    support_named (map plain_stored l.stored) (plain_named l.member-items)
    ≡ support_named (map plain_stored l.stored) (plain_named (drop l.member-index l.member-items))

abbrev pub invariant-are_supported_args-loop-item : goal.invariant-are_supported_args-loop-item
invariant-are_supported_args-loop-item l =
    support_each (map plain_stored l.stored) (plain_args l.item-items)
    ≡ support_each (map plain_stored l.stored) (plain_args (drop l.item-index l.item-items))
