use Rattle.std.proofs.Common.{◌≡◌, map, drop}
use Rattle.oe_graph.specs.Plain.{plain_args, plain_named, plain_nodes, plain_stored}
use Rattle.oe_calls.specs.HasCall.{each_call, named_call, nodes_call}
use Rattle.oe_calls.proofs.reach.+called.Given as goal

abbrev pub invariant-nodes_call-loop-node : goal.invariant-nodes_call-loop-node
invariant-nodes_call-loop-node l =
    nodes_call (map plain_stored l.stored) (plain_nodes l.node-items)
    ≡ nodes_call (map plain_stored l.stored) (plain_nodes (drop l.node-index l.node-items))

abbrev pub invariant-named_call-loop-member : goal.invariant-named_call-loop-member
invariant-named_call-loop-member l =
    named_call (map plain_stored l.stored) (plain_named l.member-items)
    ≡ named_call (map plain_stored l.stored) (plain_named (drop l.member-index l.member-items))

abbrev pub invariant-args_call-loop-item : goal.invariant-args_call-loop-item
invariant-args_call-loop-item l =
    each_call (map plain_stored l.stored) (plain_args l.item-items)
    ≡ each_call (map plain_stored l.stored) (plain_args (drop l.item-index l.item-items))
