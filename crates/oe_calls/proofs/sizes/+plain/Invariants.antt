use Rattle.std.proofs.Common.{◌≡◌, ◌+◌, drop}
use Rattle.oe_graph.specs.Plain.{plain_args, plain_named, plain_nodes}
use Rattle.oe_calls.specs.Sizes.{size_each, size_named, size_nodes}
use Rattle.oe_calls.proofs.sizes.+plain.Given as goal

abbrev pub invariant-nodes_left-loop-node : goal.invariant-nodes_left-loop-node
invariant-nodes_left-loop-node l =
    l.budget + size_nodes l.measure (plain_nodes (drop l.node-index l.node-items))
    ≡ l.left + size_nodes l.measure (plain_nodes l.node-items)

abbrev pub invariant-named_left-loop-member : goal.invariant-named_left-loop-member
invariant-named_left-loop-member l =
    l.budget + size_named l.measure (plain_named (drop l.member-index l.member-items))
    ≡ l.left + size_named l.measure (plain_named l.member-items)

abbrev pub invariant-args_left-loop-item : goal.invariant-args_left-loop-item
invariant-args_left-loop-item l =
    l.budget + size_each l.measure (plain_args (drop l.item-index l.item-items))
    ≡ l.left + size_each l.measure (plain_args l.item-items)
