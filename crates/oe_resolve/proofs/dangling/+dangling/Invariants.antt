use Rattle.std.proofs.Common.{◌≡◌, map, take}
use Rattle.oe_graph.specs.Plain.{plain_arg, plain_pair, plain_node, plain_nodes}
use Rattle.oe_graph.specs.Printed.{ids_of}
use Rattle.oe_calls.specs.Rounds.{cleared, cleared_node}
use Rattle.oe_calls.proofs.Each.{member_by}
use Rattle.oe_resolve.proofs.dangling.+dangling.Given as goal

abbrev pub invariant-clear_args-loop-item : goal.invariant-clear_args-loop-item
invariant-clear_args-loop-item l =
    map plain_arg l.copy.items
    ≡ map (λ a. cleared (ids_of (plain_nodes l.beside.nodes.now.items)) (plain_arg a)) (take l.item-index l.item-items)

abbrev pub invariant-clear_named-loop-member : goal.invariant-clear_named-loop-member
invariant-clear_named-loop-member l =
    map plain_pair l.copy.items
    ≡ map (member_by (cleared (ids_of (plain_nodes l.beside.nodes.now.items)))) (take l.member-index l.member-items)

abbrev pub invariant-clear_nodes-loop-node : goal.invariant-clear_nodes-loop-node
invariant-clear_nodes-loop-node l =
    map plain_node l.copy.items
    ≡ map (λ n. cleared_node (ids_of (plain_nodes l.beside.nodes.now.items)) (plain_node n)) (take l.node-index l.node-items)
