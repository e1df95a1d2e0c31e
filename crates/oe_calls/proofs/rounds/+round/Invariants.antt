use Rattle.std.proofs.Common.{◌≡◌, map, take, drop}
use Rattle.oe_graph.specs.Plain.{plain_arg, plain_pair, plain_nodes, plain_stored}
use Rattle.oe_calls.specs.Rounds.{round_argument, round_nodes}
use Rattle.oe_graph.specs.Tree.{no_nodes}
use Rattle.oe_calls.proofs.Each.{member_by}
use Rattle.oe_calls.proofs.rounds.+round.Given as goal

abbrev pub invariant-round_args-loop-item : goal.invariant-round_args-loop-item
invariant-round_args-loop-item l =
    map plain_arg l.copy.items
    ≡ map (λ a. round_argument (map plain_stored l.stored) l.waits (plain_nodes l.beside.nodes.now.items) (plain_arg a))
    (take l.item-index l.item-items)

abbrev pub invariant-round_named-loop-member : goal.invariant-round_named-loop-member
invariant-round_named-loop-member l =
    map plain_pair l.copy.items
    ≡ map (member_by (round_argument (map plain_stored l.stored) l.waits (plain_nodes l.beside.nodes.now.items)))
    (take l.member-index l.member-items)

abbrev pub invariant-round_nodes-loop-node : goal.invariant-round_nodes-loop-node
invariant-round_nodes-loop-node l =
    let stored = map plain_stored l.stored in
    let all = plain_nodes l.all.items in
    round_nodes stored all all no_nodes
    ≡ round_nodes stored all (plain_nodes (drop l.node-index l.node-items)) (plain_nodes l.found.items)
