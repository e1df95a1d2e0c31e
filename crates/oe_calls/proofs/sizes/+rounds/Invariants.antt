use Rattle.std.proofs.Common.{◌≡◌, ◌+◌, false, map, drop, take}
use Rattle.oe_graph.specs.Plain.{plain_args, plain_named, plain_nodes, plain_parameter, plain_stored}
use Rattle.oe_graph.specs.Tree.{Nodes}
use Rattle.oe_calls.specs.Rounds.{round_each, round_named}
use Rattle.oe_calls.specs.PlainValues.{plain_sizes}
use Rattle.oe_calls.specs.Sizes.{given_sizes, round_size, size_each, size_named}
use Rattle.oe_calls.proofs.sizes.+rounds.Given as goal

abbrev pub invariant-round_nodes_left-loop-node : goal.invariant-round_nodes_left-loop-node
invariant-round_nodes_left-loop-node l =
    (all : Nodes) → l.budget + round_size l.measure (map plain_stored l.stored) all (plain_nodes (drop l.node-index l.node-items))
    ≡ l.left + round_size l.measure (map plain_stored l.stored) all (plain_nodes l.node-items)

abbrev pub invariant-round_node_left-loop-parameter : goal.invariant-round_node_left-loop-parameter
invariant-round_node_left-loop-parameter l =
    plain_sizes l.each.items
    ≡ given_sizes l.measure (plain_named l.node.arguments.items) (map plain_parameter (take l.parameter-index l.parameter-items))

abbrev pub invariant-round_named_left-loop-member : goal.invariant-round_named_left-loop-member
invariant-round_named_left-loop-member l =
    (all : Nodes) → l.budget
    + size_named l.measure (round_named (map plain_stored l.stored) false all (plain_named (drop l.member-index l.member-items)))
    ≡ l.left + size_named l.measure (round_named (map plain_stored l.stored) false all (plain_named l.member-items))

abbrev pub invariant-round_args_left-loop-item : goal.invariant-round_args_left-loop-item
invariant-round_args_left-loop-item l =
    (all : Nodes) → l.budget
    + size_each l.measure (round_each (map plain_stored l.stored) false all (plain_args (drop l.item-index l.item-items)))
    ≡ l.left + size_each l.measure (round_each (map plain_stored l.stored) false all (plain_args l.item-items))
