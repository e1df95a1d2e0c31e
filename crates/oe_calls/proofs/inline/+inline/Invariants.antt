use Rattle.std.proofs.Common.{◌≡◌, map, take}
use Rattle.oe_graph.specs.Plain.{plain_arg, plain_pair, plain_node, plain_stored}
use Rattle.oe_calls.specs.Renamed.{renamed}
use Rattle.oe_calls.specs.Substituted.{substituted}
use Rattle.oe_calls.specs.PlainValues.{names_behind, rename_by, seen}
use Rattle.oe_calls.proofs.Each.{inlined, inlined_node, member_by}
use Rattle.oe_calls.proofs.inline.+inline.Given as goal

abbrev pub invariant-inline_args-loop-item : goal.invariant-inline_args-loop-item
invariant-inline_args-loop-item l =
    map plain_arg l.copy.items
    ≡ map (λ a. inlined (map plain_stored l.stored) (seen l.values) (rename_by l.values) (names_behind l.own) (plain_arg a))
    (take l.item-index l.item-items)

abbrev pub invariant-inline_named-loop-member : goal.invariant-inline_named-loop-member
invariant-inline_named-loop-member l =
    map plain_pair l.copy.items
    ≡ map (member_by (λ a. substituted (map plain_stored l.stored) (names_behind l.own) (seen l.values) (renamed (rename_by l.values) a)))
    (take l.member-index l.member-items)

abbrev pub invariant-inline_nodes-loop-node : goal.invariant-inline_nodes-loop-node
invariant-inline_nodes-loop-node l =
    map plain_node l.copy.items
    ≡ map (λ n. inlined_node (map plain_stored l.stored) (seen l.values) (rename_by l.values) (plain_node n))
    (take l.node-index l.node-items)
