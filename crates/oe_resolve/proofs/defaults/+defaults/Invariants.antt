use Rattle.std.proofs.Common.{◌≡◌, map, take}
use Rattle.oe_graph.specs.Plain.{plain_arg, plain_pair, plain_node}
use Rattle.oe_resolve.specs.Defaults.{with_defaults, node_with_defaults}
use Rattle.oe_calls.proofs.Each.{member_by}
use Rattle.oe_resolve.proofs.defaults.+defaults.Given as goal

abbrev pub invariant-args_with_defaults-loop-item : goal.invariant-args_with_defaults-loop-item
invariant-args_with_defaults-loop-item l =
    map plain_arg l.copy.items ≡ map (λ a. with_defaults (plain_arg a)) (take l.item-index l.item-items)

abbrev pub invariant-named_with_defaults-loop-member : goal.invariant-named_with_defaults-loop-member
invariant-named_with_defaults-loop-member l =
    map plain_pair l.copy.items ≡ map (member_by with_defaults) (take l.member-index l.member-items)

abbrev pub invariant-nodes_with_defaults-loop-node : goal.invariant-nodes_with_defaults-loop-node
invariant-nodes_with_defaults-loop-node l =
    map plain_node l.copy.items ≡ map (λ n. node_with_defaults (plain_node n)) (take l.node-index l.node-items)
