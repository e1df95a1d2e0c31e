use Rattle.std.proofs.Common.{◌≡◌, ◌+◌, map, drop}
use Rattle.oe_graph.specs.Plain.{plain_nodes, plain_stored}
use Rattle.oe_calls.specs.Sizes.{round_bare}
use Rattle.oe_calls.proofs.sizes.round_bare_left.Given as goal

abbrev pub invariant-loop-node : goal.invariant-loop-node
invariant-loop-node l =
    l.budget + round_bare l.measure (map plain_stored l.stored) (plain_nodes (drop l.node-index l.node-items))
    ≡ l.left + round_bare l.measure (map plain_stored l.stored) (plain_nodes l.node-items)
