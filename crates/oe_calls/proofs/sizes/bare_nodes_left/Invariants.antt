use Rattle.std.proofs.Common.{◌≡◌, ◌+◌, drop}
use Rattle.oe_graph.specs.Plain.{plain_nodes}
use Rattle.oe_calls.specs.Sizes.{size_bare_nodes}
use Rattle.oe_calls.proofs.sizes.bare_nodes_left.Given as goal

abbrev pub invariant-loop-node : goal.invariant-loop-node
invariant-loop-node l =
    l.budget + size_bare_nodes l.measure (plain_nodes (drop l.node-index l.node-items))
    ≡ l.left + size_bare_nodes l.measure (plain_nodes l.node-items)
