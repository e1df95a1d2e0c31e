use Rattle.std.proofs.Common.{◌≡◌, ◌+◌, drop}
use Rattle.oe_graph.specs.Plain.{plain_nodes}
use Rattle.oe_calls.specs.Renamed.{renamed_nodes}
use Rattle.oe_calls.specs.Rounds.{under_id}
use Rattle.oe_calls.specs.Sizes.{size_bare_nodes}
use Rattle.oe_calls.proofs.sizes.under_nodes_left.Given as goal

abbrev pub invariant-loop-node : goal.invariant-loop-node
invariant-loop-node l =
    l.budget + size_bare_nodes l.measure (renamed_nodes (under_id l.call) (plain_nodes (drop l.node-index l.node-items)))
    ≡ l.left + size_bare_nodes l.measure (renamed_nodes (under_id l.call) (plain_nodes l.node-items))
