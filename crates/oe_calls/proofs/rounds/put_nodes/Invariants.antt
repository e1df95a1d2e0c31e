use Rattle.std.proofs.Common.{◌≡◌}
use Rattle.oe_graph.specs.Plain.{plain_nodes}
use Rattle.oe_calls.specs.Rounds.{put_nodes}
use Rattle.oe_calls.proofs.rounds.put_nodes.Given as goal

abbrev pub invariant-loop-node : goal.invariant-loop-node
invariant-loop-node l =
    put_nodes (plain_nodes l.fn.more.items) (plain_nodes l.fn.found.items)
    ≡ put_nodes (plain_nodes l.node-iterator.rest.items) (plain_nodes l.found.items)
