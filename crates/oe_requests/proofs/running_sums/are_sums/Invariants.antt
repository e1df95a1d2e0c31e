use Rattle.std.proofs.Common.{◌≡◌, drop}
use Rattle.oe_graph.specs.Plain.{plain_nodes}
use Rattle.oe_requests.specs.RunningSums.{are_sums_at}
use Rattle.oe_requests.proofs.running_sums.are_sums.Given as goal

abbrev pub invariant-loop-index : goal.invariant-loop-index
invariant-loop-index l =
    are_sums_at (plain_nodes l.nodes.items) (drop l.index-index l.indices) ≡ are_sums_at (plain_nodes l.nodes.items) l.indices
