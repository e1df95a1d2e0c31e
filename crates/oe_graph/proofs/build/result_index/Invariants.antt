use Rattle.std.proofs.Common.{◌≡◌, ◌+◌, List, ◌++◌}
use Rattle.serde_json.specs.View.{members_view}
use Rattle.serde_json.proofs.Views.{Entry}
use Rattle.oe_graph.specs.Built.{result_index}
use Rattle.oe_graph.proofs.build.result_index.Given as goal

abbrev pub invariant-loop-node : goal.invariant-loop-node
invariant-loop-node l =
    (done : List Entry) × (l.nodes.entries ≡ done ++ l.node-iterator)
    × (result_index (members_view l.nodes.entries) ≡ l.index + result_index (members_view l.node-iterator))
