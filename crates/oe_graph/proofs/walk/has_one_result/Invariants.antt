use Rattle.std.proofs.Common.{◌≡◌, ◌+◌, ◌≤◌, List, ◌++◌}
use Rattle.serde_json.specs.View.{members_view}
use Rattle.serde_json.proofs.Views.{Entry}
use Rattle.oe_graph.specs.Form.{result_count}
use Rattle.oe_graph.proofs.walk.has_one_result.Given as goal

abbrev pub invariant-loop-node : goal.invariant-loop-node
invariant-loop-node l =
    (done : List Entry) × (l.nodes.entries ≡ done ++ l.node-iterator)
    × (result_count (members_view l.nodes.entries) ≡ l.count + result_count (members_view l.node-iterator))
    × (l.count ≤ 1)
