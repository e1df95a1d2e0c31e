use Rattle.std.proofs.Common.{◌≡◌, ◌+◌, ◌*◌, List, ◌++◌, None}
use Rattle.serde_json.specs.Data.{depth, members_depth}
use Rattle.serde_json.specs.View.{view, members_view}
use Rattle.serde_json.proofs.Views.{Entry}
use Rattle.oe_graph.specs.Form.{node_name}
use Rattle.oe_graph.specs.Walked.{graph_fault, nodes_fault, callbacks_fault}
use Rattle.oe_graph.proofs.walk.+faults.Given as goal

-- A callback lies at least two levels deeper than its node's arguments, and these than the node.
abbrev pub decreases-graph_fault : goal.decreases-graph_fault
decreases-graph_fault l = 2 * members_depth (members_view l.nodes.now.entries) + 1

abbrev pub decreases-node_fault : goal.decreases-node_fault
decreases-node_fault l = 2 * depth (view l.node.now)

abbrev pub decreases-callbacks_fault : goal.decreases-callbacks_fault
decreases-callbacks_fault l = 2 * members_depth (members_view l.arguments.now.entries) + 1

abbrev pub invariant-callbacks_fault-loop-argument : goal.invariant-callbacks_fault-loop-argument
invariant-callbacks_fault-loop-argument l =
    (done : List Entry) × (l.arguments.entries ≡ done ++ l.argument-iterator)
    × (callbacks_fault (node_name l.name l.id) None (members_view l.arguments.entries)
    ≡ callbacks_fault (node_name l.name l.id) l.fault (members_view l.argument-iterator))

abbrev pub invariant-graph_fault-loop-id : goal.invariant-graph_fault-loop-id
invariant-graph_fault-loop-id l =
    (done : List Entry) × (l.nodes.entries ≡ done ++ l.id-iterator)
    × (graph_fault l.name (members_view l.nodes.entries) ≡ nodes_fault l.name l.fault (members_view l.id-iterator))
