use Rattle.std.proofs.Common.{◌≡◌, ◌+◌, ◌*◌, List, ◌++◌, map}
use Rattle.serde_json.specs.Data.{depth, members_depth}
use Rattle.serde_json.specs.View.{view, members_view}
use Rattle.serde_json.proofs.Views.{Entry}
use Rattle.oe_graph.specs.Plain.{plain_pair, plain_node}
use Rattle.oe_graph.specs.Built.{argument_of}
use Rattle.oe_graph.proofs.Views.{entry_pair, entry_node}
use Rattle.oe_graph.proofs.build.+graphs.Given as goal

-- A callback lies at least two levels deeper than its node's arguments, and these than the node.
abbrev pub decreases-build_graph : goal.decreases-build_graph
decreases-build_graph l = 3 * members_depth (members_view l.nodes.now.entries) + 3

abbrev pub decreases-build_nodes : goal.decreases-build_nodes
decreases-build_nodes l = 3 * members_depth (members_view l.nodes.now.entries) + 2

abbrev pub decreases-build_node : goal.decreases-build_node
decreases-build_node l = 3 * depth (view l.node.now) + 1

abbrev pub decreases-node_arguments : goal.decreases-node_arguments
decreases-node_arguments l = 3 * depth (view l.node.now)

abbrev pub decreases-build_arguments : goal.decreases-build_arguments
decreases-build_arguments l = 3 * members_depth (members_view l.members.now.entries) + 1

abbrev pub decreases-build_argument : goal.decreases-build_argument
decreases-build_argument l = 3 * depth (view l.value.now)

abbrev pub invariant-build_arguments-loop-key : goal.invariant-build_arguments-loop-key
invariant-build_arguments-loop-key l =
    (done : List Entry) × (l.members.entries ≡ done ++ l.key-iterator)
    × (map plain_pair l.built.items ≡ map (entry_pair (λ v. argument_of (view v))) done)

abbrev pub invariant-build_nodes-loop-id : goal.invariant-build_nodes-loop-id
invariant-build_nodes-loop-id l =
    (done : List Entry) × (l.nodes.entries ≡ done ++ l.id-iterator)
    × (map plain_node l.built.items ≡ map entry_node done)
