use Rattle.std.proofs.Common.{◌≡◌, ℕ, true, Contains, map, take, length}
use Rattle.oe_graph.specs.Plain.{plain_node, plain_stored}
use Rattle.oe_graph.specs.Tree.{PlainNode}
use Rattle.oe_calls.specs.NodeCounts.{fit_nodes, size_by}
use Rattle.oe_calls.specs.Reached.{IsReached}
use Rattle.oe_calls.proofs.count.is_too_large.Given as goal

abbrev pub invariant-loop-node : goal.invariant-loop-node
invariant-loop-node l =
    (m : PlainNode) (k : ℕ) → Contains (map plain_node (take l.node-index l.node-items)) m
    → (r : IsReached (map plain_stored l.stored) m k)
    → fit_nodes (map plain_stored l.stored) (size_by (map plain_stored l.stored) (length (map plain_stored l.stored))) r.called.graph.nodes ≡ true

abbrev pub invariant-loop-index : goal.invariant-loop-index
invariant-loop-index l =
    (m : PlainNode) (k : ℕ) → Contains (take l.index-index l.index-items) k
    → (r : IsReached (map plain_stored l.stored) m k)
    → fit_nodes (map plain_stored l.stored) (size_by (map plain_stored l.stored) (length (map plain_stored l.stored))) r.called.graph.nodes ≡ true
