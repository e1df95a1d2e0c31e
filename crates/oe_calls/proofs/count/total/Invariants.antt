use Rattle.std.proofs.Common.{◌≡◌, ◌+◌, ◌≤◌, ℕ, min, map, drop}
use Rattle.oe_graph.specs.Plain.{plain_nodes, plain_stored}
use Rattle.oe_graph.specs.Tree.{PlainStored}
use Rattle.oe_calls.specs.NodeCounts.{count_with, enough}
use Rattle.oe_calls.proofs.count.total.Given as goal

abbrev pub invariant-loop-node : goal.invariant-loop-node
invariant-loop-node l =
    (l.total ≤ enough)
    × ((size : PlainStored → ℕ) → l.counts ≡ map size (map plain_stored l.stored)
    → min enough (count_with (map plain_stored l.stored) size (plain_nodes l.node-items))
    ≡ min enough (l.total + count_with (map plain_stored l.stored) size (plain_nodes (drop l.node-index l.node-items))))
