use Rattle.std.proofs.Common.{◌≡◌, ℕ, length, map, take}
use Rattle.oe_graph.specs.Plain.{plain_stored}
use Rattle.oe_graph.specs.Tree.{PlainStored}
use Rattle.oe_calls.specs.NodeCounts as spec
use Rattle.oe_calls.proofs.count.more_counts.Given as goal

abbrev pub invariant-loop-process : goal.invariant-loop-process
invariant-loop-process l =
    (length l.more.items ≡ l.process-index)
    × ((size : PlainStored → ℕ) → l.counts ≡ map size (map plain_stored l.stored)
    → l.more.items ≡ map (λ (s : PlainStored). spec.total (map plain_stored l.stored) size s.graph.nodes)
    (map plain_stored (take l.process-index l.stored)))
