use Rattle.std.proofs.Common.{◌≡◌, length, map}
use Rattle.oe_graph.specs.Plain.{plain_stored}
use Rattle.oe_calls.specs.NodeCounts.{size_by}
use Rattle.oe_calls.proofs.count.counts.Given as goal

abbrev pub invariant-loop-round : goal.invariant-loop-round
invariant-loop-round l =
    (length l.counts.items ≡ length l.stored)
    × (l.counts.items ≡ map (size_by (map plain_stored l.stored) l._round) (map plain_stored l.stored))
