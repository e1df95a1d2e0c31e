use Rattle.std.proofs.Common.{ℕ, ◌-◌, ◌<◌}
use Rattle.oe_parts.specs.Parts.{heads_of}
use Rattle.oe_parts.specs.Whole.{IsCovered}
use Rattle.oe_parts.proofs.whole.first_gap.Given as goal

abbrev pub invariant-loop-next : goal.invariant-loop-next
invariant-loop-next g l = (k : ℕ) → k < l.next → IsCovered (heads_of l.parts) k

abbrev pub decreases-loop-next : goal.decreases-loop-next
decreases-loop-next g l = l.total - l.next
