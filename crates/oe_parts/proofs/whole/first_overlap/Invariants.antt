use Rattle.std.proofs.Common.{ℕ, ◌<◌}
use Rattle.oe_parts.specs.Parts.{heads_of}
use Rattle.oe_parts.specs.Whole.{Overlaps}
use Rattle.oe_parts.proofs.whole.first_overlap.Given as goal

abbrev pub invariant-loop-index : goal.invariant-loop-index
invariant-loop-index g l = (before : ℕ) → before < l.index → ¬ Overlaps (heads_of l.parts) before
