use Rattle.std.proofs.Common.{ℕ, ◌<◌}
use Rattle.oe_parts.specs.Parts.{heads_of}
use Rattle.oe_parts.specs.Whole.{HasChunkAt}
use Rattle.oe_parts.proofs.whole.end_past.Given as goal

abbrev pub invariant-loop-index : goal.invariant-loop-index
invariant-loop-index g l = (k : ℕ) → k < l.index → ¬ HasChunkAt (heads_of l.parts) k l.chunk
