use Rattle.std.proofs.Common.{ℕ, ◌<◌}
use Rattle.oe_parts.specs.Parts.{heads_of}
use Rattle.oe_parts.specs.Whole.{HasChunkAt}
use Rattle.oe_parts.proofs.whole.meets_any.Given as goal

abbrev pub invariant-loop-before : goal.invariant-loop-before
invariant-loop-before g l = (b : ℕ) → b < l.before → ¬ ((k : ℕ) × HasChunkAt (heads_of l.parts) b k × HasChunkAt (heads_of l.parts) l.index k)
