use Rattle.std.proofs.Common.{◌≡◌, ◌<◌, ℕ, pos}
use Rattle.oe_kernel.specs.Strips.{at}
use Rattle.oe_kernel.proofs.sums.clear.Given as goal

abbrev pub invariant-loop-k : goal.invariant-loop-k
invariant-loop-k l = (j : ℕ) → j < l.k → at l.sums j ≡ pos 0
