use Rattle.std.proofs.Common.{◌≡◌, ◌<◌, ◌≤◌, ℕ, ◌+ℤ◌}
use Rattle.oe_kernel.specs.Strips.{at}
use Rattle.oe_kernel.proofs.sums.add_pixels.Given as goal

abbrev pub invariant-loop-k : goal.invariant-loop-k
invariant-loop-k l = record {
  done : (j : ℕ) → j < l.k → at l.sums j ≡ at l.initial.sums j +ℤ at l.pixels j;
  rest : (j : ℕ) → l.k ≤ j → at l.sums j ≡ at l.initial.sums j;
}
