use Rattle.std.proofs.Common.{◌≡◌, ◌<◌, ◌+◌, ℕ}
use Rattle.oe_kernel.specs.Strips.{at}
use Rattle.oe_kernel.proofs.pixels.unpack_border.Given as goal

abbrev pub invariant-loop-t : goal.invariant-loop-t
invariant-loop-t l = record {
  same : (j : ℕ) → j < l.t → at l.pixels (l.start + j) ≡ l.number;
  before : (n : ℕ) → n < l.start → at l.pixels n ≡ at l.initial.pixels n;
}
