use Rattle.std.proofs.Common.{◌≡◌, ◌<◌, ℕ, pos, get_or}
use Rattle.oe_cell.specs.Rational.{whole_of}
use Rattle.oe_kernel.specs.Strips.{weight_of}
use Rattle.oe_kernel.proofs.sums.bound_of.Given as goal

abbrev pub invariant-loop-j : goal.invariant-loop-j
invariant-loop-j l = record {
  whole : (i : ℕ) → i < l.j → (get_or l.values i (whole_of (pos 0))).den ≡ 1;
  weight : l.weight ≡ weight_of l.values 0 l.j;
}
