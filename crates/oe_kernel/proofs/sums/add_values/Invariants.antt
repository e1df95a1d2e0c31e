use Rattle.std.proofs.Common.{◌≡◌, ◌<◌, ◌≤◌, ℕ, ◌+◌, ◌*◌, length}
use Rattle.std.specs.Prelude.{unsigned_abs}
use Rattle.oe_cell.specs.Exact.{cell_of_lowest}
use Rattle.oe_kernel.specs.Convolution.{row_added}
use Rattle.oe_kernel.specs.Strips.{at, weight_of, times_pixel}
use Rattle.oe_kernel.proofs.sums.add_values.Given as goal

abbrev pub invariant-loop-j : goal.invariant-loop-j
invariant-loop-j l = record {
  same : (k : ℕ) → k < length l.sums → cell_of_lowest (at l.sums k) 1 ≡ row_added (times_pixel l.values l.pixels k) l.j (cell_of_lowest (at l.initial.sums k) 1);
  size : (k : ℕ) → k < length l.sums → unsigned_abs (at l.sums k) ≤ unsigned_abs (at l.initial.sums k) + weight_of l.values 0 l.j * l.bound;
}
