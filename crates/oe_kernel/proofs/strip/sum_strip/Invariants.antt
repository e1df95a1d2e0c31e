use Rattle.std.proofs.Common.{◌≡◌, ◌<◌, ◌≤◌, ℕ, ◌+◌, ◌*◌, length}
use Rattle.std.specs.Prelude.{unsigned_abs}
use Rattle.oe_cell.specs.Exact.{cell_of_lowest}
use Rattle.oe_kernel.specs.Convolution.{rows_added, weighted}
use Rattle.oe_kernel.specs.Rows.{whole_plane_of}
use Rattle.oe_kernel.specs.Strips.{at, weight_of}
use Rattle.oe_kernel.proofs.strip.sum_strip.Given as goal

abbrev pub invariant-loop-i : goal.invariant-loop-i
invariant-loop-i l = record {
  same : (k : ℕ) → k < length l.sums → cell_of_lowest (at l.sums k) 1 ≡ rows_added (weighted l.kernel l.border l.replace (whole_plane_of l.plane) l.y (l.x + k)) l.kernel.width l.i;
  size : (k : ℕ) → k < length l.sums → unsigned_abs (at l.sums k) ≤ weight_of l.kernel.values 0 (l.i * l.kernel.width) * l.bound;
}
