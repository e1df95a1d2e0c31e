use Rattle.std.proofs.Common.{◌≡◌, ◌<◌, ◌+◌, ℕ}
use Rattle.std.specs.List.{slice_index_or}
use Rattle.oe_cell.specs.declared.cell.Cell.TheVariants.{Empty}
use Rattle.oe_kernel.specs.Convolution.{WholePlane, IsPartOf, convolved}
use Rattle.oe_kernel.proofs.strip.convolve_each.Given as goal

abbrev pub invariant-loop-k : goal.invariant-loop-k
invariant-loop-k l = record {
  done : (whole : WholePlane) → IsPartOf l.plane whole → (j : ℕ) → j < l.k → slice_index_or l.out (l.start + j) Empty ≡ convolved l.kernel l.factor l.border l.replace whole l.y (l.x + j);
  before : (j : ℕ) → j < l.start → slice_index_or l.out j Empty ≡ slice_index_or l.initial.out j Empty;
}
