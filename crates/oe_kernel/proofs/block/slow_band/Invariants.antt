use Rattle.std.proofs.Common.{◌≡◌, ◌<◌, ◌+◌, ◌*◌, ℕ}
use Rattle.std.specs.List.{slice_index_or}
use Rattle.oe_cell.specs.declared.cell.Cell.TheVariants.{Empty}
use Rattle.oe_kernel.specs.Convolution.{WholePlane, IsPartOf, convolved}
use Rattle.oe_kernel.proofs.block.slow_band.Given as goal

abbrev pub invariant-loop-row : goal.invariant-loop-row
invariant-loop-row l = record {
  done : (whole : WholePlane) → IsPartOf l.plane whole → (row k : ℕ) → row < l.row → k < l.columns → slice_index_or l.out (l.start + (row * l.columns + k)) Empty ≡ convolved l.kernel l.factor l.border l.replace whole (l.y + row) (l.x + k);
  before : (j : ℕ) → j < l.start → slice_index_or l.out j Empty ≡ slice_index_or l.initial.out j Empty;
}
