use Rattle.std.proofs.Common.{◌≡◌, ◌<◌, ◌+◌, ◌*◌, ℕ}
use Rattle.std.specs.List.{slice_index_or}
use Rattle.oe_cell.specs.Operations.{multiply_of}
use Rattle.oe_cell.specs.declared.cell.Cell.TheVariants.{Empty, Number}
use Rattle.oe_kernel.specs.Convolution.{rows_added}
use Rattle.oe_kernel.specs.Strips.{unpacked}
use Rattle.oe_kernel.proofs.block.write_rows.Given as goal

abbrev pub invariant-loop-row : goal.invariant-loop-row
invariant-loop-row l = record {
  done : (row k : ℕ) → row < l.row → k < l.columns → slice_index_or l.out (l.start + (row * l.columns + k)) Empty ≡ multiply_of (rows_added (unpacked l.kernel l.pixels l.stride (row * l.stride + k)) l.kernel.width l.kernel.height) (Number l.factor);
  before : (j : ℕ) → j < l.start → slice_index_or l.out j Empty ≡ slice_index_or l.initial.out j Empty;
}
