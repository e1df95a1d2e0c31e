use Rattle.std.proofs.Common.{◌≡◌, ◌<◌, ◌+◌, ◌*◌, ℕ}
use Rattle.std.specs.List.{slice_index_or}
use Rattle.oe_cell.specs.Operations.{multiply_of}
use Rattle.oe_cell.specs.declared.cell.Cell.TheVariants.{Empty, Number}
use Rattle.oe_kernel.specs.Convolution.{rows_added}
use Rattle.oe_kernel.specs.Strips.{unpacked}
use Rattle.oe_kernel.specs.declared.strip.TheConstants.{STRIP}
use Rattle.oe_kernel.proofs.block.write_row.Given as goal

abbrev pub invariant-loop-strip : goal.invariant-loop-strip
invariant-loop-strip l = record {
  done : (j : ℕ) → j < l.strip * STRIP → j < l.count → slice_index_or l.out (l.start + j) Empty ≡ multiply_of (rows_added (unpacked l.kernel l.pixels l.stride (l.first + j)) l.kernel.width l.kernel.height) (Number l.factor);
  before : (j : ℕ) → j < l.start → slice_index_or l.out j Empty ≡ slice_index_or l.initial.out j Empty;
}
