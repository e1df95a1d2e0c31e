use Rattle.std.proofs.Common.{◌≡◌, ◌<◌, ◌+◌, ℕ}
use Rattle.std.specs.List.{slice_index_or}
use Rattle.oe_cell.specs.Exact.{cell_of_lowest}
use Rattle.oe_cell.specs.Operations.{multiply_of}
use Rattle.oe_cell.specs.declared.cell.Cell.TheVariants.{Number, Empty}
use Rattle.oe_kernel.specs.Strips.{at}
use Rattle.oe_kernel.proofs.sums.write_cells.Given as goal

abbrev pub invariant-loop-k : goal.invariant-loop-k
invariant-loop-k l = record {
  done : (j : ℕ) → j < l.k → slice_index_or l.out (l.start + j) Empty ≡ multiply_of (cell_of_lowest (at l.sums j) 1) (Number l.factor);
  before : (j : ℕ) → j < l.start → slice_index_or l.out j Empty ≡ slice_index_or l.initial.out j Empty;
}
