use Rattle.std.proofs.Common.{◌≡◌, ℕ, ◌-◌, ◌<◌, ◌≤◌, length}
use Rattle.std.specs.List.{slice_index_or}
use Rattle.oe_cell.specs.Cells.{IsCell}
use Rattle.oe_cell.specs.declared.cell.Cell.TheVariants.{Empty}
use Rattle.oe_fold.specs.Columns.{column}
use Rattle.oe_fold.specs.Value.{reduction_of}
use Rattle.oe_fold.proofs.columns.fold_blocks.Given as goal

abbrev pub invariant-loop-from : goal.invariant-loop-from
invariant-loop-from l = record {
  within : l.from ≤ length l.out;
  reduced : (k : ℕ) → k < l.from → slice_index_or l.out k Empty ≡ reduction_of l.reducer l.ignore (column l.cells l.stride l.count k);
  cell : (k : ℕ) → k < l.from → IsCell (slice_index_or l.out k Empty);
}

abbrev pub decreases-loop-from : goal.decreases-loop-from
decreases-loop-from l = length l.out - l.from
