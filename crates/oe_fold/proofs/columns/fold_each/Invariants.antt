use Rattle.std.proofs.Common.{◌≡◌, ℕ, ◌<◌}
use Rattle.std.specs.List.{slice_index_or}
use Rattle.oe_cell.specs.Cells.{IsCell}
use Rattle.oe_cell.specs.declared.cell.Cell.TheVariants.{Empty}
use Rattle.oe_fold.specs.Columns.{column}
use Rattle.oe_fold.specs.Value.{reduction_of}
use Rattle.oe_fold.proofs.columns.fold_each.Given as goal

abbrev pub invariant-loop-k : goal.invariant-loop-k
invariant-loop-k l = record {
  reduced : (j : ℕ) → j < l.k → slice_index_or l.out j Empty ≡ reduction_of l.reducer l.ignore (column l.cells l.stride l.count j);
  cell : (j : ℕ) → j < l.k → IsCell (slice_index_or l.out j Empty);
}
