use Rattle.std.proofs.Common.{◌≡◌, ◌≤◌}
use Rattle.oe_fold.specs.Progress.{count_of, reducer_of}
use Rattle.oe_rows_values.proofs.reducers.cell_by_cell.Given as goal

abbrev pub invariant-loop-cell : goal.invariant-loop-cell
invariant-loop-cell l = (count_of l.pass ≤ l.cell-index) × (reducer_of l.pass ≡ l.fn.reducer)
