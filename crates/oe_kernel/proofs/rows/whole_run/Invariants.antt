use Rattle.std.proofs.Common.{◌≡◌}
use Rattle.oe_cell.specs.Exact.{cell_of_lowest}
use Rattle.oe_kernel.specs.Convolution.{row_added}
use Rattle.oe_kernel.specs.Rows.{beside}
use Rattle.oe_kernel.proofs.rows.whole_run.Given as goal

abbrev pub invariant-loop-i : goal.invariant-loop-i
invariant-loop-i l =
    cell_of_lowest l.total 1 ≡ row_added (beside l.values l.pixels l.replace) l.i (cell_of_lowest l.initial.total 1)
