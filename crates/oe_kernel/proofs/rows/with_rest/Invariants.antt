use Rattle.std.proofs.Common.{◌≡◌}
use Rattle.oe_cell.specs.declared.cell.Cell.{Cell}
use Rattle.oe_kernel.specs.Convolution.{row_added}
use Rattle.oe_kernel.specs.Rows.{beside}
use Rattle.oe_kernel.specs.Totals.{total_of}
use Rattle.oe_kernel.proofs.rows.with_rest.Given as goal

abbrev pub invariant-loop-i : goal.invariant-loop-i
invariant-loop-i l =
    (start : Cell) → total_of l.initial.sum ≡ row_added (beside l.values l.pixels l.replace) l.index start → total_of l.sum ≡ row_added (beside l.values l.pixels l.replace) l.i start
