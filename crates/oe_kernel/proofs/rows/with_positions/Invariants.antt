use Rattle.std.proofs.Common.{◌≡◌}
use Rattle.oe_kernel.specs.Convolution.{row_added}
use Rattle.oe_kernel.specs.Rows.{in_row}
use Rattle.oe_kernel.specs.Totals.{total_of}
use Rattle.oe_kernel.proofs.rows.with_positions.Given as goal

abbrev pub invariant-loop-i : goal.invariant-loop-i
invariant-loop-i l = total_of l.sum ≡ row_added (in_row l.values l.border l.replace l.pixels l.from l.side l.x) l.i (total_of l.initial.sum)
