use Rattle.std.proofs.Common.{◌≡◌}
use Rattle.oe_kernel.specs.Convolution.{row_added}
use Rattle.oe_kernel.specs.Rows.{bordered}
use Rattle.oe_kernel.specs.Totals.{total_of}
use Rattle.oe_kernel.proofs.rows.with_border.Given as goal

abbrev pub invariant-loop-i : goal.invariant-loop-i
invariant-loop-i l = total_of l.sum ≡ row_added (bordered l.values l.border) l.i (total_of l.initial.sum)
