use Rattle.std.proofs.Common.{◌≡◌}
use Rattle.oe_kernel.specs.Convolution.{rows_added, weighted}
use Rattle.oe_kernel.specs.Rows.{whole_plane_of}
use Rattle.oe_kernel.specs.Totals.{total_of}
use Rattle.oe_kernel.proofs.convolve.convolve_at.Given as goal

abbrev pub invariant-loop-i : goal.invariant-loop-i
invariant-loop-i l =
    total_of l.total ≡ rows_added (weighted l.kernel l.border l.replace (whole_plane_of l.plane) l.y l.x) l.kernel.width l.i
