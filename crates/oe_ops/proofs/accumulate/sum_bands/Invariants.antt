use Rattle.std.proofs.Common.{◌≡◌, ◌<◌}
use Rattle.std.specs.List.{slice_index_or}
use Rattle.oe_cell.specs.declared.cell.Cell.TheVariants.{Empty}
use Rattle.oe_dims.specs.Positions.{Position}
use Rattle.oe_window.specs.Windows.{IsIn, number_in}
use Rattle.oe_ops.specs.Sums.{sum_at}
use Rattle.oe_ops.proofs.accumulate.sum_bands.Given as goal

abbrev pub invariant-loop-band : goal.invariant-loop-band
invariant-loop-band l =
    (p : Position) → IsIn l.window p → p.band < l.band
    → slice_index_or l.out (number_in l.window p) Empty ≡ sum_at l.ignore l.slice p
