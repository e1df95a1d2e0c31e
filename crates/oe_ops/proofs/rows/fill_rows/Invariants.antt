use Rattle.std.proofs.Common.{◌≡◌, ℕ, ◌*◌, ◌<◌, get_or, Some}
use Rattle.std.specs.List.{slice_get}
use Rattle.oe_cell.specs.declared.cell.Cell.TheVariants.{Empty}
use Rattle.oe_window.specs.Windows.{positions}
use Rattle.oe_dims.specs.Positions.{Position}
use Rattle.oe_ops.proofs.rows.fill_rows.Given as goal

abbrev pub invariant-loop-number : goal.invariant-loop-number
invariant-loop-number g l = (k : ℕ) (p : Position) → k < l.number * l.width → slice_get (positions l.window) k ≡ Some p → get_or l.out k Empty ≡ g.R.Rows.cell l.rows p
