use Rattle.std.proofs.Common.{◌≡◌, drop}
use Rattle.std.specs.List.{list_any}
use Rattle.oe_cell.specs.Kinds.{is_number}
use Rattle.oe_render.proofs.cells.has_number.Given as goal

abbrev pub invariant-loop-cell : goal.invariant-loop-cell
invariant-loop-cell l = list_any is_number l.cells ≡ list_any is_number (drop l.cell-index l.cells)
