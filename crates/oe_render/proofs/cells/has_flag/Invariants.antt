use Rattle.std.proofs.Common.{◌≡◌, drop}
use Rattle.std.specs.List.{list_any}
use Rattle.oe_render.specs.CubeText.{is_flag}
use Rattle.oe_render.proofs.cells.has_flag.Given as goal

abbrev pub invariant-loop-cell : goal.invariant-loop-cell
invariant-loop-cell l = list_any is_flag l.cells ≡ list_any is_flag (drop l.cell-index l.cells)
