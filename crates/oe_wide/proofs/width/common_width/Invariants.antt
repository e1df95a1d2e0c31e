use Rattle.std.proofs.Common.{take}
use Rattle.oe_wide.specs.Wide.{AllFitIn, IsLeastWidth}
use Rattle.oe_wide.proofs.width.common_width.Given as goal

abbrev pub invariant-loop-cell : goal.invariant-loop-cell
invariant-loop-cell l = IsLeastWidth (λ width. AllFitIn width (take l.cell-index l.cells)) l.width
