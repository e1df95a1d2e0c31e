use Rattle.std.proofs.Common.{ℕ, ◌<◌, get_or}
use Rattle.oe_dims.specs.Dimensions.{IsShape}
use Rattle.oe_dims.specs.declared.dims.DimsRow.{DimsRow}
use Rattle.oe_translate.proofs.graph.look_at_shapes.Given as goal

abbrev pub invariant-loop-row : goal.invariant-loop-row
invariant-loop-row l = (k : ℕ) (d : DimsRow) → k < l.row-index → IsShape (get_or l.row-items k d).shape
