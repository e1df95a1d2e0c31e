use Rattle.std.proofs.Common.{◌≡◌, ◌*◌, take}
use Rattle.std.specs.List.{All}
use Rattle.oe_cell.specs.declared.cell.Cell.{Cell}
use Rattle.oe_cell.specs.declared.cell.Cell.TheVariants.{Empty}
use Rattle.oe_cube.specs.Kinds.{IsOfKind}
use Rattle.oe_dims.specs.Cube.{Cube, IsCube}
use Rattle.oe_expr.specs.Callback.{callback_kind}
use Rattle.oe_meanings.specs.Meaning.{aggregated}
use Rattle.oe_window.specs.Cells.{cells_on}
use Rattle.oe_ops.specs.Slices.{IsOn}
use Rattle.oe_ops.proofs.aggregate.eval_intervals.Given as goal

-- the parts so far are those of the result
abbrev pub invariant-loop-number : goal.invariant-loop-number
invariant-loop-number l = record {
  value : (cube : Cube Cell) → IsCube cube → cube.shape ≡ l.argument → IsOn cube l.slice
      → take (l.number * l.area) l.out ≡ take (l.number * l.area) (cells_on Empty (aggregated l.intervals l.expr cube) l.window);
  kinds : All (IsOfKind (callback_kind l.expr)) (take (l.number * l.area) l.out);
}
