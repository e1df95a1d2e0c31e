use Rattle.std.proofs.Common.{◌≡◌, ◌*◌, ◌≤◌, length, take}
use Rattle.std.specs.List.{All}
use Rattle.oe_cell.specs.declared.cell.Cell.{Cell}
use Rattle.oe_cell.specs.declared.cell.Cell.TheVariants.{Empty}
use Rattle.oe_cube.specs.Kinds.{IsOfKind}
use Rattle.oe_dims.specs.Cube.{Cube, IsCube}
use Rattle.oe_dims.specs.declared.kind.CellKind.TheVariants.{Numbers}
use Rattle.oe_meanings.specs.Meaning.{convolution}
use Rattle.oe_window.specs.Cells.{cells_on}
use Rattle.oe_window.specs.Parts.{plane_size}
use Rattle.oe_ops.specs.Slices.{IsOn}
use Rattle.oe_ops.proofs.convolve.eval_convolve.Given as goal

abbrev pub invariant-loop-number : goal.invariant-loop-number
invariant-loop-number l = record {
  done_is : l.done ≡ l.number * plane_size l.window;
  within : l.done ≤ length l.out;
  value : (cube : Cube Cell) → IsCube cube → cube.shape ≡ l.shape → IsOn cube l.fn.slice → take l.done l.out ≡ take l.done (cells_on Empty (convolution l.kernel l.factor l.border l.replace cube) l.window);
  kinds : All (IsOfKind Numbers) (take l.done l.out);
}
