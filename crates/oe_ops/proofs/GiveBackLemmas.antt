-- A cube as it is, at the positions of a window.
use Rattle.std.proofs.Common.{◌≡◌, map}
use Rattle.oe_cell.specs.declared.cell.Cell.{Cell}
use Rattle.oe_cell.specs.declared.cell.Cell.TheVariants.{Empty}
use Rattle.oe_dims.specs.Cube.{Cube}
use Rattle.oe_dims.specs.Dimensions.{Dimensions}
use Rattle.oe_window.specs.Cells.{cell_at, cells_on}
use Rattle.oe_window.specs.Windows.{Holds, positions, whole_window}
use Rattle.oe_window.specs.declared.window.Window.{Window}
use Rattle.oe_ops.specs.Needs.{HasLabelsOf, HoldsNeed}
use Rattle.oe_ops.specs.Slices.{IsOn, cell_of}
use Rattle.oe_ops.specs.declared.slice.Slice.{Slice}
use Rattle.oe_ops.proofs.CoverLemmas.{own_inside}
use Rattle.oe_ops.proofs.FoundLemmas.{cell_of_is}
use Rattle.oe_ops.proofs.ListLemmas.{map-agree}

pub given_is : (cube : Cube Cell) (slice : Slice) (window : Window) (shape : Dimensions) → IsOn cube slice → Holds (whole_window shape) window → HoldsNeed (HasLabelsOf shape shape) window slice.window → map (cell_of slice) (positions window) ≡ cells_on Empty cube window
given_is cube slice window shape on holds need =
    map-agree (cell_of slice) (cell_at Empty cube) window (λ p h. cell_of_is cube slice p on (own_inside shape slice window holds need p h))
