-- The plane of a slice.
use Rattle.std.specs.Prelude.{◌≡◌, ℕ, ◌+◌, ◌-◌, ◌*◌, ◌<◌, ◌≤◌, length, slice_index_or}
use Rattle.oe_cell.specs.declared.cell.Cell.TheVariants.{Empty}
use Rattle.oe_kernel.specs.declared.plane.Plane.{Plane}
use Rattle.oe_window.specs.Windows.{span_length}
use Rattle.oe_ops.specs.Slices.{at_indices, cell_of}
use Rattle.oe_ops.specs.declared.slice.Slice.{Slice}

-- the box of a plane that a slice has, by its cells
pub record IsPlaneOf (slice : Slice) (side_y side_x t band : ℕ) (plane : Plane) : Type 0 where
  pub side_y_is : plane.side_y ≡ side_y
  pub side_x_is : plane.side_x ≡ side_x
  pub from_y : plane.from_y ≡ slice.window.y.from
  pub to_y : plane.to_y ≡ slice.window.y.to
  pub from_x : plane.from_x ≡ slice.window.x.from
  pub to_x : plane.to_x ≡ slice.window.x.to
  pub counted : length plane.cells.now ≡ span_length slice.window.y * span_length slice.window.x
  pub same : (row column : ℕ) → plane.from_y ≤ row → row < plane.to_y → plane.from_x ≤ column → column < plane.to_x
      → slice_index_or plane.cells.now ((row - plane.from_y) * (plane.to_x - plane.from_x) + (column - plane.from_x))
      Empty
      ≡ cell_of slice (at_indices t band row column)
