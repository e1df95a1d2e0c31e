-- A plane of what a load keeps, and the box of the collection that it takes.
use Rattle.std.specs.Prelude.{◌≡◌, replicate}
use Rattle.oe_cell.specs.declared.cell.Cell.{Cell}
use Rattle.oe_cell.specs.declared.cell.Cell.TheVariants.{Empty}
use Rattle.oe_dims.specs.Cube.{Cube, IsCube}
use Rattle.oe_dims.specs.Dimensions.{Dimensions}
use Rattle.oe_dims.specs.Positions.{Position}
use Rattle.oe_requests.specs.Extents.{Restriction}
use Rattle.oe_meanings.specs.Meaning.{restricted_cube}
use Rattle.oe_window.specs.Cells.{cells_on}
use Rattle.oe_window.specs.Windows.{IsEmpty, IsIn, position_count}
use Rattle.oe_window.specs.declared.window.Window.{Window}
use Rattle.oe_ops.specs.Needs.{HasLabelsOf}

-- The cells of the plane are those of the box, and nulls where the box is empty, as for a band that the collection
-- lacks. Each position of the box is needed for one of the plane, so that the box has no more of them.
pub record GivesPlane (collection shape : Dimensions) (r : Restriction) (plane box : Window) : Type 0 where
  pub cells : (cube : Cube Cell) → IsCube cube → cube.shape ≡ collection → ¬ IsEmpty box
      → cells_on Empty cube box ≡ cells_on Empty (restricted_cube r cube) plane
  pub nulls : (cube : Cube Cell) → IsCube cube → cube.shape ≡ collection → IsEmpty box
      → cells_on Empty (restricted_cube r cube) plane ≡ replicate (position_count plane) Empty
  pub counted : ¬ IsEmpty box → position_count box ≡ position_count plane
  pub needed : (q : Position) → IsIn box q → (p : Position) × IsIn plane p × HasLabelsOf shape collection p q
