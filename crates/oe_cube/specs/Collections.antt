-- Collections: a cube with the kind of its cells, as it is kept before any process has run.
use Rattle.std.specs.Prelude.{◌≡◌, true, List, length}
use Rattle.std.specs.List.{list_all}
use Rattle.oe_cell.specs.declared.cell.Cell.{Cell}
use Rattle.oe_cube.specs.Kinds.{is_null_or_of}
use Rattle.oe_dims.specs.Dimensions.{Dimensions, IsShape, cell_count}
use Rattle.oe_dims.specs.declared.kind.CellKind.{CellKind}

-- a shape, the cells in row-major order and their kind
pub record Collection : Type 0 where
  pub shape : Dimensions
  pub cells : List Cell
  pub kind : CellKind

-- the shape is valid, there is one cell for each position, and each is null or of the kind
pub record IsCollection (c : Collection) : Type 0 where
  pub valid : IsShape c.shape
  pub counted : length c.cells ≡ cell_count c.shape
  pub of_kind : list_all (is_null_or_of c.kind) c.cells ≡ true
