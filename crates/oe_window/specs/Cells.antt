-- The cells of a cube at its positions, over any type of cell.
use Rattle.std.specs.Prelude.{List, map, slice_index_or}
use Rattle.oe_dims.specs.Cube.{Cube}
use Rattle.oe_dims.specs.Positions.{Position, number_of}
use Rattle.oe_window.specs.Windows.{positions}
use Rattle.oe_window.specs.declared.window.Window.{Window}

-- the cell at a position, which stands at its number; another one where the cube has no such number
abbrev pub cell_at : {C : Type 0} → C → Cube C → Position → C
cell_at other cube p = slice_index_or cube.cells (number_of cube.shape p) other

-- the cells at the positions of a window, in row-major order
abbrev pub cells_on : {C : Type 0} → C → Cube C → Window → List C
cells_on other cube window = map (cell_at other cube) (positions window)
