-- Cells of a cube on a window, as the code has them.
use Rattle.std.specs.Prelude.{◌≡◌, ℕ, ◌+◌, List, length, slice_index_or}
use Rattle.std.specs.List.{All}
use Rattle.oe_cell.specs.declared.cell.Cell.{Cell}
use Rattle.oe_cell.specs.declared.cell.Cell.TheVariants.{Empty}
use Rattle.oe_cube.specs.Kinds.{IsOfKind}
use Rattle.oe_dims.specs.Cube.{Cube}
use Rattle.oe_dims.specs.Positions.{Position}
use Rattle.oe_dims.specs.declared.kind.CellKind.{CellKind}
use Rattle.oe_expr.specs.Callback.{Callback}
use Rattle.oe_expr.specs.Scope.{apply, merge}
use Rattle.oe_window.specs.Cells.{cells_on}
use Rattle.oe_window.specs.Windows.{number_in, position_count}
use Rattle.oe_ops.specs.declared.slice.Slice.{Slice}

-- the position of four indices
abbrev pub at_indices : ℕ → ℕ → ℕ → ℕ → Position
at_indices t band y x = record { t = t; band = band; y = y; x = x }

-- the position so many indices further along x
abbrev pub along_x : Position → ℕ → Position
along_x p k = record p { x = p.x + k }

-- the cell that a slice lists for a position of its window
abbrev pub cell_of : Slice → Position → Cell
cell_of slice p = slice_index_or slice.cells.now (number_in slice.window p) Empty

-- it lists one cell for each position
abbrev pub IsCounted : Slice → Type 0
IsCounted slice = length slice.cells.now ≡ position_count slice.window

-- it lists the cells of a cube on its window
abbrev pub IsOn : Cube Cell → Slice → Type 0
IsOn cube slice = slice.cells.now ≡ cells_on Empty cube slice.window

-- the callback is one on cells of a kind, of which this cell is
pub record TakesCell (c : Callback) (x : Cell) : Type 0 where
  pub kind : CellKind
  pub scope_is : c.scope ≡ apply kind
  pub of_kind : IsOfKind kind x

-- of which all of these are
pub record TakesCells (c : Callback) (cells : List Cell) : Type 0 where
  pub kind : CellKind
  pub scope_is : c.scope ≡ apply kind
  pub of_kind : All (IsOfKind kind) cells

-- the callback is one on two cells of a kind, of which all of these are
pub record TakesPairs (c : Callback) (one two : List Cell) : Type 0 where
  pub kind : CellKind
  pub scope_is : c.scope ≡ merge kind
  pub one_of_kind : All (IsOfKind kind) one
  pub two_of_kind : All (IsOfKind kind) two
