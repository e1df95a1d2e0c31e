-- Rows and blocks of pixels: what a box of a plane has for them, and the cells that are written for them.
use Rattle.std.specs.Prelude.{◌≡◌, ◌<◌, ◌≤◌, ◌+◌, ◌*◌, ℕ, List, length}
use Rattle.std.specs.List.{slice_index_or}
use Rattle.oe_cell.specs.Fraction.{Fraction}
use Rattle.oe_cell.specs.declared.cell.Cell.{Cell}
use Rattle.oe_cell.specs.declared.cell.Cell.TheVariants.{Empty}
use Rattle.oe_kernel.specs.Convolution.{WholePlane, convolved, IsPlane, IsPartOf, CoversWindow}
use Rattle.oe_kernel.specs.Kernels.{KernelValues}
use Rattle.oe_kernel.specs.declared.border.Border.{Border}
use Rattle.oe_kernel.specs.declared.plane.Plane.{Plane}
use Rattle.oe_kernel.specs.declared.strip.TheConstants.{STRIP}

-- ---- what a box has

-- a box of a plane has the window around the pixel at column x and row y of the plane: it has each position that the
-- border rule gives
pub record HasWindow (k : KernelValues) (border : Border) (p : Plane) (x y : ℕ) : Type 0 where
  pub plane : IsPlane p
  pub x_in : x < p.side_x
  pub y_in : y < p.side_y
  pub rows : CoversWindow border y k.height p.side_y p.from_y p.to_y
  pub columns : CoversWindow border x k.width p.side_x p.from_x p.to_x

-- it has the windows around so many pixels of row y, from column x on
pub record HasRowOfWindows (k : KernelValues) (border : Border) (p : Plane) (x y count : ℕ) : Type 0 where
  pub plane : IsPlane p
  pub x_in : x + count ≤ p.side_x
  pub y_in : y < p.side_y
  pub rows : CoversWindow border y k.height p.side_y p.from_y p.to_y
  pub columns : (i : ℕ) → i < count → CoversWindow border (x + i) k.width p.side_x p.from_x p.to_x

-- it has those around so many pixels, from column x on, of so many rows, from row y on
pub record HasBlockOfWindows (k : KernelValues) (border : Border) (p : Plane) (x y rows columns : ℕ) : Type 0 where
  pub plane : IsPlane p
  pub x_in : x + columns ≤ p.side_x
  pub y_in : y + rows ≤ p.side_y
  pub rows_covered : (i : ℕ) → i < rows → CoversWindow border (y + i) k.height p.side_y p.from_y p.to_y
  pub columns_covered : (i : ℕ) → i < columns → CoversWindow border (x + i) k.width p.side_x p.from_x p.to_x

-- ---- cells

-- the cell at an index
abbrev pub cell_at : List Cell → ℕ → Cell
cell_at cells i = slice_index_or cells i Empty

-- the cells from an index on
abbrev pub cells_from : List Cell → ℕ → ℕ → Cell
cells_from cells start i = slice_index_or cells (start + i) Empty

-- the cells before an index are as they were
abbrev pub KeepsBefore : ℕ → List Cell → List Cell → Type 0
KeepsBefore start old new = (i : ℕ) → i < start → cell_at new i ≡ cell_at old i

-- cells are those of the definition for so many pixels of row y, from column x on, of every whole plane that the box is
-- a part of
abbrev pub IsConvolvedRow : KernelValues → Fraction → Border → Fraction → Plane → ℕ → ℕ → ℕ → (ℕ → Cell) → Type 0
IsConvolvedRow k factor border replace p x y count cells =
    (whole : WholePlane) → IsPartOf p whole → (i : ℕ) → i < count
    → cells i ≡ convolved k factor border replace whole y (x + i)

-- cells, row by row, are those for so many pixels, from column x on, of so many rows, from row y on
abbrev pub IsConvolvedBlock : KernelValues → Fraction → Border → Fraction → Plane → ℕ → ℕ → ℕ → ℕ → (ℕ → Cell)
    → Type 0
IsConvolvedBlock k factor border replace p x y rows columns cells =
    (whole : WholePlane) → IsPartOf p whole → (row i : ℕ) → row < rows → i < columns
    → cells (row * columns + i) ≡ convolved k factor border replace whole (y + row) (x + i)

-- ---- what is worked on at once

-- a strip is some pixels of a row, no more than are worked on at once, whose windows the box has, and there is room for
-- their cells from an index on
pub record IsStrip (k : KernelValues) (border : Border) (p : Plane) (x y count start : ℕ) (out : List Cell) : Type 0 where
  pub windows : HasRowOfWindows k border p x y count
  pub some : 0 < count
  pub most : count ≤ STRIP
  pub end : start + count ≤ length out

-- a piece of a block is some pixels of some rows, whose windows the box has, and there is room for their cells from an
-- index on
pub record IsPiece (k : KernelValues) (border : Border) (p : Plane) (x y rows columns start : ℕ) (out : List Cell)
    : Type 0 where
  pub windows : HasBlockOfWindows k border p x y rows columns
  pub some_rows : 0 < rows
  pub some_columns : 0 < columns
  pub end : start + rows * columns ≤ length out
