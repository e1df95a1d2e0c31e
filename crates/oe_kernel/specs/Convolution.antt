-- `apply_kernel` of openEO Processes at one position of a plane. The kernel is not flipped.
use Rattle.std.specs.Prelude.{◌≡◌, ◌<◌, ◌≤◌, ⊤, ℕ, zero, suc, ◌+◌, ◌-◌, ◌*◌, true, false, ℤ, pos, ◌-ℤ◌, length, Option, Some, None, IfSome}
use Rattle.std.specs.List.{slice_index_or}
use Rattle.oe_cell.specs.Fraction.{Fraction}
use Rattle.oe_cell.specs.Operations.{add_of, multiply_of}
use Rattle.oe_cell.specs.Rational.{whole_of}
use Rattle.oe_cell.specs.declared.cell.Cell.{Cell}
use Rattle.oe_cell.specs.declared.cell.Cell.TheVariants.{Empty, Flag, Number, Over}
use Rattle.oe_kernel.specs.Borders.{border_position}
use Rattle.oe_kernel.specs.Kernels.{KernelValues, radius_of}
use Rattle.oe_kernel.specs.declared.border.Border.{Border}
use Rattle.oe_kernel.specs.declared.border.Border.TheVariants.{Value, Replicate, Reflect, ReflectPixel, Wrap}
use Rattle.oe_kernel.specs.declared.plane.Plane.{Plane}

-- a plane of cells: its sides along y and x, and the cell of each row and column
pub record WholePlane : Type 0 where
  pub side_y : ℕ
  pub side_x : ℕ
  pub cell : ℕ → ℕ → Cell

-- ---- one pixel

-- what a pixel counts as: null as the replacement, true as 1 and false as 0
abbrev pub pixel_number : Fraction → Cell → Cell
pixel_number replace Empty = Number replace
pixel_number replace (Flag true) = Number (whole_of (pos 1))
pixel_number replace (Flag false) = Number (whole_of (pos 0))
pixel_number replace (Number q) = Number q
pixel_number replace Over = Over

-- the number that stands for each pixel outside; the other rules give a position for each, and so have none
abbrev pub border_number : Border → Cell
border_number (Value q) = Number q
border_number Replicate = Empty
border_number Reflect = Empty
border_number ReflectPixel = Empty
border_number Wrap = Empty

-- the pixel of a row and a column, each of which a border rule gave or did not give
abbrev pub pixel_of : Border → Fraction → (ℕ → ℕ → Cell) → Option ℕ → Option ℕ → Cell
pixel_of border replace cell (Some row) (Some column) = pixel_number replace (cell row column)
pixel_of border replace cell (Some row) None = border_number border
pixel_of border replace cell None column = border_number border

-- the position that lies k after the first of a window of a size, whose middle is at a position
abbrev pub reach : ℕ → ℕ → ℕ → ℤ
reach at k size = pos (at + k) -ℤ pos (radius_of size)

-- ---- the total

-- the kernel's value in row i and column j
abbrev pub kernel_value : KernelValues → ℕ → ℕ → Cell
kernel_value k i j = Number (slice_index_or k.values (i * k.width + j) (whole_of (pos 0)))

-- the kernel's value in row i and column j, times the pixel there
abbrev pub weighted : KernelValues → Border → Fraction → WholePlane → ℕ → ℕ → ℕ → ℕ → Cell
weighted k border replace plane y x i j =
    multiply_of (kernel_value k i j) (pixel_of border replace plane.cell
    (border_position border (reach y i k.height) plane.side_y)
    (border_position border (reach x j k.width) plane.side_x))

-- a total with the first n cells of a row added to it one by one
unfoldable pub row_added : (ℕ → Cell) → ℕ → Cell → Cell
row_added cells zero total = total
row_added cells (suc j) total = add_of (row_added cells j total) (cells j)

-- the total of the first rows, from 0 on, each row in order
unfoldable pub rows_added : (ℕ → ℕ → Cell) → ℕ → ℕ → Cell
rows_added cells width zero = Number (whole_of (pos 0))
rows_added cells width (suc i) = row_added (cells i) width (rows_added cells width i)

-- the cell at row y and column x: the total of the weighted pixels, row by row, times the factor
unfoldable pub convolved : KernelValues → Fraction → Border → Fraction → WholePlane → ℕ → ℕ → Cell
convolved k factor border replace plane y x =
    multiply_of (rows_added (weighted k border replace plane y x) k.width k.height) (Number factor)

-- a number or Over, which is what a kernel gives
abbrev pub IsAmount : Cell → Type 0
IsAmount (Number q) = ⊤
IsAmount Over = ⊤
IsAmount Empty = ⊥
IsAmount (Flag b) = ⊥

-- ---- a box of a plane

-- the longest side of a plane
abbrev pub longest_side : ℕ
longest_side = 65536

-- a box of a plane: it lies within the sides, and its cells are listed row by row
pub record IsPlane (p : Plane) : Type 0 where
  pub side_y_some : 0 < p.side_y
  pub side_y_most : p.side_y ≤ longest_side
  pub side_x_some : 0 < p.side_x
  pub side_x_most : p.side_x ≤ longest_side
  pub y_order : p.from_y ≤ p.to_y
  pub y_within : p.to_y ≤ p.side_y
  pub x_order : p.from_x ≤ p.to_x
  pub x_within : p.to_x ≤ p.side_x
  pub counted : length p.cells.now ≡ (p.to_y - p.from_y) * (p.to_x - p.from_x)

-- the cell that a box lists for a row and a column of the plane
abbrev pub cell_in : Plane → ℕ → ℕ → Cell
cell_in p row column =
    slice_index_or p.cells.now ((row - p.from_y) * (p.to_x - p.from_x) + (column - p.from_x)) Empty

-- the box has the cells of a whole plane
pub record IsPartOf (p : Plane) (whole : WholePlane) : Type 0 where
  pub side_y_same : p.side_y ≡ whole.side_y
  pub side_x_same : p.side_x ≡ whole.side_x
  pub same : (row column : ℕ) → p.from_y ≤ row → row < p.to_y → p.from_x ≤ column → column < p.to_x
      → cell_in p row column ≡ whole.cell row column

-- a position from a first one to before an end
abbrev pub IsPositionIn : ℕ → ℕ → ℕ → Type 0
IsPositionIn first end position = (first ≤ position) × (position < end)

-- each position that a border rule gives for a window lies from a first one to before an end
pub record CoversWindow (border : Border) (at size side first end : ℕ) : Type 0 where
  pub each : (k : ℕ) → k < size → IfSome (border_position border (reach at k size) side) (IsPositionIn first end)
