-- One row of a window, as the code has it: the row of a box, which begins at a column.
use Rattle.std.specs.Prelude.{◌<◌, ◌≤◌, ℕ, ◌-◌, pos, List, length, Option, Some, None}
use Rattle.std.specs.List.{slice_index_or}
use Rattle.oe_cell.specs.Fraction.{Fraction}
use Rattle.oe_cell.specs.Operations.{multiply_of}
use Rattle.oe_cell.specs.Rational.{whole_of}
use Rattle.oe_cell.specs.declared.cell.Cell.{Cell}
use Rattle.oe_cell.specs.declared.cell.Cell.TheVariants.{Empty, Number}
use Rattle.oe_kernel.specs.Borders.{border_position}
use Rattle.oe_kernel.specs.Convolution.{WholePlane, pixel_number, border_number, reach, weighted, rows_added, cell_in, longest_side}
use Rattle.oe_kernel.specs.Kernels.{KernelValues, largest_size}
use Rattle.oe_kernel.specs.declared.border.Border.{Border}
use Rattle.oe_kernel.specs.declared.plane.Plane.{Plane}

-- the plane that has the cells of a box
abbrev pub whole_plane_of : Plane → WholePlane
whole_plane_of p = record { side_y = p.side_y; side_x = p.side_x; cell = cell_in p }

-- the total of the weighted pixels of the window around row y and column x, in that plane
abbrev pub box_sum : KernelValues → Border → Fraction → Plane → ℕ → ℕ → Cell
box_sum k border replace p y x = rows_added (weighted k border replace (whole_plane_of p) y x) k.width k.height

-- a window of a size around a position of a side, neither of which is too long
pub record IsWindowOn (side x size : ℕ) : Type 0 where
  pub side_most : side ≤ longest_side
  pub x_in : x < side
  pub some : 0 < size
  pub most : size ≤ largest_size

-- the value at an index of a kernel's row
abbrev pub value_at : List Fraction → ℕ → Cell
value_at values j = Number (slice_index_or values j (whole_of (pos 0)))

-- a value times the pixel beside it
abbrev pub beside : List Fraction → List Cell → Fraction → ℕ → Cell
beside values pixels replace j =
    multiply_of (value_at values j) (pixel_number replace (slice_index_or pixels j Empty))

-- a value times the number that stands for every pixel outside
abbrev pub bordered : List Fraction → Border → ℕ → Cell
bordered values border j = multiply_of (value_at values j) (border_number border)

-- the pixel of a column that a border rule gave or did not give, in a row that begins at a column
abbrev pub pixel_in : Border → Fraction → List Cell → ℕ → Option ℕ → Cell
pixel_in border replace pixels from (Some column) =
    pixel_number replace (slice_index_or pixels (column - from) Empty)
pixel_in border replace pixels from None = border_number border

-- the pixel that lies so many after the first of the window of a size around column x
abbrev pub pixel_along : Border → Fraction → List Cell → ℕ → ℕ → ℕ → ℕ → ℕ → Cell
pixel_along border replace pixels from side x size t =
    pixel_in border replace pixels from (border_position border (reach x t size) side)

-- a value times the pixel of its column, for a window around column x
abbrev pub in_row : List Fraction → Border → Fraction → List Cell → ℕ → ℕ → ℕ → ℕ → Cell
in_row values border replace pixels from side x j =
    multiply_of (value_at values j) (pixel_along border replace pixels from side x (length values) j)
