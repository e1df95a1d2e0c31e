-- Pixels as whole numbers, and how large their sums can be.
use Rattle.std.specs.Prelude.{◌≡◌, ◌<◌, ◌≤◌, ℕ, zero, suc, ◌+◌, ◌-◌, ◌*◌, ◌^◌, ℤ, pos, List, length, unsigned_abs, IfSome}
use Rattle.std.specs.List.{slice_index_or}
use Rattle.oe_cell.specs.Fraction.{Fraction}
use Rattle.oe_cell.specs.Operations.{multiply_of}
use Rattle.oe_cell.specs.Rational.{whole_of}
use Rattle.oe_cell.specs.declared.cell.Cell.{Cell}
use Rattle.oe_cell.specs.declared.cell.Cell.TheVariants.{Number}
use Rattle.oe_kernel.specs.Borders.{border_position}
use Rattle.oe_kernel.specs.Convolution.{pixel_of, cell_in, reach, kernel_value, rows_added, IsPlane, IsPositionIn}
use Rattle.oe_kernel.specs.Kernels.{KernelValues}
use Rattle.oe_kernel.specs.Rows.{value_at, IsWindowOn}
use Rattle.oe_kernel.specs.declared.block.TheConstants.{BLOCK_PIXELS}
use Rattle.oe_kernel.specs.declared.border.Border.{Border}
use Rattle.oe_kernel.specs.declared.plane.Plane.{Plane}

-- the whole number at an index
abbrev pub at : List ℤ → ℕ → ℤ
at xs k = slice_index_or xs k (pos 0)

-- the numerator of the value at an index
abbrev pub num_at : List Fraction → ℕ → ℤ
num_at values j = (slice_index_or values j (whole_of (pos 0))).num

-- the sum of the sizes of n numerators from an index on
unfoldable pub weight_of : List Fraction → ℕ → ℕ → ℕ
weight_of values start zero = 0
weight_of values start (suc n) = weight_of values start n + unsigned_abs (num_at values (start + n))

-- the pixel so many rows and columns after the first one of the window around row y and column x
abbrev pub pixel_from : KernelValues → Border → Fraction → Plane → ℕ → ℕ → ℕ → ℕ → Cell
pixel_from k border replace plane y x row column =
    pixel_of border replace (cell_in plane) (border_position border (reach y row k.height) plane.side_y)
    (border_position border (reach x column k.width) plane.side_x)

-- each position that a border rule gives for the first `count` from the start of the window around a position on lies
-- from a first one to before an end
pub record CoversPixels (border : Border) (at size count side first end : ℕ) : Type 0 where
  pub each : (k : ℕ) → k < count → IfSome (border_position border (reach at k size) side) (IsPositionIn first end)

-- of a window around a position of a side, a box that has the positions from a first one to before an end has so many
-- pixels, from the window's first on
pub record HasPixels (border : Border) (side x size count first end : ℕ) : Type 0 where
  pub window : IsWindowOn side x size
  pub most : count ≤ 65536
  pub covered : CoversPixels border x size count side first end

-- of the window around the pixel at column x and row y, a box of a plane has so many pixels, from the window's first
-- column on, of the row that lies so many after its first row
pub record HasRowOfPixels (k : KernelValues) (border : Border) (p : Plane) (x y row count : ℕ) : Type 0 where
  pub plane : IsPlane p
  pub x_in : x < p.side_x
  pub y_in : y < p.side_y
  pub row_most : row ≤ 65536
  pub row_covered : IfSome (border_position border (reach y row k.height) p.side_y) (IsPositionIn p.from_y p.to_y)
  pub some : 0 < count
  pub most : count ≤ 65536
  pub columns_covered : CoversPixels border x k.width count p.side_x p.from_x p.to_x

-- so many whole cells stand as numbers from an index on
abbrev pub AreNumbersOf : (ℕ → Cell) → ℕ → ℕ → List ℤ → Type 0
AreNumbersOf cells start count pixels =
    (i : ℕ) → i < count → cells i ≡ Number (whole_of (at pixels (start + i)))

-- so many numbers from an index on are at most a bound in size
abbrev pub AreWithinFrom : ℕ → ℕ → ℕ → List ℤ → Type 0
AreWithinFrom bound start count pixels =
    (i : ℕ) → i < count → unsigned_abs (at pixels (start + i)) ≤ bound

-- ---- windows of unpacked pixels

-- the value at an index times the whole pixel as many columns after k
abbrev pub times_pixel : List Fraction → List ℤ → ℕ → ℕ → Cell
times_pixel values pixels k j =
    multiply_of (value_at values j) (Number (whole_of (at pixels (k + j))))

-- the kernel's value in row i and column j, times the pixel there of the window whose first pixel stands at an index,
-- in rows of `stride` pixels
abbrev pub unpacked : KernelValues → List ℤ → ℕ → ℕ → ℕ → ℕ → Cell
unpacked k pixels stride first i j =
    multiply_of (kernel_value k i j) (Number (whole_of (at pixels (first + i * stride + j))))

-- the total of that window, and the cell that it makes
abbrev pub unpacked_sum : KernelValues → List ℤ → ℕ → ℕ → Cell
unpacked_sum k pixels stride first = rows_added (unpacked k pixels stride first) k.width k.height

abbrev pub unpacked_cell : KernelValues → Fraction → List ℤ → ℕ → ℕ → Cell
unpacked_cell k factor pixels stride first = multiply_of (unpacked_sum k pixels stride first) (Number factor)

-- the pixels have so many windows side by side, of which the first begins at an index
abbrev pub HoldWindows : KernelValues → List ℤ → ℕ → ℕ → ℕ → Type 0
HoldWindows k pixels stride first count =
    first + (k.height - 1) * stride + count + k.width ≤ length pixels + 1

-- how many pixels lie under the windows of so many columns, and under those of so many rows of them
abbrev pub pixels_across : KernelValues → ℕ → ℕ
pixels_across k columns = columns + k.width - 1

abbrev pub pixels_under : KernelValues → ℕ → ℕ → ℕ
pixels_under k rows columns = (rows + k.height - 1) * pixels_across k columns

-- cells, row by row, are those of the windows that begin in so many rows and columns of the pixels under them
abbrev pub IsUnpackedBlock : KernelValues → Fraction → List ℤ → ℕ → ℕ → (ℕ → Cell) → Type 0
IsUnpackedBlock k factor pixels rows columns cells =
    (row i : ℕ) → row < rows → i < columns → cells (row * columns + i)
    ≡ unpacked_cell k factor pixels (pixels_across k columns) (row * pixels_across k columns + i)

-- ---- sizes

-- each value is whole
abbrev pub AreWhole : List Fraction → Type 0
AreWhole values =
    (j : ℕ) → j < length values → (slice_index_or values j (whole_of (pos 0))).den ≡ 1

-- each number is at most a bound in size
abbrev pub AreWithin : List ℤ → ℕ → Type 0
AreWithin xs bound = (k : ℕ) → k < length xs → unsigned_abs (at xs k) ≤ bound

-- a bound on the sizes of pixels: the values are whole, and no sum of their products with such pixels passes 63 bits
pub record IsBoundFor (values : List Fraction) (bound : ℕ) : Type 0 where
  pub whole : AreWhole values
  pub fits : weight_of values 0 (length values) * bound < 2 ^ 63

-- no sum passes 63 bits
abbrev pub AreInRange : List ℤ → Type 0
AreInRange sums = (k : ℕ) → k < length sums → unsigned_abs (at sums k) < 2 ^ 63

-- pixels that are unpacked at once for a kernel's values, none of which is larger than a bound for them
pub record ArePixelsFor (values : List Fraction) (bound : ℕ) (pixels : List ℤ) : Type 0 where
  pub few : length pixels ≤ BLOCK_PIXELS
  pub within : AreWithin pixels bound
  pub bounded : IsBoundFor values bound
