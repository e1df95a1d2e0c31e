-- Worked values of the definitions.
use Rattle.std.specs.Prelude.{◌≡◌, ℕ, ◌+◌, ◌*◌, List, [], ◌∷◌, pos, negsuc, false, true, Some, None, refl}
use Rattle.std.specs.List.{slice_index_or}
use Rattle.oe_cell.specs.Exact.{gcd_within, gcd_of, cell_of_lowest, exact}
use Rattle.oe_cell.specs.Fraction.{Fraction}
use Rattle.oe_cell.specs.Rational.{whole_of}
use Rattle.oe_cell.specs.declared.cell.Cell.{Cell}
use Rattle.oe_cell.specs.declared.cell.Cell.TheVariants.{Empty, Flag, Number, Over}
use Rattle.oe_kernel.specs.Borders.{border_position}
use Rattle.oe_kernel.specs.Kernels.{KernelValues, kernel_fault}
use Rattle.oe_kernel.specs.Convolution.{WholePlane, row_added, rows_added, convolved}
use Rattle.oe_kernel.specs.declared.border.Border.{Border}
use Rattle.oe_kernel.specs.declared.border.Border.TheVariants.{Value, Replicate, Reflect, ReflectPixel, Wrap}
use Rattle.oe_kernel.specs.declared.kernel.KernelFault.TheVariants.{LengthDiffers, Uneven, TooLarge}

abbrev number : ℕ → Fraction
number n = whole_of (pos n)

abbrev cell : ℕ → Cell
cell n = Number (number n)

-- ---- borders

beyond_number : border_position (Value (number 7)) (pos 3) 3 ≡ None
unfolding border_position
beyond_number = refl

on_the_side : border_position (Value (number 7)) (pos 2) 3 ≡ Some 2
unfolding border_position
on_the_side = refl

before_nearest : border_position Replicate (negsuc 4) 3 ≡ Some 0
unfolding border_position
before_nearest = refl

before_mirror : border_position Reflect (negsuc 1) 3 ≡ Some 1
unfolding border_position
before_mirror = refl

far_before_mirror : border_position Reflect (negsuc 1048575) 3 ≡ Some 2
unfolding border_position
far_before_mirror = refl

before_mirror_at_pixel : border_position ReflectPixel (negsuc 0) 3 ≡ Some 1
unfolding border_position
before_mirror_at_pixel = refl

mirror_of_one_pixel : border_position ReflectPixel (pos 5) 1 ≡ Some 0
unfolding border_position
mirror_of_one_pixel = refl

before_wrap : border_position Wrap (negsuc 0) 3 ≡ Some 2
unfolding border_position
before_wrap = refl

-- ---- kernels

too_few : kernel_fault 2 3 5 ≡ Some LengthDiffers
too_few = refl

even_width : kernel_fault 2 3 6 ≡ Some Uneven
even_width = refl

too_wide : kernel_fault 33 1 33 ≡ Some TooLarge
too_wide = refl

three_by_three : kernel_fault 3 3 9 ≡ None
three_by_three = refl

-- ---- cells: a plane of one row, a kernel of one row

abbrev line : List Cell → ℕ → WholePlane
line cells n = record { side_y = 1; side_x = n; cell = λ y x. slice_index_or cells x Empty }

abbrev row_of : Fraction → Fraction → Fraction → KernelValues
row_of a b c = record { width = 3; height = 1; values = a ∷ b ∷ c ∷ [] }

abbrev around : Border → List Cell → ℕ → Cell
around border cells x =
    convolved (row_of (number 1) (number 10) (number 100)) (number 1) border (number 5) (line cells 3) 0 x

not_flipped : around (Value (number 0)) (cell 1 ∷ cell 2 ∷ cell 4 ∷ []) 1 ≡ cell 421
unfolding convolved rows_added row_added border_position exact gcd_of gcd_within cell_of_lowest
not_flipped = refl

beyond_the_edge : around (Value (number 7)) (cell 1 ∷ cell 2 ∷ cell 4 ∷ []) 2 ≡ cell 742
unfolding convolved rows_added row_added border_position exact gcd_of gcd_within cell_of_lowest
beyond_the_edge = refl

mirrored : around ReflectPixel (cell 1 ∷ cell 2 ∷ cell 4 ∷ []) 0 ≡ cell 212
unfolding convolved rows_added row_added border_position exact gcd_of gcd_within cell_of_lowest
mirrored = refl

nulls_and_flags : around Wrap (Empty ∷ Flag true ∷ Flag false ∷ []) 0 ≡ cell 150
unfolding convolved rows_added row_added border_position exact gcd_of gcd_within cell_of_lowest
nulls_and_flags = refl

zero_times_over : convolved (row_of (number 0) (number 1) (number 1)) (number 1) Replicate (number 5) (line (Over ∷ cell 2 ∷ cell 4 ∷ []) 3) 0 1 ≡ Over
unfolding convolved rows_added row_added border_position exact gcd_of gcd_within cell_of_lowest
zero_times_over = refl

over_on_the_way : convolved (row_of (number 1) (number 1) (number 1)) (number 1) Replicate (number 5) (line (cell 9223372036854775807 ∷ cell 1 ∷ Number (whole_of (negsuc 4)) ∷ []) 3) 0 1 ≡ Over
unfolding convolved rows_added row_added border_position exact gcd_of gcd_within cell_of_lowest
over_on_the_way = refl

-- ---- cells: a plane of three rows, a kernel of nine ones, and the pixel in the middle

abbrev around_all : List Cell → Cell
around_all cells =
    convolved (record { width = 3; height = 3; values = number 1 ∷ number 1 ∷ number 1 ∷ number 1 ∷ number 1 ∷ number 1 ∷ number 1 ∷ number 1 ∷ number 1 ∷ [] }) (number 1) Replicate (number 5) (record { side_y = 3; side_x = 3; cell = λ y x. slice_index_or cells (y * 3 + x) Empty }) 1 1

-- column by column, the total would be over the limit at the second cell
fits_by_rows : around_all (cell 9223372036854775807 ∷ Number (whole_of (negsuc 9223372036854775806)) ∷ cell 2 ∷ cell 1 ∷ cell 3 ∷ cell 4 ∷ cell 5 ∷ cell 6 ∷ cell 7 ∷ []) ≡ cell 28
unfolding convolved rows_added row_added border_position exact gcd_of gcd_within cell_of_lowest
fits_by_rows = refl

-- column by column, no total would be over the limit
over_by_rows : around_all (cell 9223372036854775807 ∷ cell 1 ∷ cell 5 ∷ Number (whole_of (negsuc 9223372036854775806)) ∷ cell 3 ∷ cell 6 ∷ cell 2 ∷ cell 4 ∷ cell 7 ∷ []) ≡ Over
unfolding convolved rows_added row_added border_position exact gcd_of gcd_within cell_of_lowest
over_by_rows = refl
