-- A kernel reads only what its border rule asks for.
use Rattle.std.proofs.Common.{◌≡◌, ℕ, ap, refl, Option, Some, None}
use Rattle.oe_cell.specs.Fraction.{Fraction}
use Rattle.oe_cell.specs.Operations.{multiply_of}
use Rattle.oe_cell.specs.declared.cell.Cell.{Cell}
use Rattle.oe_cell.specs.declared.cell.Cell.TheVariants.{Number}
use Rattle.oe_kernel.specs.Borders.{border_position}
use Rattle.oe_kernel.specs.Convolution.{convolved, reach, pixel_of, pixel_number, kernel_value, IsPositionIn, CoversWindow}
use Rattle.oe_kernel.specs.Kernels.{KernelValues}
use Rattle.oe_kernel.specs.declared.border.Border.{Border}
use Rattle.oe_kernel.proofs.SumLemmas.{rows_added-same}
use Rattle.oe_kernel.proofs.WindowLemmas.{held_at}

pixel_same : (border : Border) (replace : Fraction) (f g : ℕ → ℕ → Cell) (row column : Option ℕ) → ((y x : ℕ) → row ≡ Some y → column ≡ Some x → f y x ≡ g y x) → pixel_of border replace f row column ≡ pixel_of border replace g row column
pixel_same border replace f g (Some y) (Some x) h = ap (pixel_number replace) (h y x refl refl)
pixel_same border replace f g (Some y) None h = refl
pixel_same border replace f g None column h = refl

-- two planes of the same sides that agree on a box that covers the window give one value
pub convolved-same : (k : KernelValues) (factor : Fraction) (border : Border) (replace : Fraction) (side_y side_x : ℕ) (f g : ℕ → ℕ → Cell) (y x from_y to_y from_x to_x : ℕ) → CoversWindow border y k.height side_y from_y to_y → CoversWindow border x k.width side_x from_x to_x → ((row column : ℕ) → IsPositionIn from_y to_y row → IsPositionIn from_x to_x column → f row column ≡ g row column) → convolved k factor border replace (record { side_y = side_y; side_x = side_x; cell = f }) y x ≡ convolved k factor border replace (record { side_y = side_y; side_x = side_x; cell = g }) y x
unfolding convolved
convolved-same k factor border replace side_y side_x f g y x from_y to_y from_x to_x rows columns agree =
    ap (λ (total : Cell). multiply_of total (Number factor)) (rows_added-same _ _ k.width k.height (λ i j i_in j_in.
    ap (multiply_of (kernel_value k i j)) (pixel_same border replace f g (border_position border (reach y i k.height) side_y) (border_position border (reach x j k.width) side_x) (λ row column row_is column_is.
    agree row column (held_at border y k.height side_y from_y to_y i row rows i_in row_is) (held_at border x k.width side_x from_x to_x j column columns j_in column_is)))))
