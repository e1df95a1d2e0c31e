-- The kind of a result: a kernel gives a number or Over for every pixel of a plane, whatever the kinds of its cells are.
use Rattle.std.proofs.Common.{◌≡◌, ℕ, zero, suc, ◌^◌, true, false, Bool, cond, sym, subst, ℤ, refl}
use Rattle.std.specs.Prelude.{unsigned_abs, nat_lt, ◌&&◌, Option, Some, None, IsNone}
use Rattle.oe_cell.specs.Fraction.{Fraction}
use Rattle.oe_cell.specs.Exact.{exact, exact_value, cell_of_lowest}
use Rattle.oe_cell.specs.Operations.{add_of, multiply_of}
use Rattle.oe_cell.specs.declared.cell.Cell.{Cell}
use Rattle.oe_cell.specs.declared.cell.Cell.TheVariants.{Empty, Flag, Number, Over}
use Rattle.oe_kernel.specs.Borders.{border_position, IsNumberBorder}
use Rattle.oe_kernel.specs.Kernels.{KernelValues}
use Rattle.oe_kernel.specs.Convolution.{WholePlane, pixel_number, border_number, pixel_of, reach, kernel_value, weighted, row_added, rows_added, convolved, IsAmount, IsPartOf}
use Rattle.oe_kernel.specs.Rows.{whole_plane_of}
use Rattle.oe_kernel.specs.declared.plane.Plane.{Plane}
use Rattle.oe_kernel.specs.declared.border.Border.{Border}
use Rattle.oe_kernel.specs.declared.border.Border.TheVariants.{Value, Replicate, Reflect, ReflectPixel, Wrap}
use Rattle.oe_kernel.proofs.BorderLemmas.{border_position-none}

IsAmount-cond : (b : Bool) (x y : Cell) → IsAmount x → IsAmount y → IsAmount (cond b x y)
IsAmount-cond true x y h k = h
IsAmount-cond false x y h k = k

IsAmount-cell_of_lowest : (n : ℤ) (d : ℕ) → IsAmount (cell_of_lowest n d)
unfolding cell_of_lowest
IsAmount-cell_of_lowest n d = IsAmount-cond (nat_lt (unsigned_abs n) (2 ^ 63) && nat_lt d (2 ^ 63)) _ _ tt tt

IsAmount-exact_value : (r : Fraction) → IsAmount (exact_value r)
unfolding exact
IsAmount-exact_value r = IsAmount-cell_of_lowest _ _

pub IsAmount-add_of : (x y : Cell) → IsAmount x → IsAmount y → IsAmount (add_of x y)
IsAmount-add_of Over y h k = tt
IsAmount-add_of (Number p) Over h k = tt
IsAmount-add_of (Number p) (Number q) h k = IsAmount-exact_value _
IsAmount-add_of (Number p) Empty h k = absurd k
IsAmount-add_of (Number p) (Flag b) h k = absurd k
IsAmount-add_of Empty y h k = absurd h
IsAmount-add_of (Flag a) y h k = absurd h

pub IsAmount-multiply_of : (x y : Cell) → IsAmount x → IsAmount y → IsAmount (multiply_of x y)
IsAmount-multiply_of Over y h k = tt
IsAmount-multiply_of (Number p) Over h k = tt
IsAmount-multiply_of (Number p) (Number q) h k = IsAmount-exact_value _
IsAmount-multiply_of (Number p) Empty h k = absurd k
IsAmount-multiply_of (Number p) (Flag b) h k = absurd k
IsAmount-multiply_of Empty y h k = absurd h
IsAmount-multiply_of (Flag a) y h k = absurd h

IsAmount-pixel_number : (replace : Fraction) (c : Cell) → IsAmount (pixel_number replace c)
IsAmount-pixel_number replace Empty = tt
IsAmount-pixel_number replace (Flag true) = tt
IsAmount-pixel_number replace (Flag false) = tt
IsAmount-pixel_number replace (Number q) = tt
IsAmount-pixel_number replace Over = tt

IsAmount-border_number : (border : Border) → IsNumberBorder border → IsAmount (border_number border)
IsAmount-border_number (Value q) h = tt
IsAmount-border_number Replicate h = absurd h
IsAmount-border_number Reflect h = absurd h
IsAmount-border_number ReflectPixel h = absurd h
IsAmount-border_number Wrap h = absurd h

IsAmount-pixel_of : (border : Border) (replace : Fraction) (cell : ℕ → ℕ → Cell) (row column : Option ℕ) → (IsNone row → IsNumberBorder border) → (IsNone column → IsNumberBorder border) → IsAmount (pixel_of border replace cell row column)
IsAmount-pixel_of border replace cell (Some r) (Some c) h k = IsAmount-pixel_number replace (cell r c)
IsAmount-pixel_of border replace cell (Some r) None h k = IsAmount-border_number border (k refl)
IsAmount-pixel_of border replace cell None column h k = IsAmount-border_number border (h refl)

IsAmount-weighted : (k : KernelValues) (border : Border) (replace : Fraction) (plane : WholePlane) (y x i j : ℕ) → IsAmount (weighted k border replace plane y x i j)
IsAmount-weighted k border replace plane y x i j =
    IsAmount-multiply_of (kernel_value k i j) (pixel_of border replace plane.cell (border_position border (reach y i k.height) plane.side_y) (border_position border (reach x j k.width) plane.side_x)) tt (IsAmount-pixel_of border replace plane.cell (border_position border (reach y i k.height) plane.side_y) (border_position border (reach x j k.width) plane.side_x) (λ h. ((border_position-none border _ _ _ refl).0 h).0) (λ h. ((border_position-none border _ _ _ refl).0 h).0))

IsAmount-row_added : (cells : ℕ → Cell) (n : ℕ) (total : Cell) → ((j : ℕ) → IsAmount (cells j)) → IsAmount total → IsAmount (row_added cells n total)
unfolding row_added
IsAmount-row_added cells zero total h k = k
IsAmount-row_added cells (suc n) total h k = IsAmount-add_of _ _ (IsAmount-row_added cells n total h k) (h n)

IsAmount-rows_added : (cells : ℕ → ℕ → Cell) (width n : ℕ) → ((i j : ℕ) → IsAmount (cells i j)) → IsAmount (rows_added cells width n)
unfolding rows_added
IsAmount-rows_added cells width zero h = tt
IsAmount-rows_added cells width (suc n) h = IsAmount-row_added (cells n) width _ (h n) (IsAmount-rows_added cells width n h)

-- a kernel gives a number or Over
pub IsAmount-convolved : (k : KernelValues) (factor : Fraction) (border : Border) (replace : Fraction) (plane : WholePlane) (y x : ℕ) → IsAmount (convolved k factor border replace plane y x)
unfolding convolved
IsAmount-convolved k factor border replace plane y x =
    IsAmount-multiply_of (rows_added (weighted k border replace plane y x) k.width k.height) (Number factor) (IsAmount-rows_added (weighted k border replace plane y x) k.width k.height (λ i j. IsAmount-weighted k border replace plane y x i j)) tt

-- ---- and so does a call that gives the cell of every whole plane

part_of_itself : (p : Plane) → IsPartOf p (whole_plane_of p)
part_of_itself p = record { side_y_same = refl; side_x_same = refl; same = λ row column a b c d. refl }

pub IsAmount-by_value : (k : KernelValues) (factor : Fraction) (border : Border) (replace : Fraction) (p : Plane) (y x : ℕ) (cell : Cell) → ((whole : WholePlane) → IsPartOf p whole → cell ≡ convolved k factor border replace whole y x) → IsAmount cell
IsAmount-by_value k factor border replace p y x cell value =
    subst IsAmount (sym (value (whole_plane_of p) (part_of_itself p))) (IsAmount-convolved k factor border replace (whole_plane_of p) y x)
