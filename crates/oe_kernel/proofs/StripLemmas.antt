-- Sums of whole pixels: none is out of range, and each is the total of the cells.
use Rattle.std.proofs.Common.{◌≡◌, ℕ, zero, suc, ◌+◌, ◌-◌, ◌*◌, ◌<◌, ◌≤◌, ◌^◌, List, length, get_or, refl, ap, ◌∙◌, sym, arith, add-one, w64, to_z, of_z, FitsSigned}
use Rattle.std.specs.Prelude.{ℤ, pos, ◌+ℤ◌, ◌-ℤ◌, ◌*ℤ◌, unsigned_abs}
use Rattle.std.specs.List.{slice_range}
use Rattle.std.proofs.Math.Nat.{mul-le-mul_left}
use Rattle.std.proofs.lemmas.Int.{ints, to_z-of_z, unsigned_abs-mul, fits_signed_from_abs}
use Rattle.oe_cell.specs.Fraction.{Fraction}
use Rattle.oe_cell.specs.Exact.{cell_of_lowest}
use Rattle.oe_cell.specs.Operations.{multiply_of}
use Rattle.oe_cell.specs.Rational.{whole_of}
use Rattle.oe_cell.specs.declared.cell.Cell.{Cell}
use Rattle.oe_cell.specs.declared.cell.Cell.TheVariants.{Number}
use Rattle.oe_cell.proofs.CellLemmas.{multiply_of-whole}
use Rattle.oe_kernel.specs.Borders.{border_position}
use Rattle.oe_kernel.specs.Convolution.{row_added, rows_added, weighted, convolved, WholePlane, IsPartOf, CoversWindow, pixel_of, cell_in, reach, kernel_value}
use Rattle.oe_kernel.specs.Kernels.{KernelValues, radius_of}
use Rattle.oe_kernel.specs.declared.border.Border.{Border}
use Rattle.oe_kernel.specs.declared.plane.Plane.{Plane}
use Rattle.oe_kernel.specs.Rows.{whole_plane_of}
use Rattle.oe_kernel.specs.Strips.{at, num_at, weight_of, times_pixel, pixel_from, unpacked, AreWhole}
use Rattle.oe_kernel.proofs.SumLemmas.{row_added-step, rows_added-same}
use Rattle.oe_kernel.proofs.TotalLemmas.{whole_sum, lowest_whole}
use Rattle.oe_kernel.proofs.WindowLemmas.{get_or-slice_range, value_at-row, weighted-same}

abs_sum : (a b : ℤ) → unsigned_abs (a +ℤ b) ≤ unsigned_abs a + unsigned_abs b
abs_sum a b = omega (arith, ints)

-- what the machine adds is the sum, where the sizes leave room
pub machine_sum : (s p w : ℤ) → FitsSigned w64 s → FitsSigned w64 p → FitsSigned w64 w → unsigned_abs s + unsigned_abs w * unsigned_abs p < 2 ^ 63 → to_z w64 (of_z w64 (to_z w64 (of_z w64 s) +ℤ to_z w64 (of_z w64 (to_z w64 (of_z w64 w) *ℤ to_z w64 (of_z w64 p))))) ≡ s +ℤ w *ℤ p
machine_sum s p w s_fits p_fits w_fits room =
    let product_size : unsigned_abs (w *ℤ p) ≡ unsigned_abs w * unsigned_abs p = unsigned_abs-mul w p in
    let product_less : unsigned_abs (w *ℤ p) < 2 ^ 63 = omega arith in
    let product : FitsSigned w64 (w *ℤ p) = fits_signed_from_abs w64 _ product_less in
    let both : unsigned_abs (s +ℤ w *ℤ p) ≤ unsigned_abs s + unsigned_abs (w *ℤ p) = abs_sum s (w *ℤ p) in
    let sum_less : unsigned_abs (s +ℤ w *ℤ p) < 2 ^ 63 = omega arith in
    let sum : FitsSigned w64 (s +ℤ w *ℤ p) = fits_signed_from_abs w64 _ sum_less in
    let inner : to_z w64 (of_z w64 (to_z w64 (of_z w64 w) *ℤ to_z w64 (of_z w64 p))) ≡ w *ℤ p = ap (λ (z : ℤ). to_z w64 (of_z w64 (z *ℤ to_z w64 (of_z w64 p)))) (to_z-of_z w64 w w_fits) ∙ ap (λ (z : ℤ). to_z w64 (of_z w64 (w *ℤ z))) (to_z-of_z w64 p p_fits) ∙ to_z-of_z w64 (w *ℤ p) product in
    ap (λ (z : ℤ). to_z w64 (of_z w64 (z +ℤ to_z w64 (of_z w64 (to_z w64 (of_z w64 w) *ℤ to_z w64 (of_z w64 p)))))) (to_z-of_z w64 s s_fits) ∙ ap (λ (z : ℤ). to_z w64 (of_z w64 (s +ℤ z))) inner ∙ to_z-of_z w64 (s +ℤ w *ℤ p) sum

pub machine_plain_sum : (s p : ℤ) → FitsSigned w64 s → FitsSigned w64 p → unsigned_abs s + unsigned_abs p < 2 ^ 63 → to_z w64 (of_z w64 (to_z w64 (of_z w64 s) +ℤ to_z w64 (of_z w64 p))) ≡ s +ℤ p
machine_plain_sum s p s_fits p_fits room =
    let both : unsigned_abs (s +ℤ p) ≤ unsigned_abs s + unsigned_abs p = abs_sum s p in
    let less : unsigned_abs (s +ℤ p) < 2 ^ 63 = omega arith in
    let sum : FitsSigned w64 (s +ℤ p) = fits_signed_from_abs w64 _ less in
    ap (λ (z : ℤ). to_z w64 (of_z w64 (z +ℤ to_z w64 (of_z w64 p)))) (to_z-of_z w64 s s_fits) ∙ ap (λ (z : ℤ). to_z w64 (of_z w64 (s +ℤ z))) (to_z-of_z w64 p p_fits) ∙ to_z-of_z w64 (s +ℤ p) sum

-- ---- weights

pub weight_of-none : (values : List Fraction) (start : ℕ) → weight_of values start 0 ≡ 0
unfolding weight_of
weight_of-none values start = refl

pub weight_of-more : (values : List Fraction) (start n : ℕ) → weight_of values start (n + 1) ≡ weight_of values start n + unsigned_abs (num_at values (start + n))
unfolding weight_of
weight_of-more values start n = ap (λ m. weight_of values start m) (add-one n)

pub weight_of-adds : (values : List Fraction) (start n m : ℕ) → weight_of values start (n + m) ≡ weight_of values start n + weight_of values (start + n) m
unfolding weight_of
weight_of-adds values start n zero =
    let same : weight_of values start (n + 0) ≡ weight_of values start n = ap (λ k. weight_of values start k) (omega arith) in
    let none : weight_of values (start + n) 0 ≡ 0 = weight_of-none values (start + n) in
    omega arith
weight_of-adds values start n (suc m) =
    let before : weight_of values start (n + m) ≡ weight_of values start n + weight_of values (start + n) m = weight_of-adds values start n m in
    let place : start + (n + m) ≡ start + n + m = omega arith in
    let same : unsigned_abs (num_at values (start + (n + m))) ≡ unsigned_abs (num_at values (start + n + m)) = ap (λ k. unsigned_abs (num_at values k)) place in
    let next : weight_of values start (n + suc m) ≡ weight_of values start (n + m) + unsigned_abs (num_at values (start + (n + m))) = ap (λ k. weight_of values start k) (omega arith) ∙ weight_of-more values start (n + m) in
    omega arith

pub weight_of-grows : (values : List Fraction) (start n m : ℕ) → n ≤ m → weight_of values start n ≤ weight_of values start m
weight_of-grows values start n m h =
    let e : n + (m - n) ≡ m = omega arith in
    let adds : weight_of values start (n + (m - n)) ≡ weight_of values start n + weight_of values (start + n) (m - n) = weight_of-adds values start n (m - n) in
    let all : weight_of values start (n + (m - n)) ≡ weight_of values start m = ap (λ k. weight_of values start k) e in
    omega arith

-- the weights of a part of a list
pub weight_of-same : (values part : List Fraction) (start n : ℕ) → ((j : ℕ) → j < n → num_at part j ≡ num_at values (start + j)) → weight_of part 0 n ≡ weight_of values start n
unfolding weight_of
weight_of-same values part start zero h = refl
weight_of-same values part start (suc n) h =
    let before : weight_of part 0 n ≡ weight_of values start n = weight_of-same values part start n (λ j l. h j (omega arith)) in
    let last : unsigned_abs (num_at part n) ≡ unsigned_abs (num_at values (start + n)) = ap unsigned_abs (h n (omega arith)) in
    let front : weight_of part 0 (suc n) ≡ weight_of part 0 n + unsigned_abs (num_at part n) = ap (λ k. weight_of part 0 n + unsigned_abs (num_at part k)) (omega arith) in
    front ∙ ap (λ w. w + unsigned_abs (num_at part n)) before ∙ ap (λ w. weight_of values start n + w) last

pub weight_of-next : (values : List Fraction) (n : ℕ) → weight_of values 0 (n + 1) ≡ weight_of values 0 n + unsigned_abs (num_at values n)
weight_of-next values n = weight_of-more values 0 n ∙ ap (λ k. weight_of values 0 n + unsigned_abs (num_at values k)) (omega arith)

-- ---- room

pub with_next : (size first before next all bound : ℕ) → size ≤ first + before * bound → before + next ≤ all → size + next * bound ≤ first + all * bound
with_next size first before next all bound h w =
    let grow : bound * (before + next) ≤ bound * all = mul-le-mul_left bound w in
    let split : bound * (before + next) ≡ before * bound + next * bound = omega arith in
    let turn : bound * all ≡ all * bound = omega arith in
    omega arith

pub room : (size first before next all bound pixel : ℕ) → size ≤ first + before * bound → before + next ≤ all → first + all * bound < 2 ^ 63 → pixel ≤ bound → size + next * pixel < 2 ^ 63
room size first before next all bound pixel h w most p =
    let next_most : next * pixel ≤ next * bound = mul-le-mul_left next p in
    let total : size + next * bound ≤ first + all * bound = with_next size first before next all bound h w in
    omega arith

-- ---- one product more

pub product_added : (values : List Fraction) (pixels : List ℤ) (k j : ℕ) (start : Cell) (sum next : ℤ) → (get_or values j (whole_of (pos 0))).den ≡ 1 → unsigned_abs sum + unsigned_abs (num_at values j) * unsigned_abs (at pixels (k + j)) < 2 ^ 63 → cell_of_lowest sum 1 ≡ row_added (times_pixel values pixels k) j start → next ≡ sum +ℤ num_at values j *ℤ at pixels (k + j) → cell_of_lowest next 1 ≡ row_added (times_pixel values pixels k) (j + 1) start
product_added values pixels k j start sum next whole fits before e =
    let value : Fraction = get_or values j (whole_of (pos 0)) in
    let number : Fraction = whole_of (at pixels (k + j)) in
    let size : unsigned_abs (num_at values j *ℤ at pixels (k + j)) ≡ unsigned_abs (num_at values j) * unsigned_abs (at pixels (k + j)) = unsigned_abs-mul (num_at values j) (at pixels (k + j)) in
    let product_fits : unsigned_abs (num_at values j *ℤ at pixels (k + j)) < 2 ^ 63 = omega arith in
    let sum_fits : unsigned_abs sum < 2 ^ 63 = omega arith in
    row_added-step (times_pixel values pixels k) j start (cell_of_lowest sum 1) (cell_of_lowest next 1) (multiply_of (Number value) (Number number)) before refl (whole_sum sum next value number whole refl sum_fits product_fits e)

pub size_added : (sum value pixel next : ℤ) (first before all bound : ℕ) → next ≡ sum +ℤ value *ℤ pixel → unsigned_abs sum ≤ first + before * bound → unsigned_abs pixel ≤ bound → before + unsigned_abs value ≤ all → unsigned_abs next ≤ first + all * bound
size_added sum value pixel next first before all bound e h p w =
    let size : unsigned_abs (value *ℤ pixel) ≡ unsigned_abs value * unsigned_abs pixel = unsigned_abs-mul value pixel in
    let most : unsigned_abs value * unsigned_abs pixel ≤ unsigned_abs value * bound = mul-le-mul_left (unsigned_abs value) p in
    let total : unsigned_abs sum + unsigned_abs value * bound ≤ first + all * bound = with_next (unsigned_abs sum) first before (unsigned_abs value) all bound h w in
    let both : unsigned_abs (sum +ℤ value *ℤ pixel) ≤ unsigned_abs sum + unsigned_abs (value *ℤ pixel) = abs_sum sum (value *ℤ pixel) in
    let same : unsigned_abs next ≡ unsigned_abs (sum +ℤ value *ℤ pixel) = ap unsigned_abs e in
    omega arith

-- ---- a kernel's row

pub row_end : (h w i : ℕ) → i < h → i * w + w ≤ w * h
row_end h w i below =
    let grow : w * (i + 1) ≤ w * h = mul-le-mul_left w (omega arith) in
    let split : w * (i + 1) ≡ i * w + w = omega arith in
    omega arith

pub row_whole : (values row : List Fraction) (start w : ℕ) → AreWhole values → row ≡ slice_range values start (start + w) → start + w ≤ length values → (j : ℕ) → j < w → (get_or row j (whole_of (pos 0))).den ≡ 1
row_whole values row start w whole cut within j place =
    ap (λ (l : List Fraction). (get_or l j (whole_of (pos 0))).den) cut ∙ ap (λ (q : Fraction). q.den) (get_or-slice_range values start (start + w) j (whole_of (pos 0)) (omega arith)) ∙ whole (start + j) (omega arith)

pub row_weight : (values row : List Fraction) (start w : ℕ) → row ≡ slice_range values start (start + w) → weight_of row 0 w ≡ weight_of values start w
row_weight values row start w cut = weight_of-same values row start w (λ j place.
    ap (λ (l : List Fraction). (get_or l j (whole_of (pos 0))).num) cut ∙ ap (λ (q : Fraction). q.num) (get_or-slice_range values start (start + w) j (whole_of (pos 0)) (omega arith)))

-- the weights of the rows so far and of one more
pub row_more : (values row : List Fraction) (start w : ℕ) → row ≡ slice_range values start (start + w) → weight_of values 0 (start + w) ≡ weight_of values 0 start + weight_of row 0 w
row_more values row start w cut =
    weight_of-adds values 0 start w ∙ ap (λ s. weight_of values 0 start + weight_of values s w) (omega arith) ∙ ap (λ n. weight_of values 0 start + n) (sym (row_weight values row start w cut))

-- a value times a whole pixel is what the definition adds there
pub strip_cell : (k : KernelValues) (border : Border) (replace : Fraction) (plane : Plane) (y x i t j : ℕ) (row : List Fraction) (pixels : List ℤ) → row ≡ slice_range k.values (i * k.width) (i * k.width + k.width) → j < k.width → pixel_from k border replace plane y x i (t + j) ≡ Number (whole_of (at pixels (t + j))) → times_pixel row pixels t j ≡ weighted k border replace (whole_plane_of plane) y (x + t) i j
strip_cell k border replace plane y x i t j row pixels cut within pixel =
    let column : reach x (t + j) k.width ≡ reach (x + t) j k.width = ap (λ (n : ℕ). pos n -ℤ pos (radius_of k.width)) (omega arith) in
    ap (λ (v : Cell). multiply_of v (Number (whole_of (at pixels (t + j))))) (value_at-row k i j row cut within) ∙ ap (λ (p : Cell). multiply_of (kernel_value k i j) p) (sym pixel ∙ ap (λ (z : ℤ). pixel_of border replace (cell_in plane) (border_position border (reach y i k.height) plane.side_y) (border_position border z plane.side_x)) column)

-- ---- pixels in rows of a stride

-- and in the part of the pixels that a window's row reads
pub window_cell : (k : KernelValues) (pixels : List ℤ) (stride first i t j start under : ℕ) (row : List Fraction) → row ≡ slice_range k.values (i * k.width) (i * k.width + k.width) → j < k.width → start ≡ first + i * stride → t + j < under → times_pixel row (slice_range pixels start (start + under)) t j ≡ unpacked k pixels stride (first + t) i j
window_cell k pixels stride first i t j start under row cut within begins short =
    let index : start + (t + j) ≡ first + t + i * stride + j = omega arith in
    ap (λ (v : Cell). multiply_of v (Number (whole_of (at (slice_range pixels start (start + under)) (t + j))))) (value_at-row k i j row cut within) ∙ ap (λ (z : ℤ). multiply_of (kernel_value k i j) (Number (whole_of z))) (get_or-slice_range pixels start (start + under) (t + j) (pos 0) (omega arith) ∙ ap (λ (n : ℕ). at pixels n) index)

-- rows of unpacked pixels hold what the definition adds
pub block_cell : (k : KernelValues) (border : Border) (replace : Fraction) (plane : Plane) (y x row column i j stride first : ℕ) (pixels : List ℤ) → first ≡ row * stride + column → pixel_from k border replace plane y x (row + i) (column + j) ≡ Number (whole_of (at pixels ((row + i) * stride + (column + j)))) → unpacked k pixels stride first i j ≡ weighted k border replace (whole_plane_of plane) (y + row) (x + column) i j
block_cell k border replace plane y x row column i j stride first pixels begins pixel =
    let across : reach x (column + j) k.width ≡ reach (x + column) j k.width = ap (λ (n : ℕ). pos n -ℤ pos (radius_of k.width)) (omega arith) in
    let down : reach y (row + i) k.height ≡ reach (y + row) i k.height = ap (λ (n : ℕ). pos n -ℤ pos (radius_of k.height)) (omega arith) in
    let index : first + i * stride + j ≡ (row + i) * stride + (column + j) = omega arith in
    ap (λ (n : ℕ). multiply_of (kernel_value k i j) (Number (whole_of (at pixels n)))) index ∙ ap (λ (p : Cell). multiply_of (kernel_value k i j) p) (sym pixel ∙ ap (λ (z : ℤ). pixel_of border replace (cell_in plane) (border_position border z plane.side_y) (border_position border (reach x (column + j) k.width) plane.side_x)) down ∙ ap (λ (z : ℤ). pixel_of border replace (cell_in plane) (border_position border (reach (y + row) i k.height) plane.side_y) (border_position border z plane.side_x)) across)

-- ---- the factor

pub times_one : (n : ℤ) (factor : Fraction) → unsigned_abs n < 2 ^ 63 → factor.den ≡ 1 → factor.num ≡ pos 1 → Number (whole_of n) ≡ multiply_of (cell_of_lowest n 1) (Number factor)
times_one n factor h den num =
    let one : factor ≡ whole_of (pos 1) = λ i. record { num = num i; den = den i } in
    let product : n *ℤ pos 1 ≡ n = omega (arith, ints) in
    sym (ap (λ (c : Cell). multiply_of c (Number factor)) (lowest_whole n h) ∙ ap (λ (q : Fraction). multiply_of (Number (whole_of n)) (Number q)) one ∙ multiply_of-whole n (pos 1) ∙ ap (λ (z : ℤ). cell_of_lowest z 1) product ∙ lowest_whole n h)

-- ---- the whole plane

pub strip_convolved : (k : KernelValues) (factor : Fraction) (border : Border) (replace : Fraction) (plane : Plane) (whole : WholePlane) (y x : ℕ) (cell sum : Cell) → IsPartOf plane whole → CoversWindow border y k.height plane.side_y plane.from_y plane.to_y → CoversWindow border x k.width plane.side_x plane.from_x plane.to_x → sum ≡ rows_added (weighted k border replace (whole_plane_of plane) y x) k.width k.height → cell ≡ multiply_of sum (Number factor) → cell ≡ convolved k factor border replace whole y x
unfolding convolved
strip_convolved k factor border replace plane whole y x cell sum part rows columns total scaled =
    scaled ∙ ap (λ (t : Cell). multiply_of t (Number factor)) (total ∙ rows_added-same _ (weighted k border replace whole y x) k.width k.height (λ i j i_in j_in. weighted-same k border replace plane whole y x i j part rows columns i_in j_in))
