-- Windows: the pixels that lie beside a kernel's values, in a row, in a box and in the whole plane.
use Rattle.std.proofs.Common.{◌≡◌, ◌≢◌, ℕ, ◌+◌, ◌-◌, ◌*◌, ◌<◌, ◌≤◌, List, length, get_or, drop, suc, true, false, ltb, ◌%◌, inl, inr, refl, ap, ◌∙◌, subst, sym, arith}
use Rattle.std.specs.Prelude.{ℤ, pos, negsuc, ◌-ℤ◌, ◌≤ℤ◌, ◌<ℤ◌, unsigned_abs, min, Option, Some, None, IfSome}
use Rattle.std.specs.List.{slice_range}
use Rattle.std.proofs.lemmas.Bool.{cases_Bool}
use Rattle.std.proofs.lemmas.Bool.Decides.{Decides-ltb, nat_tests}
use Rattle.std.proofs.lemmas.Int.{ints}
use Rattle.std.proofs.lemmas.List.{get_or-take, get_or-drop}
use Rattle.oe_cell.specs.Fraction.{Fraction}
use Rattle.oe_cell.specs.Operations.{multiply_of}
use Rattle.oe_cell.specs.Rational.{whole_of}
use Rattle.oe_cell.specs.declared.cell.Cell.{Cell}
use Rattle.oe_cell.specs.declared.cell.Cell.TheVariants.{Empty, Number}
use Rattle.oe_kernel.specs.Borders.{is_on, border_position, outside, nearest, reflected, reflected_at_pixel, IsNear, IsWrap}
use Rattle.oe_kernel.specs.Kernels.{KernelValues, radius_of}
use Rattle.oe_kernel.specs.Convolution.{WholePlane, pixel_number, border_number, pixel_of, reach, kernel_value, weighted, cell_in, IsPartOf, IsPositionIn, CoversWindow}
use Rattle.oe_kernel.specs.Rows.{whole_plane_of, value_at, beside, bordered, pixel_in, in_row}
use Rattle.oe_kernel.specs.Strips.{CoversPixels}
use Rattle.oe_kernel.specs.declared.border.Border.{Border}
use Rattle.oe_kernel.specs.declared.border.Border.TheVariants.{Value, Replicate, Reflect, ReflectPixel, Wrap}
use Rattle.oe_kernel.specs.declared.plane.Plane.{Plane}
use Rattle.oe_kernel.proofs.BorderLemmas.{on_from, on_within, border_position-on, border_position-off, border_position-within, reflected-before, reflected-after, reflected-within, reflected_at_pixel-before, reflected_at_pixel-after, reflected_at_pixel-within}

-- a part of a list, item by item
pub get_or-slice_range : {A : Type 0} (xs : List A) (from end j : ℕ) (d : A) → j < end - from → get_or (slice_range xs from end) j d ≡ get_or xs (from + j) d
get_or-slice_range xs from end j d h =
    get_or-take (end - from) (drop from xs) j d h ∙ get_or-drop from xs j d

-- ---- positions of a window

-- a window that lies within the side has its positions one after the other
pub border_position-inside : (border : Border) (x j size side : ℕ) → radius_of size ≤ x → size - radius_of size ≤ side - x → x < side → j < size → border_position border (reach x j size) side ≡ Some (x - radius_of size + j)
border_position-inside border x j size side low high within place =
    let smaller : radius_of size < size = omega arith in
    let from_zero : pos 0 ≤ℤ reach x j size = omega (arith, ints) in
    let to_side : reach x j size <ℤ pos side = omega (arith, ints) in
    let size_is : unsigned_abs (reach x j size) ≡ x - radius_of size + j = omega (arith, ints) in
    border_position-on border (reach x j size) side (on_from (reach x j size) side from_zero to_side) ∙ ap Some size_is

pub held_at : (border : Border) (at size side first end k position : ℕ) → CoversWindow border at size side first end → k < size → border_position border (reach at k size) side ≡ Some position → IsPositionIn first end position
held_at border at size side first end k position h place e =
    subst (λ (o : Option ℕ). IfSome o (IsPositionIn first end)) e (h.each k place)

-- the first and the last position of a window within the side lie in the part that is held
pub held_inside : (border : Border) (x size side from end : ℕ) → 0 < size → radius_of size ≤ x → size - radius_of size ≤ side - x → x < side → CoversWindow border x size side from end → (from ≤ x - radius_of size) × (x - radius_of size + size ≤ end)
held_inside border x size side from end some low high within h =
    let first : IsPositionIn from end (x - radius_of size + 0) = held_at border x size side from end 0 _ h some (border_position-inside border x 0 size side low high within some) in
    let near : size - 1 < size = omega arith in
    let last : IsPositionIn from end (x - radius_of size + (size - 1)) = held_at border x size side from end (size - 1) _ h near (border_position-inside border x (size - 1) size side low high within near) in
    (omega arith, omega arith)

-- ---- rows

-- within the side, the pixels beside the values are a part of the row
pub beside_is_in_row : (values : List Fraction) (border : Border) (replace : Fraction) (pixels part : List Cell) (from side x j : ℕ) → radius_of (length values) ≤ x → length values - radius_of (length values) ≤ side - x → x < side → from ≤ x - radius_of (length values) → part ≡ slice_range pixels (x - radius_of (length values) - from) (x - radius_of (length values) - from + length values) → j < length values → beside values part replace j ≡ in_row values border replace pixels from side x j
beside_is_in_row values border replace pixels part from side x j low high within start cut place =
    let r : ℕ = radius_of (length values) in
    let position : border_position border (reach x j (length values)) side ≡ Some (x - r + j) = border_position-inside border x j (length values) side low high within place in
    let short : j < x - r - from + length values - (x - r - from) = omega arith in
    let pixel : get_or part j Empty ≡ get_or pixels (x - r - from + j) Empty = ap (λ (p : List Cell). get_or p j Empty) cut ∙ get_or-slice_range pixels (x - r - from) (x - r - from + length values) j Empty short in
    let index : x - r - from + j ≡ x - r + j - from = omega arith in
    ap (λ (p : Cell). multiply_of (value_at values j) (pixel_number replace p)) (pixel ∙ ap (λ (n : ℕ). get_or pixels n Empty) index) ∙ ap (λ (o : Option ℕ). multiply_of (value_at values j) (pixel_in border replace pixels from o)) (sym position)

-- the values of a kernel's row
pub value_at-row : (k : KernelValues) (i j : ℕ) (row : List Fraction) → row ≡ slice_range k.values (i * k.width) (i * k.width + k.width) → j < k.width → value_at row j ≡ kernel_value k i j
value_at-row k i j row cut place =
    let short : j < i * k.width + k.width - i * k.width = omega arith in
    ap (λ (v : List Fraction). value_at v j) cut ∙ ap (λ (v : Fraction). Number v) (get_or-slice_range k.values (i * k.width) (i * k.width + k.width) j (whole_of (pos 0)) short)

-- a row that is outside
pub bordered_is_weighted : (k : KernelValues) (border : Border) (replace : Fraction) (plane : WholePlane) (y x i j : ℕ) (row : List Fraction) → row ≡ slice_range k.values (i * k.width) (i * k.width + k.width) → border_position border (reach y i k.height) plane.side_y ≡ None → j < k.width → bordered row border j ≡ weighted k border replace plane y x i j
bordered_is_weighted k border replace plane y x i j row cut outside place =
    ap (λ (v : Cell). multiply_of v (border_number border)) (value_at-row k i j row cut place) ∙ ap (λ (o : Option ℕ). multiply_of (kernel_value k i j) (pixel_of border replace plane.cell o (border_position border (reach x j k.width) plane.side_x))) (sym outside)

-- a pixel of a row of the box
pixel_in_is_pixel_of : (border : Border) (replace : Fraction) (pixels : List Cell) (cell : ℕ → ℕ → Cell) (row from end : ℕ) (column : Option ℕ) → ((q : ℕ) → IsPositionIn from end q → get_or pixels (q - from) Empty ≡ cell row q) → IfSome column (IsPositionIn from end) → pixel_in border replace pixels from column ≡ pixel_of border replace cell (Some row) column
pixel_in_is_pixel_of border replace pixels cell row from end None same h = refl
pixel_in_is_pixel_of border replace pixels cell row from end (Some q) same h =
    ap (pixel_number replace) (same q h)

-- a row of the box
pub in_row_is_weighted : (k : KernelValues) (border : Border) (replace : Fraction) (plane : Plane) (y x i j row : ℕ) (values : List Fraction) (pixels : List Cell) → values ≡ slice_range k.values (i * k.width) (i * k.width + k.width) → length values ≡ k.width → border_position border (reach y i k.height) plane.side_y ≡ Some row → ((q : ℕ) → IsPositionIn plane.from_x plane.to_x q → get_or pixels (q - plane.from_x) Empty ≡ cell_in plane row q) → CoversWindow border x k.width plane.side_x plane.from_x plane.to_x → j < k.width → in_row values border replace pixels plane.from_x plane.side_x x j ≡ weighted k border replace (whole_plane_of plane) y x i j
in_row_is_weighted k border replace plane y x i j row values pixels cut len inside same held place =
    ap (λ (v : Cell). multiply_of v (pixel_in border replace pixels plane.from_x (border_position border (reach x j (length values)) plane.side_x))) (value_at-row k i j values cut place) ∙ ap (λ (n : ℕ). multiply_of (kernel_value k i j) (pixel_in border replace pixels plane.from_x (border_position border (reach x j n) plane.side_x))) len ∙ ap (λ (c : Cell). multiply_of (kernel_value k i j) c) (pixel_in_is_pixel_of border replace pixels (cell_in plane) row plane.from_x plane.to_x (border_position border (reach x j k.width) plane.side_x) same (held.each j place)) ∙ ap (λ (o : Option ℕ). multiply_of (kernel_value k i j) (pixel_of border replace (cell_in plane) o (border_position border (reach x j k.width) plane.side_x))) (sym inside)

-- ---- the whole plane

pixel_of-same : (border : Border) (replace : Fraction) (c d : ℕ → ℕ → Cell) (from_y to_y from_x to_x : ℕ) (row column : Option ℕ) → ((p q : ℕ) → from_y ≤ p → p < to_y → from_x ≤ q → q < to_x → c p q ≡ d p q) → IfSome row (IsPositionIn from_y to_y) → IfSome column (IsPositionIn from_x to_x) → pixel_of border replace c row column ≡ pixel_of border replace d row column
pixel_of-same border replace c d from_y to_y from_x to_x None column same h k = refl
pixel_of-same border replace c d from_y to_y from_x to_x (Some p) None same h k = refl
pixel_of-same border replace c d from_y to_y from_x to_x (Some p) (Some q) same h k =
    ap (pixel_number replace) (same p q h.0 h.1 k.0 k.1)

-- the box has the cells that count
pub weighted-same : (k : KernelValues) (border : Border) (replace : Fraction) (plane : Plane) (whole : WholePlane) (y x i j : ℕ) → IsPartOf plane whole → CoversWindow border y k.height plane.side_y plane.from_y plane.to_y → CoversWindow border x k.width plane.side_x plane.from_x plane.to_x → i < k.height → j < k.width → weighted k border replace (whole_plane_of plane) y x i j ≡ weighted k border replace whole y x i j
weighted-same k border replace plane whole y x i j part rows columns i_in j_in =
    ap (λ (c : Cell). multiply_of (kernel_value k i j) c)
    (pixel_of-same border replace (cell_in plane) whole.cell plane.from_y plane.to_y plane.from_x plane.to_x (border_position border (reach y i k.height) plane.side_y) (border_position border (reach x j k.width) plane.side_x) part.same (rows.each i i_in) (columns.each j j_in) ∙ ap (λ (n : ℕ). pixel_of border replace whole.cell (border_position border (reach y i k.height) n) (border_position border (reach x j k.width) plane.side_x)) part.side_y_same ∙ ap (λ (n : ℕ). pixel_of border replace whole.cell (border_position border (reach y i k.height) whole.side_y) (border_position border (reach x j k.width) n)) part.side_x_same)

-- ---- what a caller holds

FromTo-from_zero : (side : ℕ) (o : Option ℕ) → IfSome o (λ position. position < side) → IfSome o (IsPositionIn 0 side)
FromTo-from_zero side None h = tt
FromTo-from_zero side (Some p) h = (omega arith, h)

-- a box with the whole side holds each position that a border rule gives
pub CoversWindow-whole : (border : Border) (at size side : ℕ) → 0 < side → CoversWindow border at size side 0 side
CoversWindow-whole border at size side some = record {
  each = λ k h. FromTo-from_zero side _ (border_position-within border (reach at k size) side some);
}

-- a box that holds a window within the side holds each position of it
pub CoversWindow-inside : (border : Border) (x size side first end : ℕ) → radius_of size ≤ x → size - radius_of size ≤ side - x → x < side → first ≤ x - radius_of size → x - radius_of size + size ≤ end → CoversWindow border x size side first end
CoversWindow-inside border x size side first end low high within from to = record {
  each = λ k h. subst (λ (o : Option ℕ). IfSome o (IsPositionIn first end)) (sym (border_position-inside border x k size side low high within h)) (omega arith, omega arith);
}

-- the pixels under windows one after the other lie where each window's do
pub CoversPixels-windows : (border : Border) (x count size under side first end : ℕ) → ((k : ℕ) → k < count → CoversWindow border (x + k) size side first end) → 0 < size → 0 < count → under + 1 ≤ count + size → CoversPixels border x size under side first end
CoversPixels-windows border x count size under side first end h some any most = record {
  each = λ t within. elim (cases_Bool (ltb t count)) [
    | inl below ↦
        let near : t < count = (Decides-ltb t count).0 below in
        let same : reach (x + t) 0 size ≡ reach x t size = ap (λ (n : ℕ). pos n -ℤ pos (radius_of size)) (omega arith) in
        subst (λ (z : ℤ). IfSome (border_position border z side) (IsPositionIn first end)) same ((h t near).each 0 some)
    | inr above ↦
        let far : count ≤ t = grind (arith, nat_tests) in
        let same : reach (x + (count - 1)) (t - (count - 1)) size ≡ reach x t size = ap (λ (n : ℕ). pos n -ℤ pos (radius_of size)) (omega arith) in
        subst (λ (z : ℤ). IfSome (border_position border z side) (IsPositionIn first end)) same ((h (count - 1) (omega arith)).each (t - (count - 1)) (omega arith))
  ];
}

-- a pixel under the windows that is not outside lies as far from the first one
pub pixel_position : (border : Border) (x t size side : ℕ) → radius_of size ≤ x → x + t < side + radius_of size → border_position border (reach x t size) side ≡ Some (x - radius_of size + t)
pixel_position border x t size side low high =
    let from_zero : pos 0 ≤ℤ reach x t size = omega (arith, ints) in
    let to_side : reach x t size <ℤ pos side = omega (arith, ints) in
    let size_is : unsigned_abs (reach x t size) ≡ x - radius_of size + t = omega (arith, ints) in
    border_position-on border (reach x t size) side (on_from (reach x t size) side from_zero to_side) ∙ ap Some size_is

covered_at : (border : Border) (x size count side first end t position : ℕ) → CoversPixels border x size count side first end → t < count → border_position border (reach x t size) side ≡ Some position → IsPositionIn first end position
covered_at border x size count side first end t position h within e =
    subst (λ (o : Option ℕ). IfSome o (IsPositionIn first end)) e (h.each t within)

-- pixels under the windows none of which is outside stand one after the other in the part that is held
pub covered_inside : (border : Border) (x size count side first end : ℕ) → 0 < count → radius_of size ≤ x → x + count ≤ side + radius_of size → CoversPixels border x size count side first end → (first ≤ x - radius_of size) × (x - radius_of size + count ≤ end)
covered_inside border x size count side first end some low high h =
    let near : IsPositionIn first end (x - radius_of size + 0) = covered_at border x size count side first end 0 _ h some (pixel_position border x 0 size side low (omega arith)) in
    let last : count - 1 < count = omega arith in
    let far : IsPositionIn first end (x - radius_of size + (count - 1)) = covered_at border x size count side first end (count - 1) _ h last (pixel_position border x (count - 1) size side low (omega arith)) in
    (omega arith, omega arith)

number_held : (q : Fraction) (i : ℤ) (side first end : ℕ) → (pos 0 ≤ℤ i → i <ℤ pos side → IsPositionIn first end (unsigned_abs i)) → IfSome (border_position (Value q) i side) (IsPositionIn first end)
number_held q i side first end h =
    elim (cases_Bool (is_on i side)) [
      | inl t ↦
          subst (λ (o : Option ℕ). IfSome o (IsPositionIn first end)) (sym (border_position-on (Value q) i side t)) (h (on_within i side t).0 (on_within i side t).1)
      | inr f ↦
          subst (λ (o : Option ℕ). IfSome o (IsPositionIn first end)) (sym (border_position-off (Value q) i side f)) tt
    ]

-- under a number, a box that holds what a window has of the side holds each position of it
pub CoversWindow-number : (q : Fraction) (x size side first end : ℕ) → first ≤ x - radius_of size → min side (x + size - radius_of size) ≤ end → CoversWindow (Value q) x size side first end
CoversWindow-number q x size side first end from to = record {
  each = λ k h. number_held q (reach x k size) side first end (λ low high. (omega (arith, ints), omega (arith, ints)));
}

-- ---- a window that leaves the side, under a rule that gives the nearest position or mirrors

-- what a box has: it begins at most as far back as the window, and ends with the window or with the side
pub record HasWindow (x radius side first end : ℕ) : Type 0 where
  pub on : x < side
  pub from : first ≤ x - radius
  pub to : min side (x + radius + 1) ≤ end

within_window : (x radius side first end p : ℕ) → HasWindow x radius side first end → x - radius ≤ p → p < side → p ≤ x + radius → IsPositionIn first end p
within_window x radius side first end p h low side_end high = let from = h.from in let to = h.to in (omega arith, omega arith)

-- the window has the whole side
anywhere : (x radius side first end p : ℕ) → HasWindow x radius side first end → side ≤ x + radius + 1 → x ≤ radius → p < side → IsPositionIn first end p
anywhere x radius side first end p h far near low = let from = h.from in let to = h.to in (omega arith, omega arith)

reflected_held : (i : ℤ) (x radius side first end : ℕ) → HasWindow x radius side first end → is_on i side ≡ false → (pos x -ℤ pos radius) ≤ℤ i → i ≤ℤ pos (x + radius) → IsPositionIn first end (reflected i side)
reflected_held (negsuc a) x radius side first end h off low high =
    let on : x < side = h.on in
    elim (cases_Bool (ltb a side)) [
      | inl t ↦
          let near : a < side = (Decides-ltb a side).0 t in
          subst (IsPositionIn first end) (sym (reflected-before a side near)) (within_window x radius side first end a h (omega (arith, ints)) near (omega (arith, ints)))
      | inr f ↦
          let far : side ≤ a = grind (arith, nat_tests) in
          anywhere x radius side first end _ h (omega (arith, ints)) (omega (arith, ints)) (reflected-within (negsuc a) side (omega arith))
    ]
reflected_held (pos b) x radius side first end h off low high =
    let on : x < side = h.on in
    let past : side ≤ b = grind (arith, nat_tests) in
    let c : ℕ = b - side in
    let b_is : b ≡ side + c = omega arith in
    elim (cases_Bool (ltb c side)) [
      | inl t ↦
          let near : c < side = (Decides-ltb c side).0 t in
          let place : reflected (pos b) side ≡ side - 1 - c = ap (λ (n : ℕ). reflected (pos n) side) b_is ∙ reflected-after c side near in
          subst (IsPositionIn first end) (sym place) (within_window x radius side first end (side - 1 - c) h (omega (arith, ints)) (omega arith) (omega (arith, ints)))
      | inr f ↦
          let far : side ≤ c = grind (arith, nat_tests) in
          anywhere x radius side first end _ h (omega (arith, ints)) (omega (arith, ints)) (reflected-within (pos b) side (omega arith))
    ]

reflected_at_pixel_held : (i : ℤ) (x radius side first end : ℕ) → HasWindow x radius side first end → is_on i side ≡ false → (pos x -ℤ pos radius) ≤ℤ i → i ≤ℤ pos (x + radius) → IsPositionIn first end (reflected_at_pixel i side)
reflected_at_pixel_held (negsuc a) x radius side first end h off low high =
    let on : x < side = h.on in
    elim (cases_Bool (ltb (suc a) side)) [
      | inl t ↦
          let near : suc a < side = (Decides-ltb (suc a) side).0 t in
          subst (IsPositionIn first end) (sym (reflected_at_pixel-before a side near)) (within_window x radius side first end (suc a) h (omega (arith, ints)) near (omega (arith, ints)))
      | inr f ↦
          let far : side ≤ suc a = grind (arith, nat_tests) in
          anywhere x radius side first end _ h (omega (arith, ints)) (omega (arith, ints)) (reflected_at_pixel-within (negsuc a) side (omega arith))
    ]
reflected_at_pixel_held (pos b) x radius side first end h off low high =
    let on : x < side = h.on in
    let past : side ≤ b = grind (arith, nat_tests) in
    let c : ℕ = b - side in
    let b_is : b ≡ side + c = omega arith in
    elim (cases_Bool (ltb (suc c) side)) [
      | inl t ↦
          let near : suc c < side = (Decides-ltb (suc c) side).0 t in
          let place : reflected_at_pixel (pos b) side ≡ side - 2 - c = ap (λ (n : ℕ). reflected_at_pixel (pos n) side) b_is ∙ reflected_at_pixel-after c side near in
          subst (IsPositionIn first end) (sym place) (within_window x radius side first end (side - 2 - c) h (omega (arith, ints)) (omega arith) (omega (arith, ints)))
      | inr f ↦
          let far : side ≤ suc c = grind (arith, nat_tests) in
          anywhere x radius side first end _ h (omega (arith, ints)) (omega (arith, ints)) (reflected_at_pixel-within (pos b) side (omega arith))
    ]

nearest_held : (i : ℤ) (x radius side first end : ℕ) → HasWindow x radius side first end → is_on i side ≡ false → (pos x -ℤ pos radius) ≤ℤ i → i ≤ℤ pos (x + radius) → IsPositionIn first end (nearest i side)
nearest_held (negsuc a) x radius side first end h off low high =
    let on : x < side = h.on in
    within_window x radius side first end 0 h (omega (arith, ints)) (omega arith) (omega arith)
nearest_held (pos b) x radius side first end h off low high =
    let on : x < side = h.on in
    let past : side ≤ b = grind (arith, nat_tests) in
    let place : side - 1 ≡ min b (side - 1) = omega arith in
    subst (IsPositionIn first end) place (within_window x radius side first end (side - 1) h (omega arith) (omega arith) (omega (arith, ints)))

outside_held : (border : Border) (i : ℤ) (x radius side first end : ℕ) → IsNear border → HasWindow x radius side first end → is_on i side ≡ false → (pos x -ℤ pos radius) ≤ℤ i → i ≤ℤ pos (x + radius) → IfSome (outside border i side) (IsPositionIn first end)
outside_held (Value q) i x radius side first end n h off low high = tt
outside_held Replicate i x radius side first end n h off low high = nearest_held i x radius side first end h off low high
outside_held Reflect i x radius side first end n h off low high = reflected_held i x radius side first end h off low high
outside_held ReflectPixel i x radius side first end n h off low high = reflected_at_pixel_held i x radius side first end h off low high
outside_held Wrap i x radius side first end n h off low high = absurd n

on_held : (i : ℤ) (x radius side first end : ℕ) → HasWindow x radius side first end → is_on i side ≡ true → (pos x -ℤ pos radius) ≤ℤ i → i ≤ℤ pos (x + radius) → IsPositionIn first end (unsigned_abs i)
on_held i x radius side first end h on low high =
    let within = on_within i side on in
    within_window x radius side first end (unsigned_abs i) h (let a = within.0 in omega (arith, ints)) (let a = within.0 in let b = within.1 in omega (arith, ints)) (let a = within.0 in omega (arith, ints))

-- the window around a position, cut at the sides, holds each position that a rule gives, but for the one that puts the other end
pub CoversWindow-near : (border : Border) (x size side first end : ℕ) → IsNear border → size % 2 ≡ 1 → HasWindow x (radius_of size) side first end → CoversWindow border x size side first end
CoversWindow-near border x size side first end near odd h = record {
  each = λ k place.
      let low : (pos x -ℤ pos (radius_of size)) ≤ℤ reach x k size = omega (arith, ints) in
      let twice : size ≡ radius_of size + radius_of size + 1 = omega arith in
      let high : reach x k size ≤ℤ pos (x + radius_of size) = omega (arith, ints) in
      elim (cases_Bool (is_on (reach x k size) side)) [
        | inl t ↦
            subst (λ (o : Option ℕ). IfSome o (IsPositionIn first end)) (sym (border_position-on border (reach x k size) side t)) (on_held (reach x k size) x (radius_of size) side first end h t low high)
        | inr f ↦
            subst (λ (o : Option ℕ). IfSome o (IsPositionIn first end)) (sym (border_position-off border (reach x k size) side f)) (outside_held border (reach x k size) x (radius_of size) side first end near h f low high)
      ];
}

-- a larger box holds what a smaller one does
in_wider : (first end from to : ℕ) (o : Option ℕ) → from ≤ first → end ≤ to → IfSome o (IsPositionIn first end) → IfSome o (IsPositionIn from to)
in_wider first end from to None low high h = tt
in_wider first end from to (Some p) low high h = (omega arith, omega arith)

pub CoversWindow-wider : (border : Border) (at size side first end from to : ℕ) → from ≤ first → end ≤ to → CoversWindow border at size side first end → CoversWindow border at size side from to
CoversWindow-wider border at size side first end from to low high h = record {
  each = λ k within. in_wider first end from to _ low high (h.each k within);
}

pub near_unless_wrap : (border : Border) → border ≢ Wrap → IsNear border
near_unless_wrap (Value q) h = tt
near_unless_wrap Replicate h = tt
near_unless_wrap Reflect h = tt
near_unless_wrap ReflectPixel h = tt
near_unless_wrap Wrap h = absurd (h refl)

pub IsWrap-not : (border : Border) → border ≢ Wrap → IsWrap border → ⊥
IsWrap-not (Value q) h w = w
IsWrap-not Replicate h w = w
IsWrap-not Reflect h w = w
IsWrap-not ReflectPixel h w = w
IsWrap-not Wrap h w = h refl
