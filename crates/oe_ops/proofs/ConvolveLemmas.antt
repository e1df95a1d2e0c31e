-- What a kernel makes of a cube, at the positions of a window.
use Rattle.std.proofs.Common.{◌≡◌, ℕ, ◌+◌, ◌-◌, ◌*◌, ◌<◌, ◌≤◌, Bool, true, false, List, ◌∷◌, [], length, map, get_or, refl, sym, ap, ◌∙◌, subst, arith, Option, Some, None, IfSome, min}
use Rattle.std.specs.Option.{unwrap_or}
use Rattle.oe_cell.specs.Fraction.{Fraction}
use Rattle.oe_cell.specs.declared.cell.Cell.{Cell}
use Rattle.oe_cell.specs.declared.cell.Cell.TheVariants.{Empty, Flag, Number, Over}
use Rattle.oe_cube.specs.Kinds.{IsOfKind}
use Rattle.oe_dims.specs.Cube.{Cube, IsCube}
use Rattle.oe_dims.specs.Dimensions.{Dimensions, IsShape, extent}
use Rattle.oe_dims.specs.Positions.{Position, IsPosition, label_of, tuple_of}
use Rattle.oe_dims.specs.declared.kind.CellKind.TheVariants.{Numbers}
use Rattle.oe_dims.proofs.CubeLemmas.{length-tuples}
use Rattle.oe_kernel.specs.Borders.{IsNear}
use Rattle.oe_kernel.specs.Convolution.{CoversWindow, IsAmount, IsPositionIn, WholePlane, convolved}
use Rattle.oe_kernel.specs.Kernels.{IsKernel, KernelValues, radius_of}
use Rattle.oe_kernel.specs.declared.border.Border.{Border}
use Rattle.oe_kernel.specs.declared.border.Border.TheVariants.{Value, Replicate, Reflect, ReflectPixel, Wrap}
use Rattle.oe_kernel.proofs.KindLemmas.{IsAmount-convolved}
use Rattle.oe_kernel.proofs.NeedLemmas.{convolved-same}
use Rattle.oe_kernel.proofs.WindowLemmas.{CoversWindow-near, CoversWindow-whole}
use Rattle.oe_window.specs.Cells.{cells_on}
use Rattle.oe_window.specs.Windows.{Holds, IsIn, number_in, position_count, positions, span_length, whole_window}
use Rattle.oe_window.specs.declared.window.Window.{Window}
use Rattle.oe_window.proofs.CellLemmas.{cell_at-at, cells_on-tabulate}
use Rattle.oe_window.proofs.WholeLemmas.{position_in}
use Rattle.oe_window.proofs.WindowLemmas.{filled_by, length-positions, position_number, within_from_holds}
use Rattle.oe_meanings.specs.Meaning as meaning
use Rattle.oe_meanings.specs.Meaning.{cell, convolution, plane_of_tuple}
use Rattle.oe_requests.specs.Operations.{convolve}
use Rattle.oe_ops.specs.Needs.{HoldsNeed, IsWithinReach, Needs, plane_window}
use Rattle.oe_ops.specs.Slices.{IsOn, at_indices}
use Rattle.oe_ops.specs.declared.slice.Slice.{Slice}
use Rattle.oe_ops.proofs.FoundLemmas.{cell_of_is}
use Rattle.oe_ops.proofs.IndexLemmas.{x_found, y_found}
use Rattle.oe_ops.proofs.ListLemmas.{map-agree, map-from_each}
use Rattle.oe_ops.proofs.NumberLemmas.{are_some}
use Rattle.oe_ops.proofs.PlaneLemmas.{CoversPixel, HasSides, has_sides, plane_at}

-- ---- the slice has the pixels that are read

close : (whole : Bool) (halo p q : ℕ) → p ≤ q + halo → q ≤ p + halo → IsWithinReach whole halo p q
close true halo p q h k = tt
close false halo p q h k = (h, k)

each_more : (o : Option ℕ) (P Q : ℕ → Type 0) → ((r : ℕ) → P r → Q r) → IfSome o P → IfSome o Q
each_more None P Q f h = tt
each_more (Some r) P Q f h = f r h

wider : (border : Border) (at size side first end from to : ℕ) → ((r : ℕ) → IsPositionIn first end r → IsPositionIn from to r) → CoversWindow border at size side first end → CoversWindow border at size side from to
wider border at size side first end from to f h = record { each = λ k lt. each_more _ _ _ f (h.each k lt) }

module _ (kernel : KernelValues) (factor replace : Fraction) (d : Dimensions) (window box : Window) (p : Position) (is : IsKernel kernel) (on : IsPosition d p) (inside : IsIn window p) where
  -- the rows that a window of the kernel has of the side
  near_rows : (border : Border) → IsNear border → HoldsNeed (Needs (convolve kernel factor border replace) (d ∷ []) 0) window box → CoversWindow border p.y kernel.height (extent d.y) box.y.from box.y.to
  near_rows border near need =
      let r = radius_of kernel.height in
      wider border p.y kernel.height (extent d.y) (p.y - r) (min (extent d.y) (p.y + r + 1)) box.y.from box.y.to
      (λ q h. let along = (need p (record p { y = q }) inside (record {
        is_position = record { t = on.t; band = on.band; y = omega (arith, h); x = on.x };
        t = close _ 0 p.t p.t (omega arith) (omega arith);
        bands = close _ 0 p.band p.band (omega arith) (omega arith);
        y = close _ r p.y q (omega (arith, h)) (omega (arith, h));
        x = close _ _ p.x p.x (omega arith) (omega arith);
      })).y in (along.begun, along.before))
      (CoversWindow-near border p.y kernel.height (extent d.y) _ _ near is.height_odd (record { on = on.y; from = omega arith; to = omega arith }))

  near_columns : (border : Border) → IsNear border → HoldsNeed (Needs (convolve kernel factor border replace) (d ∷ []) 0) window box → CoversWindow border p.x kernel.width (extent d.x) box.x.from box.x.to
  near_columns border near need =
      let r = radius_of kernel.width in
      wider border p.x kernel.width (extent d.x) (p.x - r) (min (extent d.x) (p.x + r + 1)) box.x.from box.x.to
      (λ q h. let along = (need p (record p { x = q }) inside (record {
        is_position = record { t = on.t; band = on.band; y = on.y; x = omega (arith, h) };
        t = close _ 0 p.t p.t (omega arith) (omega arith);
        bands = close _ 0 p.band p.band (omega arith) (omega arith);
        y = close _ _ p.y p.y (omega arith) (omega arith);
        x = close _ r p.x q (omega (arith, h)) (omega (arith, h));
      })).x in (along.begun, along.before))
      (CoversWindow-near border p.x kernel.width (extent d.x) _ _ near is.width_odd (record { on = on.x; from = omega arith; to = omega arith }))

  -- the whole side, where the border wraps
  wrap_rows : HoldsNeed (Needs (convolve kernel factor Wrap replace) (d ∷ []) 0) window box → CoversWindow Wrap p.y kernel.height (extent d.y) box.y.from box.y.to
  wrap_rows need =
      wider Wrap p.y kernel.height (extent d.y) 0 (extent d.y) box.y.from box.y.to
      (λ q h. let along = (need p (record p { y = q }) inside (record {
        is_position = record { t = on.t; band = on.band; y = omega (arith, h); x = on.x };
        t = (omega arith, omega arith);
        bands = (omega arith, omega arith);
        y = tt;
        x = tt;
      })).y in (along.begun, along.before))
      (CoversWindow-whole Wrap p.y kernel.height (extent d.y) (let y = on.y in omega arith))

  wrap_columns : HoldsNeed (Needs (convolve kernel factor Wrap replace) (d ∷ []) 0) window box → CoversWindow Wrap p.x kernel.width (extent d.x) box.x.from box.x.to
  wrap_columns need =
      wider Wrap p.x kernel.width (extent d.x) 0 (extent d.x) box.x.from box.x.to
      (λ q h. let along = (need p (record p { x = q }) inside (record {
        is_position = record { t = on.t; band = on.band; y = on.y; x = omega (arith, h) };
        t = (omega arith, omega arith);
        bands = (omega arith, omega arith);
        y = tt;
        x = tt;
      })).x in (along.begun, along.before))
      (CoversWindow-whole Wrap p.x kernel.width (extent d.x) (let x = on.x in omega arith))

  pub covers_pixel : (border : Border) → HoldsNeed (Needs (convolve kernel factor border replace) (d ∷ []) 0) window box → CoversPixel kernel border box (extent d.y) (extent d.x) p
  covers_pixel (Value q) need = record { rows = near_rows (Value q) tt need; columns = near_columns (Value q) tt need }
  covers_pixel Replicate need = record { rows = near_rows Replicate tt need; columns = near_columns Replicate tt need }
  covers_pixel Reflect need = record { rows = near_rows Reflect tt need; columns = near_columns Reflect tt need }
  covers_pixel ReflectPixel need = record { rows = near_rows ReflectPixel tt need; columns = near_columns ReflectPixel tt need }
  covers_pixel Wrap need = record { rows = wrap_rows need; columns = wrap_columns need }

  -- the pixel itself is one that is needed
  pub own_pixel : (border : Border) → HoldsNeed (Needs (convolve kernel factor border replace) (d ∷ []) 0) window box → IsIn box p
  own_pixel border need = need p p inside (record {
    is_position = on;
    t = close _ _ p.t p.t (omega arith) (omega arith);
    bands = close _ _ p.band p.band (omega arith) (omega arith);
    y = close _ _ p.y p.y (omega arith) (omega arith);
    x = close _ _ p.x p.x (omega arith) (omega arith);
  })

-- ---- cells

-- the cell of a plane of the cube at a row and a column is that of the position
plane_cell : (cube : Cube Cell) (p : Position) (row column : ℕ) → meaning.cell cube (record (tuple_of cube.shape p) { y = label_of cube.shape.y row; x = label_of cube.shape.x column }) ≡ cell cube (tuple_of cube.shape (at_indices p.t p.band row column))
plane_cell cube p row column = refl

convolved_at : (kernel : KernelValues) (factor : Fraction) (border : Border) (replace : Fraction) (cube : Cube Cell) (slice : Slice) (p : Position) → IsShape cube.shape → IsCube cube → IsOn cube slice → Holds (whole_window cube.shape) slice.window → IsIn slice.window p → CoversPixel kernel border slice.window (extent cube.shape.y) (extent cube.shape.x) p → convolved kernel factor border replace (plane_at slice (extent cube.shape.y) (extent cube.shape.x) p) p.y p.x ≡ convolved kernel factor border replace (plane_of_tuple cube (tuple_of cube.shape p)) p.y p.x
convolved_at kernel factor border replace cube slice p valid whole on inside here covers =
    let w = slice.window in
    convolved-same kernel factor border replace (extent cube.shape.y) (extent cube.shape.x) _ _ p.y p.x w.y.from w.y.to w.x.from w.x.to covers.rows covers.columns
    (λ row column y x.
    let q = at_indices p.t p.band row column in
    let held : IsIn w q = record { t = here.t; bands = here.bands; y = record { begun = y.0; before = y.1 }; x = record { begun = x.0; before = x.1 } } in
    cell_of_is cube slice q on held
    ∙ sym (ap (λ o. unwrap_or o Empty) (cell_at-at Empty cube q valid (whole ∙ length-tuples cube.shape) (position_in cube.shape q (inside q held)))))

-- an index is found by its label
own_index : (d : Dimensions) (p : Position) → IsShape d → IsPosition d p → (meaning.index_in d.y (label_of d.y p.y) ≡ p.y) × (meaning.index_in d.x (label_of d.x p.x) ≡ p.x)
own_index d p valid on =
    (ap (λ o. unwrap_or o 0) (y_found d valid _ p.y on.y refl), ap (λ o. unwrap_or o 0) (x_found d valid _ p.x on.x refl))

convolution_here : (kernel : KernelValues) (factor : Fraction) (border : Border) (replace : Fraction) (cube : Cube Cell) (slice : Slice) (window : Window) → IsKernel kernel → IsShape cube.shape → IsCube cube → IsOn cube slice → Holds (whole_window cube.shape) slice.window → Holds (whole_window cube.shape) window → HoldsNeed (Needs (convolve kernel factor border replace) (cube.shape ∷ []) 0) window slice.window → map (λ p. convolved kernel factor border replace (plane_at slice (extent cube.shape.y) (extent cube.shape.x) p) p.y p.x) (positions window) ≡ cells_on Empty (convolution kernel factor border replace cube) window
convolution_here kernel factor border replace cube slice window is valid whole on inside holds need =
    let d = cube.shape in
    map-agree _ _ window (λ p h.
    let here = position_in d p (holds p h) in
    let own = own_index d p valid here in
    convolved_at kernel factor border replace cube slice p valid whole on inside (own_pixel kernel factor replace d window slice.window p is here h border need) (covers_pixel kernel factor replace d window slice.window p is here h border need)
    ∙ ap (λ y. convolved kernel factor border replace (plane_of_tuple cube (tuple_of d p)) y p.x) (sym own.0)
    ∙ ap (convolved kernel factor border replace (plane_of_tuple cube (tuple_of d p)) (meaning.index_in d.y (label_of d.y p.y))) (sym own.1))
    ∙ sym (cells_on-tabulate Empty d (λ tuple. convolved kernel factor border replace (plane_of_tuple cube tuple) (meaning.index_in d.y tuple.y) (meaning.index_in d.x tuple.x)) window holds)

pub convolution_is : (kernel : KernelValues) (factor : Fraction) (border : Border) (replace : Fraction) (cube : Cube Cell) (slice : Slice) (window : Window) (d : Dimensions) → cube.shape ≡ d → IsKernel kernel → IsShape d → IsCube cube → IsOn cube slice → Holds (whole_window d) slice.window → Holds (whole_window d) window → HoldsNeed (Needs (convolve kernel factor border replace) (d ∷ []) 0) window slice.window → map (λ p. convolved kernel factor border replace (plane_at slice (extent d.y) (extent d.x) p) p.y p.x) (positions window) ≡ cells_on Empty (convolution kernel factor border replace cube) window
convolution_is kernel factor border replace cube slice window d same is valid whole on =
    subst (λ d. Holds (whole_window d) slice.window → Holds (whole_window d) window → HoldsNeed (Needs (convolve kernel factor border replace) (d ∷ []) 0) window slice.window → map (λ p. convolved kernel factor border replace (plane_at slice (extent d.y) (extent d.x) p) p.y p.x) (positions window) ≡ cells_on Empty (convolution kernel factor border replace cube) window) same
    (convolution_here kernel factor border replace cube slice window is (subst IsShape (sym same) valid) whole on)

-- ---- a plane

-- what a kernel reads for a plane of a window, and that it lies within the sides
pub record ReadsPlane (kernel : KernelValues) (border : Border) (box : Window) (side_y side_x : ℕ) (w : Window) : Type 0 where
  pub inside : IsIn box (at_indices w.t.from w.bands.from w.y.from w.x.from)
  pub sides : HasSides box side_y side_x
  pub y_order : w.y.from < w.y.to
  pub x_order : w.x.from < w.x.to
  pub y_in : w.y.to ≤ side_y
  pub x_in : w.x.to ≤ side_x
  pub rows : (row : ℕ) → row < span_length w.y → CoversWindow border (w.y.from + row) kernel.height side_y box.y.from box.y.to
  pub columns : (k : ℕ) → k < span_length w.x → CoversWindow border (w.x.from + k) kernel.width side_x box.x.from box.x.to

-- a row and a column of a plane
pixel_in : (w : Window) (row k : ℕ) → w ≡ plane_window w w.t.from w.bands.from → row < span_length w.y → k < span_length w.x → IsIn w (at_indices w.t.from w.bands.from (w.y.from + row) (w.x.from + k))
pixel_in w row k one y x =
    let t : w.t.to ≡ w.t.from + 1 = ap (λ (v : Window). v.t.to) one in
    let bands : w.bands.to ≡ w.bands.from + 1 = ap (λ (v : Window). v.bands.to) one in
    record {
      t = record { begun = omega arith; before = omega arith };
      bands = record { begun = omega arith; before = omega arith };
      y = record { begun = omega arith; before = omega arith };
      x = record { begun = omega arith; before = omega arith };
    }

first_pixel : (w : Window) → w ≡ plane_window w w.t.from w.bands.from → 0 < position_count w → IsIn w (at_indices w.t.from w.bands.from w.y.from w.x.from)
first_pixel w one some =
    let each = are_some w some in
    let y : w.y.from + 0 ≡ w.y.from = omega arith in
    let x : w.x.from + 0 ≡ w.x.from = omega arith in
    subst (λ j. IsIn w (at_indices w.t.from w.bands.from w.y.from j)) x (subst (λ i. IsIn w (at_indices w.t.from w.bands.from i (w.x.from + 0))) y (pixel_in w 0 0 one each.y each.x))

-- the first pixel of the box's own plane is one of the box
pub corner_in : (box : Window) (p : Position) → IsIn box p → IsIn box (at_indices p.t p.band box.y.from box.x.from)
corner_in box p h =
    let in_y = h.y in
    let in_x = h.x in
    record {
      t = h.t;
      bands = h.bands;
      y = record { begun = omega arith; before = omega arith };
      x = record { begun = omega arith; before = omega arith };
    }

-- how many pixels there are
pub block_count : (w : Window) → w ≡ plane_window w w.t.from w.bands.from → span_length w.y * span_length w.x ≡ position_count w
block_count w one =
    let t : span_length w.t ≡ 1 = (let end : w.t.to ≡ w.t.from + 1 = ap (λ (v : Window). v.t.to) one in omega arith) in
    let bands : span_length w.bands ≡ 1 = (let end : w.bands.to ≡ w.bands.from + 1 = ap (λ (v : Window). v.bands.to) one in omega arith) in
    rw (t, bands) (omega arith)

pub reads_plane : (kernel : KernelValues) (factor : Fraction) (border : Border) (replace : Fraction) (d : Dimensions) (box w : Window) → IsKernel kernel → IsShape d → Holds (whole_window d) w → Holds (whole_window d) box → HoldsNeed (Needs (convolve kernel factor border replace) (d ∷ []) 0) w box → w ≡ plane_window w w.t.from w.bands.from → 0 < position_count w → ReadsPlane kernel border box (extent d.y) (extent d.x) w
reads_plane kernel factor border replace d box w is valid holds inside need one some =
    let each = are_some w some in
    let ny = each.y in
    let nx = each.x in
    let first = first_pixel w one some in
    let own = own_pixel kernel factor replace d w box _ is (position_in d _ (holds _ first)) first border need in
    let within = within_from_holds w (whole_window d) (filled_by w _ first) holds in
    let covers : (row k : ℕ) → row < span_length w.y → k < span_length w.x → CoversPixel kernel border box (extent d.y) (extent d.x) (at_indices w.t.from w.bands.from (w.y.from + row) (w.x.from + k)) = λ row k y x.
    let here = pixel_in w row k one y x in
    covers_pixel kernel factor replace d w box _ is (position_in d _ (holds _ here)) here border need in
    record {
      inside = own;
      sides = has_sides d box _ valid inside own;
      y_order = omega arith;
      x_order = omega arith;
      y_in = within.y.to;
      x_in = within.x.to;
      rows = λ row lt. (covers row 0 lt nx).rows;
      columns = λ k lt. (covers 0 k ny lt).columns;
    }

-- where a position of a plane stands in it
record IsOnPlane (w : Window) (p : Position) : Type 0 where
  pub t : w.t.from ≡ p.t
  pub band : w.bands.from ≡ p.band
  pub y : w.y.from + (p.y - w.y.from) ≡ p.y
  pub x : w.x.from + (p.x - w.x.from) ≡ p.x
  pub row : p.y - w.y.from < span_length w.y
  pub column : p.x - w.x.from < span_length w.x
  pub number : number_in w p ≡ (p.y - w.y.from) * span_length w.x + (p.x - w.x.from)

number_of_pixel : (w : Window) (p : Position) → w.t.from ≡ p.t → w.bands.from ≡ p.band → number_in w p ≡ (p.y - w.y.from) * span_length w.x + (p.x - w.x.from)
number_of_pixel w p t band =
    let no_t : p.t - w.t.from ≡ 0 = omega arith in
    let no_band : p.band - w.bands.from ≡ 0 = omega arith in
    rw (no_t, no_band) (omega arith)

on_plane : (w : Window) (p : Position) → w ≡ plane_window w w.t.from w.bands.from → IsIn w p → IsOnPlane w p
on_plane w p one h =
    let end_t : w.t.to ≡ w.t.from + 1 = ap (λ (v : Window). v.t.to) one in
    let end_band : w.bands.to ≡ w.bands.from + 1 = ap (λ (v : Window). v.bands.to) one in
    let in_t = h.t in
    let in_bands = h.bands in
    let in_y = h.y in
    let in_x = h.x in
    let t : w.t.from ≡ p.t = omega arith in
    let band : w.bands.from ≡ p.band = omega arith in
    record {
      t = t;
      band = band;
      y = omega arith;
      x = omega arith;
      row = omega arith;
      column = omega arith;
      number = number_of_pixel w p t band;
    }

-- the cells of its rows, one behind the other, are those at its positions
module _ (kernel : KernelValues) (factor : Fraction) (border : Border) (replace : Fraction) (slice : Slice) (side_y side_x : ℕ) where
  same_pixel : (t band y x : ℕ) (p : Position) → t ≡ p.t → band ≡ p.band → y ≡ p.y → x ≡ p.x → convolved kernel factor border replace (plane_at slice side_y side_x (at_indices t band 0 0)) y x ≡ convolved kernel factor border replace (plane_at slice side_y side_x p) p.y p.x
  same_pixel t band y x p et eb ey ex = rw (et, eb, ey, ex) refl

  pub block_is : (w : Window) (cells : List Cell) → w ≡ plane_window w w.t.from w.bands.from → length cells ≡ position_count w → ((row k : ℕ) → row < span_length w.y → k < span_length w.x → get_or cells (row * span_length w.x + k) Empty ≡ convolved kernel factor border replace (plane_at slice side_y side_x (at_indices w.t.from w.bands.from 0 0)) (w.y.from + row) (w.x.from + k)) → cells ≡ map (λ p. convolved kernel factor border replace (plane_at slice side_y side_x p) p.y p.x) (positions w)
  block_is w cells one long each =
      map-from_each _ w cells (long ∙ sym (length-positions w)) (λ n p e.
      let here = position_number w n p e in
      let steps = on_plane w p one here.0 in
      ap (λ i. get_or cells i Empty) (here.1 ∙ steps.number)
      ∙ each (p.y - w.y.from) (p.x - w.x.from) steps.row steps.column
      ∙ same_pixel w.t.from w.bands.from _ _ p steps.t steps.band steps.y steps.x)

-- ---- kinds

amount_fits : (c : Cell) → IsAmount c → IsOfKind Numbers c
amount_fits (Number q) h = tt
amount_fits Over h = tt
amount_fits Empty h = tt
amount_fits (Flag b) h = h

pub convolved_fits : (kernel : KernelValues) (factor : Fraction) (border : Border) (replace : Fraction) (plane : WholePlane) (y x : ℕ) → IsOfKind Numbers (convolved kernel factor border replace plane y x)
convolved_fits kernel factor border replace plane y x = amount_fits _ (IsAmount-convolved kernel factor border replace plane y x)
