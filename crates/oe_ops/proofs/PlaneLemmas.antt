-- The plane of a slice, as a kernel reads it.
use Rattle.std.proofs.Common.{◌≡◌, ℕ, suc, ◌+◌, ◌-◌, ◌*◌, ◌<◌, ◌≤◌, ap, ◌∙◌, arith}
use Rattle.std.proofs.Math.Nat.{add-mul}
use Rattle.std.proofs.lemmas.Nat.{mul-le}
use Rattle.oe_dims.specs.Dimensions.{Dimensions, IsShape, extent}
use Rattle.oe_dims.specs.Positions.{Position}
use Rattle.oe_dims.proofs.FlatMapLemmas.{below_product}
use Rattle.oe_dims.proofs.ShapeLemmas.{extents_of_shape}
use Rattle.oe_kernel.specs.Convolution.{CoversWindow, IsPartOf, IsPlane, WholePlane, longest_side}
use Rattle.oe_kernel.specs.Kernels.{KernelValues}
use Rattle.oe_kernel.specs.declared.border.Border.{Border}
use Rattle.oe_kernel.specs.declared.plane.Plane.{Plane}
use Rattle.oe_window.specs.Windows.{Holds, IsIn, number_in, position_count, span_length, whole_window}
use Rattle.oe_window.specs.declared.window.Window.{Window}
use Rattle.oe_window.proofs.WholeLemmas.{position_in}
use Rattle.oe_window.proofs.WindowLemmas.{filled_by, within_from_holds}
use Rattle.oe_ops.specs.Planes.{IsPlaneOf}
use Rattle.oe_ops.specs.Slices.{at_indices, cell_of}
use Rattle.oe_ops.specs.declared.slice.Slice.{Slice}

-- the whole plane of these sides in which a position stands, as far as the slice has it
abbrev pub plane_at : Slice → ℕ → ℕ → Position → WholePlane
plane_at slice side_y side_x p = record {
  side_y = side_y;
  side_x = side_x;
  cell = λ row column. cell_of slice (at_indices p.t p.band row column);
}

-- the sides of a plane are such, and the window lies within them
pub record HasSides (window : Window) (side_y side_x : ℕ) : Type 0 where
  pub y_some : 0 < side_y
  pub y_most : side_y ≤ longest_side
  pub x_some : 0 < side_x
  pub x_most : side_x ≤ longest_side
  pub y_within : window.y.to ≤ side_y
  pub x_within : window.x.to ≤ side_x

-- the window has each pixel that a kernel reads for a position
pub record CoversPixel (kernel : KernelValues) (border : Border) (window : Window) (side_y side_x : ℕ) (p : Position) : Type 0 where
  pub rows : CoversWindow border p.y kernel.height side_y window.y.from window.y.to
  pub columns : CoversWindow border p.x kernel.width side_x window.x.from window.x.to

-- ---- numbers

nothing_left : (a : ℕ) → a - a ≡ 0
nothing_left a = omega arith

-- the number of the plane, times its size, is the first number
first_of : (w : Window) (t band : ℕ) → number_in w (at_indices t band w.y.from w.x.from) ≡ ((t - w.t.from) * span_length w.bands + (band - w.bands.from)) * span_length w.y * span_length w.x
first_of w t band = rw (nothing_left w.y.from, nothing_left w.x.from) (omega arith)

pub plane_end : (w : Window) (t band y x : ℕ) → IsIn w (at_indices t band y x) → number_in w (at_indices t band w.y.from w.x.from) + span_length w.y * span_length w.x ≤ position_count w
plane_end w t band y x h =
    let nb = span_length w.bands in
    let ny = span_length w.y in
    let nx = span_length w.x in
    let in_t = h.t in
    let in_bands = h.bands in
    let plane = (t - w.t.from) * nb + (band - w.bands.from) in
    let below : plane < span_length w.t * nb = below_product (t - w.t.from) (span_length w.t) (band - w.bands.from) nb (omega arith) (omega arith) in
    let lines : suc plane * ny ≤ span_length w.t * nb * ny = mul-le (suc plane) ny (span_length w.t * nb) ny (omega arith) (omega arith) in
    let all : suc plane * ny * nx ≤ span_length w.t * nb * ny * nx = mul-le (suc plane * ny) nx (span_length w.t * nb * ny) nx lines (omega arith) in
    let next : suc plane * ny ≡ plane * ny + ny = omega arith in
    let split : suc plane * ny * nx ≡ plane * ny * nx + ny * nx = ap (λ n. n * nx) next ∙ add-mul (plane * ny) ny nx in
    let first = first_of w t band in
    omega (arith, all, split, first)

pub plane_number : (w : Window) (t band row column : ℕ) → number_in w (at_indices t band w.y.from w.x.from) + ((row - w.y.from) * span_length w.x + (column - w.x.from)) ≡ number_in w (at_indices t band row column)
plane_number w t band row column =
    let plane = (t - w.t.from) * span_length w.bands + (band - w.bands.from) in
    let first = first_of w t band in
    let split = add-mul (plane * span_length w.y) (row - w.y.from) (span_length w.x) in
    omega (arith, first, split)

pub in_plane : (w : Window) (row column : ℕ) → w.y.from ≤ row → row < w.y.to → w.x.from ≤ column → column < w.x.to → (row - w.y.from) * span_length w.x + (column - w.x.from) < span_length w.y * span_length w.x
in_plane w row column y0 y1 x0 x1 = below_product (row - w.y.from) (span_length w.y) (column - w.x.from) (span_length w.x) (omega arith) (omega arith)

-- ---- what the kernel asks for

pub has_sides : (d : Dimensions) (w : Window) (p : Position) → IsShape d → Holds (whole_window d) w → IsIn w p → HasSides w (extent d.y) (extent d.x)
has_sides d w p valid holds h =
    let here = position_in d p (holds p h) in
    let within = within_from_holds w (whole_window d) (filled_by w p h) holds in
    let most = extents_of_shape d valid in
    record {
      y_some = let y = here.y in omega arith;
      y_most = most.y;
      x_some = let x = here.x in omega arith;
      x_most = most.x;
      y_within = within.y.to;
      x_within = within.x.to;
    }

pub is_plane : (slice : Slice) (side_y side_x t band : ℕ) (plane : Plane) (p : Position) → IsPlaneOf slice side_y side_x t band plane → HasSides slice.window side_y side_x → IsIn slice.window p → IsPlane plane
is_plane slice side_y side_x t band plane p h sides inside =
    let y = inside.y in
    let x = inside.x in
    let from_y = h.from_y in
    let to_y = h.to_y in
    let from_x = h.from_x in
    let to_x = h.to_x in
    let is_y = h.side_y_is in
    let is_x = h.side_x_is in
    let y_some = sides.y_some in
    let y_most = sides.y_most in
    let x_some = sides.x_some in
    let x_most = sides.x_most in
    let y_within = sides.y_within in
    let x_within = sides.x_within in
    record {
      side_y_some = omega arith;
      side_y_most = omega arith;
      side_x_some = omega arith;
      side_x_most = omega arith;
      y_order = omega arith;
      y_within = omega arith;
      x_order = omega arith;
      x_within = omega arith;
      counted = rw (from_y, to_y, from_x, to_x) h.counted;
    }

pub is_part : (slice : Slice) (side_y side_x : ℕ) (plane : Plane) (p : Position) → IsPlaneOf slice side_y side_x p.t p.band plane → IsPartOf plane (plane_at slice side_y side_x p)
is_part slice side_y side_x plane p h = record { side_y_same = h.side_y_is; side_x_same = h.side_x_is; same = h.same }
