-- A cube under a mask, at the positions of a window.
use Rattle.std.proofs.Common.{◌≡◌, ℕ, List, map, refl, sym, ap, ◌∙◌, subst, Option, Some, None}
use Rattle.std.specs.Option.{unwrap_or}
use Rattle.oe_cell.specs.declared.cell.Cell.{Cell}
use Rattle.oe_cell.specs.declared.cell.Cell.TheVariants.{Empty}
use Rattle.oe_dims.specs.Cube.{Cube, IsCube}
use Rattle.oe_dims.specs.Dimensions.{Dimensions, IsShape}
use Rattle.oe_dims.specs.Positions.{Position, IsPosition, label_of, tuple_of}
use Rattle.oe_dims.proofs.CubeLemmas.{length-tuples}
use Rattle.oe_window.specs.Cells.{cells_on}
use Rattle.oe_window.specs.Windows.{Holds, IsIn, positions, whole_window}
use Rattle.oe_window.specs.declared.window.Window.{Window}
use Rattle.oe_window.proofs.CellLemmas.{cell_at-at, cells_on-tabulate}
use Rattle.oe_window.proofs.WholeLemmas.{position_in}
use Rattle.oe_requests.specs.Labels.{only_along, restrict}
use Rattle.oe_meanings.specs.Meaning.{cell, covered, covered_by}
use Rattle.oe_ops.specs.Indices.{found_in}
use Rattle.oe_ops.specs.Needs.{HasLabelsOf, HoldsNeed}
use Rattle.oe_ops.specs.Slices.{IsOn, cell_of}
use Rattle.oe_ops.specs.declared.slice.Slice.{Slice}
use Rattle.oe_ops.proofs.FoundLemmas.{cell_of_is, found_is}
use Rattle.oe_ops.proofs.KeepLemmas.{are_held}
use Rattle.oe_ops.proofs.ListLemmas.{map-agree}

only_own : {L : Type 0} (labels : Option (List L)) (i : ℕ) → only_along labels (label_of labels i) ≡ label_of labels i
only_own None i = refl
only_own (Some labels) i = refl

-- a position has its own labels
pub has_own_labels : (d : Dimensions) (p : Position) → IsPosition d p → HasLabelsOf d d p p
has_own_labels d p h =
    let t = only_own d.t p.t in
    let band = only_own d.bands p.band in
    let y = only_own d.y p.y in
    let x = only_own d.x p.x in
    record { is_position = h; labels = rw (t, band, y, x) refl }

-- a slice with the labels of a window has the window
pub own_inside : (d : Dimensions) (slice : Slice) (window : Window) → Holds (whole_window d) window → HoldsNeed (HasLabelsOf d d) window slice.window → (p : Position) → IsIn window p → IsIn slice.window p
own_inside d slice window holds need p h = need p p h (has_own_labels d p (position_in d p (holds p h)))

-- what it lists there is the cell of the tuple
pub own_cell : (cube : Cube Cell) (slice : Slice) (window : Window) → IsShape cube.shape → IsCube cube → IsOn cube slice → Holds (whole_window cube.shape) window → HoldsNeed (HasLabelsOf cube.shape cube.shape) window slice.window → (p : Position) → IsIn window p → cell_of slice p ≡ cell cube (tuple_of cube.shape p)
own_cell cube slice window valid whole on holds need p h =
    cell_of_is cube slice p on (own_inside cube.shape slice window holds need p h)
    ∙ sym (ap (λ o. unwrap_or o Empty) (cell_at-at Empty cube p valid (whole ∙ length-tuples cube.shape) (position_in cube.shape p (holds p h))))

covered_here : (replacement : Cell) (cube mask : Cube Cell) (slice mask_slice : Slice) (window : Window) → IsShape cube.shape → IsCube cube → IsOn cube slice → IsShape mask.shape → IsCube mask → IsOn mask mask_slice → Holds (whole_window cube.shape) window → HoldsNeed (HasLabelsOf cube.shape cube.shape) window slice.window → HoldsNeed (HasLabelsOf cube.shape mask.shape) window mask_slice.window → map (λ p. covered_by replacement (unwrap_or (found_in cube.shape mask.shape mask_slice p) Empty) (cell_of slice p)) (positions window) ≡ cells_on Empty (covered replacement cube mask) window
covered_here replacement cube mask slice mask_slice window valid whole on mask_valid mask_whole mask_on holds need mask_need =
    let d = cube.shape in
    map-agree _ _ window (λ p h.
    ap (λ o. covered_by replacement (unwrap_or o Empty) (cell_of slice p)) (found_is mask d mask_slice p mask_valid mask_whole mask_on (are_held d mask.shape mask_slice window mask_need p h))
    ∙ ap (covered_by replacement (cell mask (restrict mask.shape (tuple_of d p)))) (own_cell cube slice window valid whole on holds need p h))
    ∙ sym (cells_on-tabulate Empty d (λ tuple. covered_by replacement (cell mask (restrict mask.shape tuple)) (cell cube tuple)) window holds)

pub covered_is : (replacement : Cell) (cube mask : Cube Cell) (slice mask_slice : Slice) (window : Window) (shape mask_shape : Dimensions) → cube.shape ≡ shape → mask.shape ≡ mask_shape → IsShape shape → IsCube cube → IsOn cube slice → IsShape mask_shape → IsCube mask → IsOn mask mask_slice → Holds (whole_window shape) window → HoldsNeed (HasLabelsOf shape shape) window slice.window → HoldsNeed (HasLabelsOf shape mask_shape) window mask_slice.window → map (λ p. covered_by replacement (unwrap_or (found_in shape mask_shape mask_slice p) Empty) (cell_of slice p)) (positions window) ≡ cells_on Empty (covered replacement cube mask) window
covered_is replacement cube mask slice mask_slice window shape mask_shape same mask_same valid whole on mask_valid mask_whole mask_on =
    subst (λ m. Holds (whole_window shape) window → HoldsNeed (HasLabelsOf shape shape) window slice.window → HoldsNeed (HasLabelsOf shape m) window mask_slice.window → map (λ p. covered_by replacement (unwrap_or (found_in shape m mask_slice p) Empty) (cell_of slice p)) (positions window) ≡ cells_on Empty (covered replacement cube mask) window) mask_same
    (subst (λ s. Holds (whole_window s) window → HoldsNeed (HasLabelsOf s s) window slice.window → HoldsNeed (HasLabelsOf s mask.shape) window mask_slice.window → map (λ p. covered_by replacement (unwrap_or (found_in s mask.shape mask_slice p) Empty) (cell_of slice p)) (positions window) ≡ cells_on Empty (covered replacement cube mask) window) same
    (covered_here replacement cube mask slice mask_slice window (subst IsShape (sym same) valid) whole on (subst IsShape (sym mask_same) mask_valid) mask_whole mask_on))
