-- What is kept of a cube, at the positions of a window.
use Rattle.std.proofs.Common.{◌≡◌, ℕ, ℤ, Bool, List, map, refl, sym, ap, ◌∙◌, subst, Option, Some, None}
use Rattle.std.specs.Option.{unwrap_or}
use Rattle.oe_cell.specs.declared.cell.Cell.{Cell}
use Rattle.oe_cell.specs.declared.cell.Cell.TheVariants.{Empty}
use Rattle.oe_dims.specs.Cube.{Cube, IsCube}
use Rattle.oe_dims.specs.Dimensions.{Dimensions, IsShape}
use Rattle.oe_dims.specs.Positions.{Position, label_of, tuple_of}
use Rattle.oe_window.specs.Cells.{cells_on}
use Rattle.oe_window.specs.Windows.{Holds, IsIn, positions, whole_window}
use Rattle.oe_window.specs.declared.window.Window.{Window}
use Rattle.oe_window.proofs.CellLemmas.{cells_on-tabulate}
use Rattle.oe_requests.specs.Extents.{Restriction, kept_labels, kept_bands, shape_of_restriction, is_in_time, is_up, is_across}
use Rattle.oe_requests.specs.Labels.{only_along, restrict}
use Rattle.oe_meanings.specs.Meaning.{cell, restricted_cube}
use Rattle.oe_ops.specs.Indices.{found_in, IsHeld}
use Rattle.oe_ops.specs.Needs.{HasLabelsOf, HoldsNeed}
use Rattle.oe_ops.specs.Slices.{IsOn}
use Rattle.oe_ops.specs.declared.slice.Slice.{Slice}
use Rattle.oe_ops.proofs.FoundLemmas.{found_is, has_labels}
use Rattle.oe_ops.proofs.ListLemmas.{map-agree}

only_kept : {E : Type 0} (is_inside : E → ℤ → Bool) (e : Option E) (labels : Option (List ℤ)) (i : ℕ) → only_along labels (label_of (kept_labels is_inside e labels) i) ≡ label_of (kept_labels is_inside e labels) i
only_kept is_inside None None i = refl
only_kept is_inside None (Some labels) i = refl
only_kept is_inside (Some e) None i = refl
only_kept is_inside (Some e) (Some labels) i = refl

only_kept_bands : (given : Option (List (List ℕ))) (labels : Option (List (List ℕ))) (i : ℕ) → only_along labels (label_of (kept_bands given labels) i) ≡ label_of (kept_bands given labels) i
only_kept_bands given None i = refl
only_kept_bands given (Some labels) i = refl

-- what is kept lacks the dimensions that the cube lacks
pub restrict_kept : (r : Restriction) (d : Dimensions) (p : Position) → restrict d (tuple_of (shape_of_restriction r d) p) ≡ tuple_of (shape_of_restriction r d) p
restrict_kept r d p =
    let t = only_kept is_in_time r.time d.t p.t in
    let band = only_kept_bands r.bands d.bands p.band in
    let y = only_kept is_up r.box d.y p.y in
    let x = only_kept is_across r.box d.x p.x in
    rw (t, band, y, x) refl

-- a window of a result whose slice holds what is needed has each position that is found
pub are_held : (shape argument : Dimensions) (slice : Slice) (window : Window) → HoldsNeed (HasLabelsOf shape argument) window slice.window → (p : Position) → IsIn window p → IsHeld shape argument slice p
are_held shape argument slice window need p h = λ q e. need p q h (has_labels shape argument p q e)

kept_here : (cube : Cube Cell) (r : Restriction) (slice : Slice) (window : Window) → IsShape cube.shape → IsCube cube → IsOn cube slice → Holds (whole_window (shape_of_restriction r cube.shape)) window → HoldsNeed (HasLabelsOf (shape_of_restriction r cube.shape) cube.shape) window slice.window → map (λ p. unwrap_or (found_in (shape_of_restriction r cube.shape) cube.shape slice p) Empty) (positions window) ≡ cells_on Empty (restricted_cube r cube) window
kept_here cube r slice window valid whole on holds need =
    let d = shape_of_restriction r cube.shape in
    map-agree _ _ window (λ p h.
    ap (λ o. unwrap_or o Empty) (found_is cube d slice p valid whole on (are_held d cube.shape slice window need p h))
    ∙ ap (cell cube) (restrict_kept r cube.shape p))
    ∙ sym (cells_on-tabulate Empty d (cell cube) window holds)

pub kept_is : (cube : Cube Cell) (r : Restriction) (slice : Slice) (window : Window) (shape argument : Dimensions) → cube.shape ≡ argument → shape_of_restriction r argument ≡ shape → IsShape argument → IsCube cube → IsOn cube slice → Holds (whole_window shape) window → HoldsNeed (HasLabelsOf shape argument) window slice.window → map (λ p. unwrap_or (found_in shape argument slice p) Empty) (positions window) ≡ cells_on Empty (restricted_cube r cube) window
kept_is cube r slice window shape argument same is valid whole on =
    subst (λ s. Holds (whole_window s) window → HoldsNeed (HasLabelsOf s argument) window slice.window → map (λ p. unwrap_or (found_in s argument slice p) Empty) (positions window) ≡ cells_on Empty (restricted_cube r cube) window) is
    (subst (λ a. Holds (whole_window (shape_of_restriction r a)) window → HoldsNeed (HasLabelsOf (shape_of_restriction r a) a) window slice.window → map (λ p. unwrap_or (found_in (shape_of_restriction r a) a slice p) Empty) (positions window) ≡ cells_on Empty (restricted_cube r cube) window) same
    (kept_here cube r slice window (subst IsShape (sym same) valid) whole on))
