-- What stands in an argument at the labels of a result.
use Rattle.std.proofs.Common.{◌≡◌, ℕ, ◌+◌, ◌-◌, ◌*◌, ◌<◌, ◌≤◌, Bool, true, List, refl, sym, ap, ◌∙◌, subst, arith, Option, Some, None}
use Rattle.std.specs.List.{slice_get, slice_index_or}
use Rattle.std.specs.Option.{option_map, option_and_then}
use Rattle.std.proofs.lemmas.Option.{same_Some}
use Rattle.oe_cell.specs.declared.cell.Cell.{Cell}
use Rattle.oe_cell.specs.declared.cell.Cell.TheVariants.{Empty}
use Rattle.oe_dims.specs.Cube.{Cube, at, index_along, IsCube}
use Rattle.oe_dims.specs.Dimensions.{Dimensions, IsShape, extent}
use Rattle.oe_dims.specs.Indices.{same_number}
use Rattle.oe_dims.specs.Names.{same_name}
use Rattle.oe_dims.specs.Positions.{IsPosition, Position, label_of, tuple_of}
use Rattle.oe_dims.specs.declared.kind.Kind.TheVariants.{Time, Bands, Y, X}
use Rattle.oe_dims.proofs.CubeLemmas.{length-tuples}
use Rattle.oe_dims.proofs.FlatMapLemmas.{value_inside}
use Rattle.oe_dims.proofs.IndexLemmas.{index_where_passes, same_number_is}
use Rattle.oe_dims.proofs.OrderLemmas.{same_name_is}
use Rattle.oe_window.specs.Cells.{cell_at}
use Rattle.oe_window.specs.Windows.{IsIn, number_in, position_count}
use Rattle.oe_window.specs.declared.window.Window.{Window}
use Rattle.oe_window.proofs.CellLemmas.{cell_at-at, cells_on-get}
use Rattle.oe_requests.specs.Labels.{only_along, restrict}
use Rattle.oe_ops.specs.Indices.{index_in_argument, row_in, position_on, position_in, found_in, IsHeld}
use Rattle.oe_ops.specs.Needs.{HasLabelsOf, plane_window}
use Rattle.oe_ops.specs.Slices.{at_indices, cell_of, IsOn}
use Rattle.oe_ops.specs.declared.slice.Slice.{Slice}
use Rattle.oe_ops.specs.declared.source.RowIndices.{RowIndices}
use Rattle.oe_ops.proofs.NumberLemmas.{are_some}

-- ---- one dimension

pub found_label : {L : Type 0} (same : L → L → Bool) (is : (a b : L) → same a b ≡ true → b ≡ a) (others : Option (List L)) (o : Option L) (j : ℕ) → index_along same others (only_along others o) ≡ Some j → (label_of others j ≡ only_along others o) × (j < extent others)
found_label same is None o j h = (refl, omega (arith, same_Some 0 j h))
found_label same is (Some os) None j h = cc
found_label same is (Some os) (Some l) j h =
    let p = index_where_passes (same l) os j h in
    (p.1 ∙ ap Some (is l p.0 p.2), p.3)

-- ---- positions

then_inside : {A B : Type 0} (f : A → Option B) (o : Option A) (b : B) → option_and_then f o ≡ Some b → (a : A) × (o ≡ Some a) × (f a ≡ Some b)
then_inside f None b h = cc
then_inside f (Some a) b h = (a, refl, h)

-- the position that is found has the labels
pub has_labels : (shape argument : Dimensions) (p q : Position) → position_in shape argument p ≡ Some q → HasLabelsOf shape argument p q
has_labels shape argument p q h =
    let outer = then_inside (λ row. option_map (position_on row) (index_in_argument X shape argument p.x)) (row_in shape argument p) q h in
    let row = outer.0 in
    let along_x = value_inside (position_on row) (index_in_argument X shape argument p.x) q outer.2 in
    let x = along_x.0 in
    let first = then_inside (λ t. option_and_then (λ band. option_map (λ y. record { t = t; band = band; y = y }) (index_in_argument Y shape argument p.y)) (index_in_argument Bands shape argument p.band)) (index_in_argument Time shape argument p.t) row outer.1 in
    let t = first.0 in
    let second = then_inside (λ band. option_map (λ y. record { t = t; band = band; y = y }) (index_in_argument Y shape argument p.y)) (index_in_argument Bands shape argument p.band) row first.2 in
    let band = second.0 in
    let third = value_inside (λ (y : ℕ). record { t = t; band = band; y = y }) (index_in_argument Y shape argument p.y) row second.2 in
    let y = third.0 in
    let at_t = found_label same_number same_number_is argument.t (label_of shape.t p.t) t first.1 in
    let at_band = found_label same_name same_name_is argument.bands (label_of shape.bands p.band) band second.1 in
    let at_y = found_label same_number same_number_is argument.y (label_of shape.y p.y) y third.1 in
    let at_x = found_label same_number same_number_is argument.x (label_of shape.x p.x) x along_x.1 in
    let is : at_indices t band y x ≡ q = ap (λ (r : RowIndices). position_on r x) third.2 ∙ along_x.2 in
    subst (HasLabelsOf shape argument p) is (record {
      is_position = record { t = at_t.1; band = at_band.1; y = at_y.1; x = at_x.1 };
      labels = rw (at_t.0, at_band.0, at_y.0, at_x.0) refl;
    })

-- a position is found on the row that is found
pub on_row : (shape argument : Dimensions) (p : Position) (row : RowIndices) (i : ℕ) → row_in shape argument p ≡ Some row → index_in_argument X shape argument p.x ≡ Some i → position_in shape argument p ≡ Some (position_on row i)
on_row shape argument p row i h g =
    ap (option_and_then (λ found. option_map (position_on found) (index_in_argument X shape argument p.x))) h ∙ ap (option_map (position_on row)) g

-- ---- cells

-- four indices as a position, and as a number
abbrev four : Option ℕ → Option ℕ → Option ℕ → Option ℕ → Option Position
four t b y x =
    option_and_then (λ row. option_map (position_on row) x)
    (option_and_then (λ t. option_and_then (λ band. option_map (λ y. record { t = t; band = band; y = y }) y) b) t)

none_of_four : (f : ℕ → ℕ → ℕ → ℕ → ℕ) (t b y x : Option ℕ) → four t b y x ≡ None → option_and_then (λ t. option_and_then (λ b. option_and_then (λ y. option_map (λ x. f t b y x) x) y) b) t ≡ None
none_of_four f None b y x h = refl
none_of_four f (Some t) None y x h = refl
none_of_four f (Some t) (Some b) None x h = refl
none_of_four f (Some t) (Some b) (Some y) None h = refl
none_of_four f (Some t) (Some b) (Some y) (Some x) h = let some : Some (at_indices t b y x) ≡ None = h in cc

at_found : (cube : Cube Cell) (shape : Dimensions) (p : Position) (o : Option Position) → position_in shape cube.shape p ≡ o → IsShape cube.shape → IsCube cube → at cube (restrict cube.shape (tuple_of shape p)) ≡ option_map (cell_at Empty cube) o
at_found cube shape p None h valid whole =
    let d = cube.shape in
    ap (option_and_then (slice_get cube.cells)) (none_of_four (λ t b y x. ((t * extent d.bands + b) * extent d.y + y) * extent d.x + x)
    (index_in_argument Time shape d p.t) (index_in_argument Bands shape d p.band) (index_in_argument Y shape d p.y) (index_in_argument X shape d p.x) h)
at_found cube shape p (Some q) h valid whole =
    let labels = has_labels shape cube.shape p q h in
    ap (at cube) (sym labels.labels)
    ∙ cell_at-at Empty cube q valid (whole ∙ length-tuples cube.shape) labels.is_position

-- the cell of the labels at a position of the result
pub at_is : (cube : Cube Cell) (shape : Dimensions) (p : Position) → IsShape cube.shape → IsCube cube → at cube (restrict cube.shape (tuple_of shape p)) ≡ option_map (cell_at Empty cube) (position_in shape cube.shape p)
at_is cube shape p valid whole = at_found cube shape p (position_in shape cube.shape p) refl valid whole

-- what a slice lists for a position of its window is the cell of the cube
pub cell_of_is : (cube : Cube Cell) (slice : Slice) (q : Position) → IsOn cube slice → IsIn slice.window q → cell_of slice q ≡ cell_at Empty cube q
cell_of_is cube slice q on inside =
    ap (λ cells. slice_index_or cells (number_in slice.window q) Empty) on ∙ cells_on-get Empty cube slice.window q Empty inside

listed : (cube : Cube Cell) (slice : Slice) (o : Option Position) → IsOn cube slice → ((q : Position) → o ≡ Some q → IsIn slice.window q) → option_map (cell_of slice) o ≡ option_map (cell_at Empty cube) o
listed cube slice None on held = refl
listed cube slice (Some q) on held = ap Some (cell_of_is cube slice q on (held q refl))

-- the cell that a slice lists at the labels of a position of the result is that of the cube
pub found_is : (cube : Cube Cell) (shape : Dimensions) (slice : Slice) (p : Position) → IsShape cube.shape → IsCube cube → IsOn cube slice → IsHeld shape cube.shape slice p → found_in shape cube.shape slice p ≡ at cube (restrict cube.shape (tuple_of shape p))
found_is cube shape slice p valid whole on held =
    listed cube slice (position_in shape cube.shape p) on held ∙ sym (at_is cube shape p valid whole)

-- ---- rows that are found or are not

pub not_on_row : (shape argument : Dimensions) (slice : Slice) (p : Position) → row_in shape argument p ≡ None → found_in shape argument slice p ≡ None
not_on_row shape argument slice p h =
    ap (λ (o : Option RowIndices). option_map (cell_of slice) (option_and_then (λ row. option_map (position_on row) (index_in_argument X shape argument p.x)) o)) h

fused : (slice : Slice) (row : RowIndices) (o : Option ℕ) → option_map (cell_of slice) (option_map (position_on row) o) ≡ option_map (λ i. cell_of slice (position_on row i)) o
fused slice row None = refl
fused slice row (Some i) = refl

pub found_on_row : (shape argument : Dimensions) (slice : Slice) (p : Position) (row : RowIndices) → row_in shape argument p ≡ Some row → found_in shape argument slice p ≡ option_map (λ i. cell_of slice (position_on row i)) (index_in_argument X shape argument p.x)
found_on_row shape argument slice p row h =
    ap (λ (o : Option RowIndices). option_map (cell_of slice) (option_and_then (λ r. option_map (position_on r) (index_in_argument X shape argument p.x)) o)) h
    ∙ fused slice row (index_in_argument X shape argument p.x)

-- ---- what is found for a plane

-- the ends of a window with a position, all of whose positions are of a cube
pub record HasEnds (d : Dimensions) (w : Window) : Type 0 where
  pub t : w.t.from < extent d.t
  pub bands : w.bands.from < extent d.bands
  pub y_some : w.y.from < w.y.to
  pub y : w.y.to ≤ extent d.y
  pub x_some : w.x.from < w.x.to
  pub x : w.x.to ≤ extent d.x

pub has_ends : (d : Dimensions) (w : Window) → 0 < position_count w → ((p : Position) → IsIn w p → IsPosition d p) → HasEnds d w
has_ends d w h inside =
    let some = are_some w h in
    let some_t = some.t in
    let some_bands = some.bands in
    let some_y = some.y in
    let some_x = some.x in
    let last = at_indices w.t.from w.bands.from (w.y.to - 1) (w.x.to - 1) in
    let ends = inside last (record {
      t = record { begun = omega arith; before = omega arith };
      bands = record { begun = omega arith; before = omega arith };
      y = record { begun = omega arith; before = omega arith };
      x = record { begun = omega arith; before = omega arith };
    }) in
    let ends_y = ends.y in
    let ends_x = ends.x in
    record {
      t = ends.t;
      bands = ends.band;
      y_some = omega arith;
      y = omega arith;
      x_some = omega arith;
      x = omega arith;
    }

-- each position of a plane has its index along t and bands
pub on_plane : (w : Window) (p : Position) → w ≡ plane_window w w.t.from w.bands.from → IsIn w p → (w.t.from ≡ p.t) × (w.bands.from ≡ p.band)
on_plane w p one h =
    let t : w.t.to ≡ w.t.from + 1 = ap (λ (v : Window). v.t.to) one in
    let bands : w.bands.to ≡ w.bands.from + 1 = ap (λ (v : Window). v.bands.to) one in
    let in_t = h.t in
    let in_bands = h.bands in
    (omega arith, omega arith)
