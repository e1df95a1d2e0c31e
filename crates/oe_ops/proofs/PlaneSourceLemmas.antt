-- What a plane of a load needs of the collection is one plane of it, which lists the same cells in the same order.
use Rattle.std.proofs.Common.{◌≡◌, ℕ, ◌+◌, ◌-◌, List, [], ◌∷◌, length, map, replicate, refl, sym, ap, ◌∙◌, subst, arith, Option, Some, None}
use Rattle.std.specs.List.{slice_get}
use Rattle.std.specs.Option.{option_map, unwrap_or}
use Rattle.std.proofs.lemmas.Option.{same_Some}
use Rattle.oe_cell.specs.declared.cell.Cell.{Cell}
use Rattle.oe_cell.specs.declared.cell.Cell.TheVariants.{Empty}
use Rattle.oe_dims.specs.Cube.{Cube, IsCube, at}
use Rattle.oe_dims.specs.Dimensions.{Dimensions, IsShape}
use Rattle.oe_dims.specs.Positions.{IsPosition, Position, tuple_of}
use Rattle.oe_dims.specs.declared.kind.Kind.TheVariants.{Time, Bands, Y, X}
use Rattle.oe_dims.proofs.ShapeLemmas.{x_rises, y_falls}
use Rattle.oe_window.specs.Cells.{cell_at, cells_on}
use Rattle.oe_window.specs.Windows.{Holds, IsAlong, IsEmpty, IsIn, first_position, number_in, position_count, positions, span_at, span_length, whole_window}
use Rattle.oe_window.specs.declared.window.Span.{Span}
use Rattle.oe_window.specs.declared.window.Window.{Window}
use Rattle.oe_window.proofs.CellLemmas.{cell_at-tabulate, cells_on-at, cells_on-tabulate, is_cells_on, length-cells_on}
use Rattle.oe_window.proofs.WindowLemmas.{AreWithin, IsWithin, filled_by, filled_unless_empty, first_in, length-positions, within_from_holds}
use Rattle.oe_window.proofs.WholeLemmas.{position_in as inside_shape}
use Rattle.oe_requests.specs.Extents.{Restriction, is_across, is_up, shape_of_restriction}
use Rattle.oe_meanings.specs.Meaning.{cell, restricted_cube}
use Rattle.oe_ops.specs.Indices.{index_in_argument, position_in}
use Rattle.oe_ops.specs.Loads.{GivesPlane}
use Rattle.oe_ops.specs.Needs.{HasLabelsOf, HoldsNeed, IsNeed, plane_window, zero_window}
use Rattle.oe_ops.specs.Spans.{product}
use Rattle.oe_ops.proofs.FoundLemmas.{at_is, has_labels}
use Rattle.oe_ops.proofs.IndexLemmas.{x_found, y_found}
use Rattle.oe_ops.proofs.KeepLemmas.{restrict_kept}
use Rattle.oe_ops.proofs.KeptRunLemmas.{KeepsRun, across_between, keeps_run, up_between}
use Rattle.oe_ops.proofs.ListLemmas.{map-agree}
use Rattle.oe_ops.proofs.NeedLemmas.{labels_each, plane_holds}

-- ---- spans

-- so many indices further
abbrev further : ℕ → Span → Span
further first span = record { from = first + span.from; to = first + span.to }

same_span : (a b : Span) → IsWithin a b → IsWithin b a → a ≡ b
same_span a b one two =
    let from : a.from ≡ b.from = (let x = one.from in let y = two.from in omega arith) in
    let to : a.to ≡ b.to = (let x = one.to in let y = two.to in omega arith) in
    rw (from, to) refl

same_window : (a b : Window) → AreWithin a b → AreWithin b a → a ≡ b
same_window a b one two =
    let t : a.t ≡ b.t = same_span a.t b.t one.t two.t in
    let bands : a.bands ≡ b.bands = same_span a.bands b.bands one.bands two.bands in
    let y : a.y ≡ b.y = same_span a.y b.y one.y two.y in
    let x : a.x ≡ b.x = same_span a.x b.x one.x two.x in
    rw (t, bands, y, x) refl

one_index : (index i : ℕ) → IsAlong (span_at index) i → i ≡ index
one_index index i h = let a = h.begun in let b = h.before in omega arith

-- ---- the plane

module _ (d : Dimensions) (r : Restriction) (valid : IsShape d) (window : Window) (t band : ℕ)
    (within : Holds (whole_window (shape_of_restriction r d)) window) (t_in : IsAlong window.t t) (band_in : IsAlong window.bands band) where
  abbrev plane : Window
  plane = plane_window window t band

  abbrev shape : Dimensions
  shape = shape_of_restriction r d

  -- a position of the plane is one of the result
  on_shape : (p : Position) → IsIn plane p → IsPosition shape p
  on_shape p h =
      let there : p.t ≡ t = one_index t p.t h.t in
      let here : p.band ≡ band = one_index band p.band h.bands in
      inside_shape shape p (within p (record {
        t = subst (IsAlong window.t) (sym there) t_in;
        bands = subst (IsAlong window.bands) (sym here) band_in;
        y = h.y;
        x = h.x;
      }))

  module _ (first_y first_x : ℕ) (y_run : KeepsRun is_up r.box d.y first_y) (x_run : KeepsRun is_across r.box d.x first_x)
      (from_t from_band : ℕ) (t_is : index_in_argument Time shape d t ≡ Some from_t) (band_is : index_in_argument Bands shape d band ≡ Some from_band) where
    -- the plane of the collection
    abbrev source : Window
    source = product (span_at from_t) (span_at from_band) (further first_y window.y) (further first_x window.x)

    -- the position of the plane whose labels a position of the collection has
    abbrev back : Position → Position
    back q = record { t = t; band = band; y = q.y - first_y; x = q.x - first_x }

    back_in : (q : Position) → IsIn source q → IsIn plane (back q)
    back_in q h =
        let y_low = h.y.begun in
        let y_high = h.y.before in
        let x_low = h.x.begun in
        let x_high = h.x.before in
        record {
          t = record { begun = omega arith; before = omega arith };
          bands = record { begun = omega arith; before = omega arith };
          y = record { begun = omega arith; before = omega arith };
          x = record { begun = omega arith; before = omega arith };
        }

    found_back : (q : Position) → IsIn source q → position_in shape d (back q) ≡ Some q
    found_back q h =
        let on = on_shape (back q) (back_in q h) in
        let q_t : from_t ≡ q.t = sym (one_index from_t q.t h.t) in
        let q_band : from_band ≡ q.band = sym (one_index from_band q.band h.bands) in
        let low_y = h.y.begun in
        let low_x = h.x.begun in
        let q_y : first_y + (q.y - first_y) ≡ q.y = omega arith in
        let q_x : first_x + (q.x - first_x) ≡ q.x = omega arith in
        let at_t : index_in_argument Time shape d t ≡ Some q.t = t_is ∙ ap Some q_t in
        let at_band : index_in_argument Bands shape d band ≡ Some q.band = band_is ∙ ap Some q_band in
        let at_y : index_in_argument Y shape d (q.y - first_y) ≡ Some q.y = y_run (q.y - first_y) on.y ∙ ap Some q_y in
        let at_x : index_in_argument X shape d (q.x - first_x) ≡ Some q.x = x_run (q.x - first_x) on.x ∙ ap Some q_x in
        rw (at_t, at_band, at_y, at_x) refl

    -- what the plane needs lies in it, and each of its positions is needed
    holds_need : HoldsNeed (HasLabelsOf shape d) plane source
    holds_need p q h n =
        let on = on_shape p h in
        let each = labels_each shape d valid p q n in
        let p_t : p.t ≡ t = one_index t p.t h.t in
        let p_band : p.band ≡ band = one_index band p.band h.bands in
        let q_t : q.t ≡ from_t = same_Some q.t from_t (sym each.t_needed ∙ ap (index_in_argument Time shape d) p_t ∙ t_is) in
        let q_band : q.band ≡ from_band = same_Some q.band from_band (sym each.bands_needed ∙ ap (index_in_argument Bands shape d) p_band ∙ band_is) in
        let q_y : q.y ≡ first_y + p.y = same_Some q.y (first_y + p.y) (sym each.y_needed ∙ y_run p.y on.y) in
        let q_x : q.x ≡ first_x + p.x = same_Some q.x (first_x + p.x) (sym each.x_needed ∙ x_run p.x on.x) in
        let y_low = h.y.begun in
        let y_high = h.y.before in
        let x_low = h.x.begun in
        let x_high = h.x.before in
        record {
          t = record { begun = omega arith; before = omega arith };
          bands = record { begun = omega arith; before = omega arith };
          y = record { begun = omega arith; before = omega arith };
          x = record { begun = omega arith; before = omega arith };
        }

    needed_by : (box : Window) → HoldsNeed (HasLabelsOf shape d) plane box → Holds box source
    needed_by box need q h = need (back q) q (back_in q h) (has_labels shape d (back q) q (found_back q h))

    source_is : (box : Window) → IsNeed (HasLabelsOf shape d) plane box → ¬ IsEmpty box → box ≡ source
    source_is box need some =
        let filled = filled_unless_empty box some in
        let in_source = need.least source holds_need in
        let source_filled = filled_by source (first_position box) (in_source (first_position box) (first_in box filled)) in
        same_window box source (within_from_holds box source filled in_source)
        (within_from_holds source box source_filled (needed_by box need.holds))

    -- the cells, one by one
    cell_back : (cube : Cube Cell) → IsCube cube → cube.shape ≡ d → (q : Position) → IsIn source q
        → cell_at Empty (restricted_cube r cube) (back q) ≡ cell_at Empty cube q
    cell_back cube whole same q h =
        let p = back q in
        let on = on_shape p (back_in q h) in
        let made : cell_at Empty (restricted_cube r cube) p ≡ cell cube (tuple_of (shape_of_restriction r cube.shape) p) =
        cell_at-tabulate Empty (shape_of_restriction r cube.shape) (cell cube) p (subst (λ k. IsPosition (shape_of_restriction r k) p) (sym same) on) in
        let found : position_in (shape_of_restriction r cube.shape) cube.shape p ≡ Some q =
        subst (λ k. position_in (shape_of_restriction r k) k p ≡ Some q) (sym same) (found_back q h) in
        let here : at cube (tuple_of (shape_of_restriction r cube.shape) p) ≡ Some (cell_at Empty cube q) =
        ap (at cube) (sym (restrict_kept r cube.shape p))
        ∙ at_is cube (shape_of_restriction r cube.shape) p (subst IsShape (sym same) valid) whole
        ∙ ap (option_map (cell_at Empty cube)) found in
        made ∙ ap (λ (o : Option Cell). unwrap_or o Empty) here

    number_back : (q : Position) → IsIn source q → number_in plane (back q) ≡ number_in source q
    number_back q h =
        let q_t : q.t ≡ from_t = one_index from_t q.t h.t in
        let q_band : q.band ≡ from_band = one_index from_band q.band h.bands in
        let long_y : span_length (further first_y window.y) ≡ span_length window.y = omega arith in
        let long_x : span_length (further first_x window.x) ≡ span_length window.x = omega arith in
        let no_t : q.t - from_t ≡ t - t = omega arith in
        let no_band : q.band - from_band ≡ band - band = omega arith in
        let wide : (from_band + 1) - from_band ≡ (band + 1) - band = omega arith in
        let y_back : q.y - (first_y + window.y.from) ≡ (q.y - first_y) - window.y.from = omega arith in
        let x_back : q.x - (first_x + window.x.from) ≡ (q.x - first_x) - window.x.from = omega arith in
        rw (long_y, long_x, no_t, no_band, wide, y_back, x_back) refl

    count_is : position_count source ≡ position_count plane
    count_is =
        let long_y : span_length (further first_y window.y) ≡ span_length window.y = omega arith in
        let long_x : span_length (further first_x window.x) ≡ span_length window.x = omega arith in
        let deep : (from_t + 1) - from_t ≡ (t + 1) - t = omega arith in
        let wide : (from_band + 1) - from_band ≡ (band + 1) - band = omega arith in
        rw (long_y, long_x, deep, wide) refl

    cells_are : (cube : Cube Cell) → IsCube cube → cube.shape ≡ d → cells_on Empty cube source ≡ cells_on Empty (restricted_cube r cube) plane
    cells_are cube whole same =
        sym (is_cells_on Empty cube source (cells_on Empty (restricted_cube r cube) plane)
        (length-cells_on Empty (restricted_cube r cube) plane ∙ sym count_is)
        (λ q h. ap (slice_get (cells_on Empty (restricted_cube r cube) plane)) (sym (number_back q h))
        ∙ cells_on-at Empty (restricted_cube r cube) plane (back q) (back_in q h)
        ∙ ap Some (cell_back cube whole same q h)))

-- ---- nothing is needed

module _ (d : Dimensions) (r : Restriction) (valid : IsShape d) (plane box : Window) (inside : Holds (whole_window (shape_of_restriction r d)) plane)
    (need : HoldsNeed (HasLabelsOf (shape_of_restriction r d) d) plane box) (empty : IsEmpty box) where
  nowhere : (p : Position) → IsIn plane p → position_in (shape_of_restriction r d) d p ≡ None
  nowhere p h = by (position_in (shape_of_restriction r d) d p) refl
    where
      by : (o : Option Position) → position_in (shape_of_restriction r d) d p ≡ o → o ≡ None
      by None e = refl
      by (Some q) e = absurd (empty q (need p q h (has_labels (shape_of_restriction r d) d p q e)))

  null_there : (cube : Cube Cell) → IsCube cube → cube.shape ≡ d → (p : Position) → IsIn plane p
      → cell cube (tuple_of (shape_of_restriction r cube.shape) p) ≡ Empty
  null_there cube whole same p h =
      let none : position_in (shape_of_restriction r cube.shape) cube.shape p ≡ None =
      subst (λ k. position_in (shape_of_restriction r k) k p ≡ None) (sym same) (nowhere p h) in
      let here : at cube (tuple_of (shape_of_restriction r cube.shape) p) ≡ None =
      ap (at cube) (sym (restrict_kept r cube.shape p))
      ∙ at_is cube (shape_of_restriction r cube.shape) p (subst IsShape (sym same) valid) whole
      ∙ ap (option_map (cell_at Empty cube)) none in
      ap (λ (o : Option Cell). unwrap_or o Empty) here

  all_null : (ps : List Position) → map (λ p. Empty) ps ≡ replicate (length ps) Empty
  all_null [] = refl
  all_null (p ∷ ps) = ap (λ (cs : List Cell). Empty ∷ cs) (all_null ps)

  nulls_are : (cube : Cube Cell) → IsCube cube → cube.shape ≡ d → cells_on Empty (restricted_cube r cube) plane ≡ replicate (position_count plane) Empty
  nulls_are cube whole same =
      let held : Holds (whole_window (shape_of_restriction r cube.shape)) plane = subst (λ k. Holds (whole_window (shape_of_restriction r k)) plane) (sym same) inside in
      cells_on-tabulate Empty (shape_of_restriction r cube.shape) (cell cube) plane held
      ∙ map-agree (λ p. cell cube (tuple_of (shape_of_restriction r cube.shape) p)) (λ p. Empty) plane (null_there cube whole same)
      ∙ all_null (positions plane)
      ∙ ap (λ n. replicate n Empty) (length-positions plane)

-- ---- both

not_empty_zero : (box : Window) → box ≡ zero_window → IsEmpty box
not_empty_zero box is = subst IsEmpty (sym is) (λ p h. let a = h.t.begun in let b = h.t.before in omega arith)

module _ (d : Dimensions) (r : Restriction) (valid : IsShape d) (window : Window) (t band : ℕ) (box : Window)
    (within : Holds (whole_window (shape_of_restriction r d)) window) (t_in : IsAlong window.t t) (band_in : IsAlong window.bands band)
    (need : IsNeed (HasLabelsOf (shape_of_restriction r d) d) (plane_window window t band) box) where
  nothing : ((p q : Position) → IsIn (plane_window window t band) p → ¬ HasLabelsOf (shape_of_restriction r d) d p q) → IsEmpty box
  nothing none = not_empty_zero box (need.zero none)

  abbrev y_run : (first : ℕ) × KeepsRun is_up r.box d.y first
  y_run = keeps_run is_up r.box d.y (λ box. up_between box (unwrap_or d.y []) (y_falls d valid)) (y_found d valid)

  abbrev x_run : (first : ℕ) × KeepsRun is_across r.box d.x first
  x_run = keeps_run is_across r.box d.x (λ box. across_between box (unwrap_or d.x []) (x_rises d valid)) (x_found d valid)

  -- a box that is not empty has the indices along t and bands of the plane
  record IsFound : Type 0 where
    from_t : ℕ
    from_band : ℕ
    t_is : index_in_argument Time (shape_of_restriction r d) d t ≡ Some from_t
    band_is : index_in_argument Bands (shape_of_restriction r d) d band ≡ Some from_band

  found : ¬ IsEmpty box → IsFound
  found some = by (index_in_argument Time (shape_of_restriction r d) d t) (index_in_argument Bands (shape_of_restriction r d) d band) refl refl
    where
      by : (a b : Option ℕ) → index_in_argument Time (shape_of_restriction r d) d t ≡ a → index_in_argument Bands (shape_of_restriction r d) d band ≡ b → IsFound
      by None b e f = absurd (some (nothing (λ p q h n.
          let p_t : p.t ≡ t = one_index t p.t h.t in
          let there : Some q.t ≡ None = sym (labels_each (shape_of_restriction r d) d valid p q n).t_needed ∙ ap (index_in_argument Time (shape_of_restriction r d) d) p_t ∙ e in
          cc)))
      by (Some from_t) None e f = absurd (some (nothing (λ p q h n.
          let p_band : p.band ≡ band = one_index band p.band h.bands in
          let there : Some q.band ≡ None = sym (labels_each (shape_of_restriction r d) d valid p q n).bands_needed ∙ ap (index_in_argument Bands (shape_of_restriction r d) d) p_band ∙ f in
          cc)))
      by (Some from_t) (Some from_band) e f = record { from_t = from_t; from_band = from_band; t_is = e; band_is = f }

  box_is : (f : IsFound) → ¬ IsEmpty box → box ≡ product (span_at f.from_t) (span_at f.from_band) (further y_run.0 window.y) (further x_run.0 window.x)
  box_is f some = source_is d r valid window t band within t_in band_in y_run.0 x_run.0 y_run.1 x_run.1 f.from_t f.from_band f.t_is f.band_is box need some

  gives_cells : (cube : Cube Cell) → IsCube cube → cube.shape ≡ d → ¬ IsEmpty box
      → cells_on Empty cube box ≡ cells_on Empty (restricted_cube r cube) (plane_window window t band)
  gives_cells cube whole same some =
      let f = found some in
      ap (cells_on Empty cube) (box_is f some)
      ∙ cells_are d r valid window t band within t_in band_in y_run.0 x_run.0 y_run.1 x_run.1 f.from_t f.from_band f.t_is f.band_is cube whole same

  gives_count : ¬ IsEmpty box → position_count box ≡ position_count (plane_window window t band)
  gives_count some =
      let f = found some in
      ap position_count (box_is f some)
      ∙ count_is d r valid window t band within t_in band_in y_run.0 x_run.0 y_run.1 x_run.1 f.from_t f.from_band f.t_is f.band_is

  gives_needed : (q : Position) → IsIn box q → (p : Position) × IsIn (plane_window window t band) p × HasLabelsOf (shape_of_restriction r d) d p q
  gives_needed q h =
      let some : ¬ IsEmpty box = λ none. none q h in
      let f = found some in
      let inside = subst (λ w. IsIn w q) (box_is f some) h in
      let p : Position = record { t = t; band = band; y = q.y - y_run.0; x = q.x - x_run.0 } in (
        p,
        back_in d r valid window t band within t_in band_in y_run.0 x_run.0 y_run.1 x_run.1 f.from_t f.from_band f.t_is f.band_is q inside,
        has_labels (shape_of_restriction r d) d p q
            (found_back d r valid window t band within t_in band_in y_run.0 x_run.0 y_run.1 x_run.1 f.from_t f.from_band f.t_is f.band_is q inside),
      )

  gives_nulls : (cube : Cube Cell) → IsCube cube → cube.shape ≡ d → IsEmpty box
      → cells_on Empty (restricted_cube r cube) (plane_window window t band) ≡ replicate (position_count (plane_window window t band)) Empty
  gives_nulls cube whole same empty =
      nulls_are d r valid (plane_window window t band) box (plane_holds (whole_window (shape_of_restriction r d)) window t band within t_in band_in) need.holds empty cube whole same

  gives_all : GivesPlane d (shape_of_restriction r d) r (plane_window window t band) box
  gives_all = record { cells = gives_cells; nulls = gives_nulls; counted = gives_count; needed = gives_needed }

-- the box of a plane gives its cells
pub gives_plane : (d shape : Dimensions) → IsShape d → (r : Restriction) → shape_of_restriction r d ≡ shape → (window : Window) (t band : ℕ) (box : Window)
    → Holds (whole_window shape) window → IsAlong window.t t → IsAlong window.bands band
    → IsNeed (HasLabelsOf shape d) (plane_window window t band) box → GivesPlane d shape r (plane_window window t band) box
gives_plane d d_kept valid r is window t band box within t_in band_in need =
    subst (λ k. Holds (whole_window k) window → IsNeed (HasLabelsOf k d) (plane_window window t band) box → GivesPlane d k r (plane_window window t band) box) is
    (λ w n. gives_all d r valid window t band box w t_in band_in n) within need
