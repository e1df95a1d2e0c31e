-- Strips of a hull: their rows are parts of its rows of the same numbers.
use Rattle.std.proofs.Common.{◌≡◌, ℕ, suc, ◌+◌, ◌-◌, ◌*◌, ◌<◌, ◌≤◌, List, drop, length, refl, sym, ap, ◌∙◌, subst, arith}
use Rattle.std.proofs.lemmas.List.{length-drop, length-take}
use Rattle.std.specs.List.{slice_range}
use Rattle.oe_window.proofs.PartLemmas.{AreCounted, counted, part_from, row_ends}
use Rattle.oe_window.proofs.WindowLemmas.{filled_unless_empty}
use Rattle.oe_window.specs.Parts.{IsPartFrom, row_count, row_of}
use Rattle.oe_window.specs.Windows.{Holds, IsAlong, IsIn, number_in, position_count, span_at, span_length}
use Rattle.oe_window.specs.declared.window.Window.{Window}
use Rattle.oe_steps.specs.Strips.{IsStripOf}

at_zero : (i p : ℕ) → IsAlong (span_at i) p → p - i ≡ 0
at_zero i p a = let begun = a.begun in let before = a.before in omega arith

row_index : (t b y nb ny nx nw x xw first : ℕ) → t ≡ 0 → b ≡ 0 → y ≡ 0 → x ≡ first + xw
    → ((t * nb + b) * ny + y) * nx + x ≡ first + (((t * nb + b) * ny + y) * nw + xw)
row_index t b y nb ny nx nw x xw first et eb ey ex = rw (et, eb, ey) (omega arith)

module _ (hull window : Window) (s : IsStripOf hull window) where
  pub strip_within : Holds hull window
  strip_within p in' =
      let from = s.from in
      let to = s.to in
      let begun = in'.x.begun in
      let before = in'.x.before in
      record {
        t = subst (λ span. IsAlong span p.t) s.t in'.t;
        bands = subst (λ span. IsAlong span p.band) s.bands in'.bands;
        y = subst (λ span. IsAlong span p.y) s.y in'.y;
        x = record { begun = omega arith; before = omega arith };
      }

  rows : AreCounted window (suc (position_count window))
  rows = counted window (suc (position_count window)) s.filled (omega arith)

  hull_rows : AreCounted hull (suc (position_count hull))
  hull_rows = counted hull (suc (position_count hull)) (λ e. s.filled (λ p in'. e p (strip_within p in'))) (omega arith)

  pub rows_same : row_count window ≡ row_count hull
  rows_same =
      let all : span_length window.t * span_length window.bands * span_length window.y
      ≡ span_length hull.t * span_length hull.bands * span_length hull.y = rw (s.t, s.bands, s.y) refl in
      rows.row_count_is ∙ (all ∙ sym hull_rows.row_count_is)

  pub rows_all : row_count hull * span_length window.x ≡ position_count window
  rows_all = ap (λ n. n * span_length window.x) (sym rows_same ∙ rows.row_count_is)

  pub row_within : (n : ℕ) → n < row_count hull → n * span_length window.x + span_length window.x ≤ position_count window
  row_within n h = row_ends window n (subst (λ m. n < m) (sym rows_same) h)

  -- the row of the hull, cut to the indices of the window along x
  row_is : (n : ℕ) → row_of window n ≡ record (row_of hull n) { x = window.x }
  row_is n = rw (s.t, s.bands, s.y) refl

  pub row_part_of : (n : ℕ) → IsPartFrom (window.x.from - hull.x.from) (row_of hull n) (row_of window n)
  row_part_of n =
      part_from (window.x.from - hull.x.from) (row_of hull n) (row_of window n)
      (λ p a.
      let b = subst (λ v. IsIn v p) (row_is n) a in
      let from = s.from in
      let to = s.to in
      let begun = b.x.begun in
      let before = b.x.before in
      record { t = b.t; bands = b.bands; y = b.y; x = record { begun = omega arith; before = omega arith } })
      (λ p a.
      let b = subst (λ v. IsIn v p) (row_is n) a in
      let from = s.from in
      let begun = b.x.begun in
      row_index _ _ _ _ _ _ (span_length window.x) _ (p.x - window.x.from) (window.x.from - hull.x.from)
      (at_zero _ p.t b.t) (at_zero _ p.band b.bands) (at_zero _ p.y b.y) (omega arith)
      ∙ ap (λ v. window.x.from - hull.x.from + number_in v p) (sym (row_is n)))

  -- the part has as many cells as the window has indices along x
  pub part_length : {X : Type 0} (row : List X) → length row ≡ span_length hull.x
      → length (slice_range row (window.x.from - hull.x.from) (window.x.from - hull.x.from + span_length window.x)) ≡ span_length window.x
  part_length row long =
      let start = window.x.from - hull.x.from in
      let filled = (filled_unless_empty window s.filled).x in
      let from = s.from in
      let to = s.to in
      omega (arith, long, length-take (start + span_length window.x - start) (drop start row), length-drop start row)
