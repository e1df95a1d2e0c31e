-- The numbers of a window, as those of a box that begins at the window's first number.
use Rattle.std.proofs.Common.{◌≡◌, ℕ, zero, suc, ◌+◌, ◌*◌, ◌^◌, ◌<◌, ◌≤◌, List, [], ◌∷◌, map, length, refl, sym, ap, ◌∙◌, subst, arith, Some}
use Rattle.std.specs.List.{flat_map, range_with_len, slice_get, sum_by}
use Rattle.std.proofs.lemmas.List.{length-map}
use Rattle.std.proofs.Math.Nat.{le-mul_of_pos_right}
use Rattle.std.proofs.lemmas.Nat.{mul-le, mul-add-lt}
use Rattle.oe_dims.specs.Dimensions.{Dimensions, IsShape, extent, cell_count, most_cells}
use Rattle.oe_dims.proofs.ShapeLemmas.{cell_count_within}
use Rattle.oe_dims.specs.Positions.{Position, number_of}
use Rattle.oe_window.specs.Windows.{IsEmpty, Holds, span_length, span_indices, positions, position_count, whole_window}
use Rattle.oe_window.specs.Runs.{window_numbers, laid, AreFilled, EndWithin}
use Rattle.oe_window.specs.Layouts.{IsBox, box_numbers, window_sides, cube_sides, first_number}
use Rattle.oe_dims.proofs.CubeLemmas.{number_below}
use Rattle.oe_dims.proofs.FlatMapLemmas.{map-flat_map, flat_map-same, value_at}
use Rattle.oe_window.proofs.RunLemmas.{flat_map-shift, AreBelow, end_within, length-laid}
use Rattle.oe_window.proofs.WholeLemmas.{position_in}
use Rattle.oe_window.proofs.WindowLemmas.{IsFilled, AreWithin, filled_unless_empty, within_from_holds, position_number, length-positions}
use Rattle.oe_window.specs.declared.window.Span.{Span}
use Rattle.oe_window.specs.declared.window.Window.{Window}

map-numbers : (d : Dimensions) (t b y a n : ℕ) → map (number_of d) (map (λ x. record { t = t; band = b; y = y; x = x }) (range_with_len a n)) ≡ range_with_len (((t * extent d.bands + b) * extent d.y + y) * extent d.x + a) n
map-numbers d t b y a zero = refl
map-numbers d t b y a (suc n) =
    let c = ((t * extent d.bands + b) * extent d.y + y) * extent d.x in
    let next : c + (a + 1) ≡ c + a + 1 = omega arith in
    ap (λ zs. (c + a) ∷ zs) (map-numbers d t b y (a + 1) n ∙ ap (λ e. range_with_len e n) next)

from_first : (f : ℕ → List ℕ) (s : Span) → flat_map f (span_indices s) ≡ flat_map (λ i. f (s.from + i)) (range_with_len 0 (span_length s))
from_first f s =
    let start : s.from ≡ s.from + 0 = omega arith in
    ap (λ a. flat_map f (range_with_len a (span_length s))) start ∙ flat_map-shift f s.from 0 (span_length s)

number_from : (d : Dimensions) (w : Window) (t b y : ℕ) → (((w.t.from + t) * extent d.bands + (w.bands.from + b)) * extent d.y + (w.y.from + y)) * extent d.x + w.x.from ≡ first_number d w + t * (extent d.bands * (extent d.y * extent d.x)) + b * (extent d.y * extent d.x) + y * extent d.x
number_from d w t b y = omega arith

-- the numbers along x, then along y, bands and t
abbrev row_at : Dimensions → Window → ℕ → ℕ → ℕ → List ℕ
row_at d w t b y = range_with_len (((t * extent d.bands + b) * extent d.y + y) * extent d.x + w.x.from) (span_length w.x)

numbers_of_rows : (d : Dimensions) (w : Window) (t b : ℕ) → map (number_of d) (flat_map (λ y. map (λ x. record { t = t; band = b; y = y; x = x }) (span_indices w.x)) (span_indices w.y)) ≡ flat_map (λ y. row_at d w t b y) (span_indices w.y)
numbers_of_rows d w t b =
    map-flat_map (number_of d) _ (span_indices w.y)
    ∙ flat_map-same _ _ (λ y. map-numbers d t b y w.x.from (span_length w.x)) (span_indices w.y)

numbers_of_bands : (d : Dimensions) (w : Window) (t : ℕ) → map (number_of d) (flat_map (λ b. flat_map (λ y. map (λ x. record { t = t; band = b; y = y; x = x }) (span_indices w.x)) (span_indices w.y)) (span_indices w.bands)) ≡ flat_map (λ b. flat_map (λ y. row_at d w t b y) (span_indices w.y)) (span_indices w.bands)
numbers_of_bands d w t =
    map-flat_map (number_of d) _ (span_indices w.bands)
    ∙ flat_map-same _ _ (λ b. numbers_of_rows d w t b) (span_indices w.bands)

numbers_of_window : (d : Dimensions) (w : Window) → window_numbers d w ≡ flat_map (λ t. flat_map (λ b. flat_map (λ y. row_at d w t b y) (span_indices w.y)) (span_indices w.bands)) (span_indices w.t)
numbers_of_window d w =
    map-flat_map (number_of d) _ (span_indices w.t)
    ∙ flat_map-same _ _ (λ t. numbers_of_bands d w t) (span_indices w.t)

pub window-box : (d : Dimensions) (w : Window) → window_numbers d w ≡ box_numbers (first_number d w) (window_sides w) (cube_sides d)
window-box d w =
    numbers_of_window d w
    ∙ from_first (λ t. flat_map (λ b. flat_map (λ y. row_at d w t b y) (span_indices w.y)) (span_indices w.bands)) w.t
    ∙ flat_map-same _ _ (λ t. from_first (λ b. flat_map (λ y. row_at d w (w.t.from + t) b y) (span_indices w.y)) w.bands
    ∙ flat_map-same _ _ (λ b. from_first (λ y. row_at d w (w.t.from + t) (w.bands.from + b) y) w.y
    ∙ flat_map-same _ _ (λ y. ap (λ a. range_with_len a (span_length w.x)) (number_from d w t b y)) (range_with_len 0 (span_length w.y))) (range_with_len 0 (span_length w.bands))) (range_with_len 0 (span_length w.t))

-- ---- a window that lies in a shape

pub record LiesIn (d : Dimensions) (w : Window) : Type 0 where
  pub filled : IsFilled w
  pub within : AreWithin w (whole_window d)

pub lies_in : (d : Dimensions) (w : Window) → Holds (whole_window d) w → ¬ IsEmpty w → LiesIn d w
lies_in d w holds some =
    let filled = filled_unless_empty w some in
    record { filled = filled; within = within_from_holds w (whole_window d) filled holds }

pub box_of : (d : Dimensions) (w : Window) → IsShape d → LiesIn d w → IsBox (first_number d w) (window_sides w) (cube_sides d)
box_of d w shape lies =
    let filled = lies.filled in
    let within = lies.within in
    let nb = extent d.bands in
    let ny = extent d.y in
    let nx = extent d.x in
    let t : w.t.from < extent d.t = omega (arith, filled.t, within.t.to) in
    let b : w.bands.from < nb = omega (arith, filled.bands, within.bands.to) in
    let y : w.y.from < ny = omega (arith, filled.y, within.y.to) in
    let x : w.x.from < nx = omega (arith, filled.x, within.x.to) in
    let two : w.t.from * nb + w.bands.from < nb * extent d.t = mul-add-lt w.t.from nb w.bands.from (extent d.t) t b in
    let three : (w.t.from * nb + w.bands.from) * ny + w.y.from < ny * (nb * extent d.t) = mul-add-lt (w.t.from * nb + w.bands.from) ny w.y.from (nb * extent d.t) two y in
    let four : first_number d w < nx * (ny * (nb * extent d.t)) = mul-add-lt ((w.t.from * nb + w.bands.from) * ny + w.y.from) nx w.x.from (ny * (nb * extent d.t)) three x in
    let cells : cell_count d ≤ most_cells = cell_count_within d shape in
    let all : nx * (ny * (nb * extent d.t)) ≡ cell_count d = omega arith in
    let volumes : span_length w.t * (nb * (ny * nx)) ≤ extent d.t * (nb * (ny * nx)) = mul-le (span_length w.t) (nb * (ny * nx)) (extent d.t) (nb * (ny * nx)) (omega (arith, within.t.to)) (omega arith) in
    record {
      t = omega (arith, filled.t);
      bands = (omega (arith, filled.bands), omega (arith, within.bands.to));
      y = (omega (arith, filled.y), omega (arith, within.y.to));
      x = (omega (arith, filled.x), omega (arith, within.x.to));
      cells = omega arith;
      begins = omega arith;
    }

-- each product on the way to the first number is at most that number
pub record AreOnTheWay (d : Dimensions) (w : Window) : Type 0 where
  pub band : w.t.from * extent d.bands + w.bands.from ≤ first_number d w
  pub row : (w.t.from * extent d.bands + w.bands.from) * extent d.y ≤ first_number d w
  pub line : (w.t.from * extent d.bands + w.bands.from) * extent d.y + w.y.from ≤ first_number d w
  pub first : first_number d w < 2 ^ 41

pub on_the_way : (d : Dimensions) (w : Window) → IsShape d → LiesIn d w → AreOnTheWay d w
on_the_way d w shape lies =
    let box = box_of d w shape lies in
    let y : 0 < extent d.y = omega (arith, box.y) in
    let x : 0 < extent d.x = omega (arith, box.x) in
    let band = w.t.from * extent d.bands + w.bands.from in
    let row : band ≤ band * extent d.y = le-mul_of_pos_right band y in
    let line : band * extent d.y + w.y.from ≤ (band * extent d.y + w.y.from) * extent d.x = le-mul_of_pos_right (band * extent d.y + w.y.from) x in
    record { band = omega arith; row = omega arith; line = omega arith; first = box.begins }

-- ---- a window in a shape has numbers below the count of cells

pub numbers_below : (d : Dimensions) (w : Window) → Holds (whole_window d) w → AreBelow (cell_count d) (window_numbers d w)
unfolding AreBelow
numbers_below d w holds i k e =
    let found = value_at (number_of d) (positions w) i k e in
    let inside = holds found.0 (position_number w i found.0 found.1).0 in
    subst (λ n. n < cell_count d) found.2 (number_below d found.0 (position_in d found.0 inside))

-- the runs of all these numbers end within the cells, and are as long together as there are positions
pub runs_within : (d : Dimensions) (w : Window) (runs : List (ℕ × ℕ)) → Holds (whole_window d) w → AreFilled runs → laid runs ≡ window_numbers d w → EndWithin (cell_count d) runs
runs_within d w runs holds filled numbers =
    end_within (cell_count d) runs filled (subst (AreBelow (cell_count d)) (sym numbers) (numbers_below d w holds))

pub runs_length : (d : Dimensions) (w : Window) (runs : List (ℕ × ℕ)) → laid runs ≡ window_numbers d w → sum_by (λ run. run.1) runs ≡ position_count w
runs_length d w runs numbers =
    sym (length-laid runs) ∙ ap length numbers ∙ length-map (positions w) (number_of d) ∙ length-positions w

-- ---- an empty window

none_if_no_first : (ps : List Position) → ((p : Position) → slice_get ps 0 ≡ Some p → ⊥) → ps ≡ []
none_if_no_first [] h = refl
none_if_no_first (p ∷ ps) h = absurd (h p refl)

pub numbers_of_empty : (d : Dimensions) (w : Window) → IsEmpty w → window_numbers d w ≡ []
numbers_of_empty d w empty =
    ap (map (number_of d)) (none_if_no_first (positions w) (λ p e. empty p (position_number w 0 p e).0))
