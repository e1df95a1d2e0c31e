-- The shape and the rows of the generated collection.
use Rattle.std.proofs.Common.{◌≡◌, ◌==◌, ℕ, zero, suc, ◌+◌, ◌-◌, ◌*◌, ◌/◌, ◌%◌, ◌<◌, ◌≤◌, Bool, true, false, List, [], ◌∷◌, ◌++◌, length, map, take, drop, set, Option, Some, None, ℤ, pos, inl, inr, refl, sym, ap, ◌∙◌, subst, arith}
use Rattle.std.specs.Prelude.{◌<ℤ◌, ◌≤ℤ◌, codes, if◌then◌else◌, neg_ℤ, slice_get}
use Rattle.std.specs.List.{flat_map, list_all, range_with_len}
use Rattle.std.specs.Option.{option_map}
use Rattle.std.proofs.Math.Seq.{take-append-add, take-append_seam}
use Rattle.std.proofs.lemmas.Bool.{cases_lt}
use Rattle.std.proofs.lemmas.Int.{ints}
use Rattle.std.proofs.lemmas.List.{drop-take, length-map, length-take-le, map-append, take-append-drop, take-take, take_all}
use Rattle.std.proofs.lemmas.List.FromFn.{length-range_with_len, map-range_with_len_more}
use Rattle.std.proofs.lemmas.Nat.{mul-le}
use Rattle.std.proofs.lemmas.Option.{get_or_from_slice_get, slice_get-map, slice_get_past}
use Rattle.oe_cell.specs.declared.cell.Cell.{Cell}
use Rattle.oe_cell.specs.declared.cell.Cell.TheVariants.{Empty, Number}
use Rattle.oe_cube.specs.Collections.{IsCollection}
use Rattle.oe_cube.specs.Kinds.{is_null_or_of}
use Rattle.oe_dims.specs.Cube.{Cube}
use Rattle.oe_dims.specs.Dimensions.{Dimensions, IsShape, extent, farthest_coordinate, first_instant, last_instant, shape_fault}
use Rattle.oe_dims.specs.Positions.{Position, number_of}
use Rattle.oe_dims.specs.Rules.{IsBetween, IsFalling, IsRising, KeepsRule}
use Rattle.oe_dims.specs.declared.kind.CellKind.TheVariants.{Numbers}
use Rattle.oe_dims.specs.declared.kind.Kind.TheVariants.{Time, Bands, Y, X}
use Rattle.oe_dims.specs.declared.shape.ShapeFault.{ShapeFault}
use Rattle.oe_dims.specs.declared.shape.ShapeFault.TheVariants.{OrderWrong, OutOfRange, TooMany, EpsgWrong, TooManyCells}
use Rattle.oe_dims.proofs.FlatMapLemmas.{same_gets, value_at}
use Rattle.oe_dims.proofs.RuleLemmas.{AreNames-list_all, IsBetween-all_between, IsRising-rises, IsShape-KeepsEveryRule, IsWithoutTwice-all_differ}
use Rattle.oe_sources.specs.Generated.{IsRow, falling_labels, generated_cell, generated_contents, generated_days, generated_shape, generated_sum, rest_cell, rising_labels}
use Rattle.oe_sources.specs.Source.{AreCellsOf, collection_with}
use Rattle.oe_sources.proofs.SourceLemmas.{none_contained}
use Rattle.oe_window.specs.Parts.{IsPartFrom, row_of}
use Rattle.oe_window.specs.Windows.{Holds, first_position, number_in, position_count, positions, span_indices, span_length, whole_window}
use Rattle.oe_window.specs.declared.window.Window.{Window}
use Rattle.oe_window.proofs.CellLemmas.{is_cells_on}
use Rattle.oe_window.proofs.RangeLemmas.{range-slice_get, slice_get-range}
use Rattle.oe_window.proofs.WholeLemmas.{count_whole, number_whole}
use Rattle.oe_window.proofs.WindowLemmas.{length-positions, position_at}
use Rattle.oe_memory.proofs.Lists.{append_none}

-- ---- rests by 101

pub next_rest : (first k rest : ℕ) → rest ≡ (first + 7 * k) % 101 → (rest + 7) % 101 ≡ (first + 7 * (k + 1)) % 101
next_rest first k rest e = omega (arith, e)

pub rest_of_sum : (a b : ℕ) → (a % 101 + b) % 101 ≡ (a + b) % 101
rest_of_sum a b = omega arith

-- ---- rows

-- the positions of a row
abbrev along_row : Window → ℕ → Position
along_row w x = record { t = w.t.from; band = w.bands.from; y = w.y.from; x = x }

one_index : (from n : ℕ) → n ≡ 1 → range_with_len from n ≡ from ∷ []
one_index from n e = ap (range_with_len from) e

pub row_positions : (w : Window) → IsRow w → positions w ≡ map (along_row w) (range_with_len w.x.from (span_length w.x))
row_positions w row =
    let xs = span_indices w.x in
    let line : ℕ → ℕ → ℕ → List Position = λ t band y. map (λ x. record { t = t; band = band; y = y; x = x }) xs in
    let lines : ℕ → ℕ → List ℕ → List Position = λ t band ys. flat_map (λ y. line t band y) ys in
    let planes : ℕ → List ℕ → List Position = λ t bands. flat_map (λ band. lines t band (span_indices w.y)) bands in
    ap (λ (ts : List ℕ). flat_map (λ t. planes t (span_indices w.bands)) ts) (one_index w.t.from (span_length w.t) row.t)
    ∙ append_none (planes w.t.from (span_indices w.bands))
    ∙ ap (planes w.t.from) (one_index w.bands.from (span_length w.bands) row.bands)
    ∙ append_none (lines w.t.from w.bands.from (span_indices w.y))
    ∙ ap (lines w.t.from w.bands.from) (one_index w.y.from (span_length w.y) row.y)
    ∙ append_none (line w.t.from w.bands.from w.y.from)

pub row_cells : (seed first : ℕ) (w : Window) (into : List Cell) → IsRow w → first ≡ generated_sum seed (first_position w) % 101 → length into ≡ position_count w → ((k : ℕ) → k < length into → slice_get into k ≡ Some (rest_cell ((first + 7 * k) % 101))) → into ≡ map (generated_cell seed) (positions w)
row_cells seed first w into row is long each =
    same_gets into (map (generated_cell seed) (positions w)) (λ k. elim (cases_lt k (length into)) [
      | inl below ↦
          let n = span_length w.x in
          let count : length (positions w) ≡ n = ap length (row_positions w row) ∙ length-map (range_with_len w.x.from n) (along_row w) ∙ length-range_with_len w.x.from n in
          let within : k < n = omega (arith, below, long, count, length-positions w) in
          let here : slice_get (positions w) k ≡ Some (along_row w (w.x.from + k)) = ap (λ (ps : List Position). slice_get ps k) (row_positions w row)
          ∙ slice_get-map (along_row w) (range_with_len w.x.from n) k ∙ ap (option_map (along_row w)) (slice_get-range w.x.from n k within) in
          let sum : generated_sum seed (first_position w) + 7 * k ≡ generated_sum seed (along_row w (w.x.from + k)) = omega arith in
          let rest : (first + 7 * k) % 101 ≡ generated_sum seed (along_row w (w.x.from + k)) % 101 = ap (λ (m : ℕ). (m + 7 * k) % 101) is ∙ rest_of_sum (generated_sum seed (first_position w)) (7 * k) ∙ ap (λ (m : ℕ). m % 101) sum in
          each k below ∙ ap (λ (m : ℕ). Some (rest_cell m)) rest
          ∙ sym (slice_get-map (generated_cell seed) (positions w) k ∙ ap (option_map (generated_cell seed)) here)
      | inr past ↦
          let count : length (map (generated_cell seed) (positions w)) ≡ length (positions w) = length-map (positions w) (generated_cell seed) in
          slice_get_past into k past ∙ sym (slice_get_past (map (generated_cell seed) (positions w)) k (omega (arith, past, long, count, length-positions w)))
    ])

-- one cell more of a row
pub more_made : (first k : ℕ) (into : List Cell) (c : Cell) → k < length into → c ≡ rest_cell ((first + 7 * k) % 101) → ((j : ℕ) → j < k → slice_get into j ≡ Some (rest_cell ((first + 7 * j) % 101))) → (j : ℕ) → j < k + 1 → slice_get (set into k c) j ≡ Some (rest_cell ((first + 7 * j) % 101))
more_made first k into c room is before j below =
    elim (cases_lt j k) [
      | inl inner ↦ set_before into k c j inner ∙ before j inner
      | inr outer ↦
          let same : j ≡ k = omega (arith, outer, below) in
          ap (slice_get (set into k c)) same ∙ set_here into k c room ∙ ap Some is ∙ ap (λ (m : ℕ). Some (rest_cell ((first + 7 * m) % 101))) (sym same)
    ]
  where
    set_before : (xs : List Cell) (n : ℕ) (d : Cell) (i : ℕ) → i < n → slice_get (set xs n d) i ≡ slice_get xs i
    set_before [] n d i h = refl
    set_before (x ∷ xs) zero d i h = absurd (omega (arith, h))
    set_before (x ∷ xs) (suc n) d zero h = refl
    set_before (x ∷ xs) (suc n) d (suc i) h = set_before xs n d i (omega (arith, h))

    set_here : (xs : List Cell) (n : ℕ) (d : Cell) → n < length xs → slice_get (set xs n d) n ≡ Some d
    set_here [] n d h = absurd (omega (arith, h))
    set_here (x ∷ xs) zero d h = refl
    set_here (x ∷ xs) (suc n) d h = set_here xs n d (omega (arith, h))

-- ---- a window row by row

pub is_row : (w : Window) (number : ℕ) (row : Window) → row ≡ row_of w number → IsRow row
is_row w number row e =
    subst IsRow (sym e) (record { t = one (w.t.from + number / span_length w.y / span_length w.bands); bands = one (w.bands.from + number / span_length w.y % span_length w.bands); y = one (w.y.from + number % span_length w.y) })
  where
    one : (n : ℕ) → n + 1 - n ≡ 1
    one n = omega arith

pub row_size : (w : Window) (number : ℕ) (row : Window) → row ≡ row_of w number → position_count row ≡ span_length w.x
row_size w number row e =
    let one = is_row w number row e in
    let x : span_length row.x ≡ span_length w.x = ap (λ (r : Window). span_length r.x) e in
    ap (λ (n : ℕ). n * span_length row.bands * span_length row.y * span_length row.x) one.t
    ∙ ap (λ (n : ℕ). 1 * n * span_length row.y * span_length row.x) one.bands
    ∙ ap (λ (n : ℕ). 1 * 1 * n * span_length row.x) one.y ∙ omega (arith, x)

pub row_ends : (number rows n total : ℕ) → number < rows → rows * n ≡ total → number * n + n ≤ total
row_ends number rows n total below all =
    let upto : (number + 1) * n ≤ rows * n = mul-le (number + 1) n rows n (omega (arith, below)) (omega arith) in
    let more : (number + 1) * n ≡ number * n + n = omega arith in
    omega (arith, upto, more, all)

-- one row more
pub next_row : (seed first : ℕ) (w row : Window) (into new rest : List Cell) → IsPartFrom first w row → first ≤ length into → length new ≡ position_count row → take first into ≡ map (generated_cell seed) (take first (positions w)) → new ≡ map (generated_cell seed) (positions row) → take (first + position_count row) (take first into ++ (new ++ rest)) ≡ map (generated_cell seed) (take (first + position_count row) (positions w))
next_row seed first w row into new rest part room long before made =
    let n = position_count row in
    let f = generated_cell seed in
    let front : length (take first into) ≡ first = length-take-le first into room in
    let listed : take n (drop first (positions w)) ≡ positions row = (let e : first + n - first ≡ n = omega arith in ap (λ (m : ℕ). take m (drop first (positions w))) (sym e) ∙ part.listed) in
    ap (λ (m : ℕ). take (m + n) (take first into ++ (new ++ rest))) (sym front)
    ∙ take-append-add (take first into) (new ++ rest) n
    ∙ ap (λ (cs : List Cell). take first into ++ cs) (ap (λ (m : ℕ). take m (new ++ rest)) (sym long) ∙ take-append_seam new rest)
    ∙ ap (λ (cs : List Cell). cs ++ new) before ∙ ap (λ (cs : List Cell). map f (take first (positions w)) ++ cs) (made ∙ ap (map f) (sym listed))
    ∙ sym (map-append f (take first (positions w)) (take n (drop first (positions w))))
    ∙ ap (map f) (sym (two_parts first n (positions w)))
  where
    two_parts : (m n : ℕ) (ps : List Position) → take (m + n) ps ≡ take m ps ++ take n (drop m ps)
    two_parts m n ps =
        sym (take-append-drop m (take (m + n) ps)) ∙ ap (λ (xs : List Position). xs ++ drop m (take (m + n) ps)) (take-take m (m + n) ps (omega arith)) ∙ ap (λ (xs : List Position). take m ps ++ xs) (drop-take m n ps)

pub all_rows : (seed done : ℕ) (w : Window) (into : List Cell) → length into ≡ position_count w → done ≡ position_count w → take done into ≡ map (generated_cell seed) (take done (positions w)) → into ≡ map (generated_cell seed) (positions w)
all_rows seed done w into long end made =
    sym (take_all done into (omega (arith, long, end))) ∙ made
    ∙ ap (map (generated_cell seed)) (take_all done (positions w) (omega (arith, length-positions w, end)))

-- ---- the cells of a window, as those of the collection

numbers_fit : (rest : ℕ) → is_null_or_of Numbers (rest_cell rest) ≡ true
numbers_fit rest = by_test (rest == 100)
  where
    by_test : (b : Bool) → is_null_or_of Numbers (if b then Empty else Number (record { num = pos rest; den = 1 })) ≡ true
    by_test true = refl
    by_test false = refl

all_fit : (seed : ℕ) (ps : List Position) → list_all (is_null_or_of Numbers) (map (generated_cell seed) ps) ≡ true
all_fit seed [] = refl
all_fit seed (p ∷ ps) = rw (numbers_fit (generated_sum seed p % 101)) (all_fit seed ps)

pub generated_kind : (seed : ℕ) (w : Window) (into : List Cell) → into ≡ map (generated_cell seed) (positions w) → list_all (is_null_or_of Numbers) into ≡ true
generated_kind seed w into e = ap (list_all (is_null_or_of Numbers)) e ∙ all_fit seed (positions w)

pub generated_collection : (seed side : ℕ) → IsShape (generated_shape side) → IsCollection (collection_with (generated_shape side) Numbers (generated_contents seed side))
generated_collection seed side valid =
    let d = generated_shape side in
    record {
      valid = valid;
      counted = length-map (positions (whole_window d)) (generated_cell seed) ∙ length-positions (whole_window d) ∙ count_whole d;
      of_kind = all_fit seed (positions (whole_window d));
    }

pub generated_window : (seed side : ℕ) (w : Window) (into : List Cell) → Holds (whole_window (generated_shape side)) w → into ≡ map (generated_cell seed) (positions w) → AreCellsOf (generated_shape side) (generated_contents seed side) w into
generated_window seed side w into inside made =
    let d = generated_shape side in
    let f = generated_cell seed in
    let whole = whole_window d in
    let cube : Cube Cell = record { shape = d; cells = map f (positions whole) } in
    record {
      cells_are = is_cells_on Empty cube w into (ap length made ∙ length-map (positions w) f ∙ length-positions w) (λ p h.
          let there : slice_get (map f (positions whole)) (number_of d p) ≡ Some (f p) = slice_get-map f (positions whole) (number_of d p) ∙ ap (option_map f) (ap (slice_get (positions whole)) (sym (number_whole d p)) ∙ position_at whole p (inside p h)) in
          ap (λ (cs : List Cell). slice_get cs (number_in w p)) made ∙ slice_get-map f (positions w) (number_in w p) ∙ ap (option_map f) (position_at w p h)
          ∙ ap Some (sym (get_or_from_slice_get (map f (positions whole)) (number_of d p) (f p) Empty there)));
      undamaged = λ p h. none_contained (number_of d p);
    }

-- ---- the shape

pos_below : (a b : ℕ) → a < b → pos a <ℤ pos b
pos_below a b h = omega (arith, ints, h)

far : (a : ℕ) → a ≤ 10240 → (neg_ℤ (pos farthest_coordinate) ≤ℤ pos a) × (pos a ≤ℤ pos farthest_coordinate)
far a h = (omega (arith, ints, h), omega (arith, ints, h))

label_made : (f : ℕ → ℤ) (side i : ℕ) (a : ℤ) → slice_get (map f (range_with_len 0 side)) i ≡ Some a → (i < side) × (a ≡ f i)
label_made f side i a e =
    let found = value_at f (range_with_len 0 side) i a e in
    let number = range-slice_get 0 side i found.0 found.1 in
    let same : found.0 ≡ i = omega (arith, number.1) in
    (number.0, sym found.2 ∙ ap f same)

x_rising : (side : ℕ) → IsRising (rising_labels side)
x_rising side i j a b before e f =
    let first = label_made (λ k. pos (10 * k)) side i a e in
    let second = label_made (λ k. pos (10 * k)) side j b f in
    subst (λ (z : ℤ). z <ℤ b) (sym first.1) (subst (λ (z : ℤ). pos (10 * i) <ℤ z) (sym second.1) (pos_below (10 * i) (10 * j) (omega (arith, before))))

y_falling : (side : ℕ) → IsFalling (falling_labels side)
y_falling side i j a b before e f =
    let first = label_made (λ k. pos (10 * (side - 1 - k))) side i a e in
    let second = label_made (λ k. pos (10 * (side - 1 - k))) side j b f in
    subst (λ (z : ℤ). b <ℤ z) (sym first.1) (subst (λ (z : ℤ). z <ℤ pos (10 * (side - 1 - i))) (sym second.1) (pos_below (10 * (side - 1 - j)) (10 * (side - 1 - i)) (omega (arith, before, second.0))))

x_between : (side : ℕ) → side ≤ 1024 → IsBetween (neg_ℤ (pos farthest_coordinate)) (pos farthest_coordinate) (rising_labels side)
x_between side most i a e =
    let made = label_made (λ k. pos (10 * k)) side i a e in
    subst (λ (z : ℤ). (neg_ℤ (pos farthest_coordinate) ≤ℤ z) × (z ≤ℤ pos farthest_coordinate)) (sym made.1) (far (10 * i) (omega (arith, made.0, most)))

y_between : (side : ℕ) → side ≤ 1024 → IsBetween (neg_ℤ (pos farthest_coordinate)) (pos farthest_coordinate) (falling_labels side)
y_between side most i a e =
    let made = label_made (λ k. pos (10 * (side - 1 - k))) side i a e in
    subst (λ (z : ℤ). (neg_ℤ (pos farthest_coordinate) ≤ℤ z) × (z ≤ℤ pos farthest_coordinate)) (sym made.1) (far (10 * (side - 1 - i)) (omega (arith, made.0, most)))

label_number : (f : ℕ → ℤ) (side : ℕ) → length (map f (range_with_len 0 side)) ≡ side
label_number f side = length-map (range_with_len 0 side) f ∙ length-range_with_len 0 side

pub is_generated_shape : (side : ℕ) → side ≤ 1024 → IsShape (generated_shape side)
is_generated_shape side most = IsShape-KeepsEveryRule (generated_shape side) keeps
  where
    keeps : (fault : ShapeFault) → KeepsRule (generated_shape side) fault
    keeps (OrderWrong Time) = IsRising-rises generated_days refl
    keeps (OrderWrong Bands) = IsWithoutTwice-all_differ (codes "B1" ∷ codes "B2" ∷ []) refl
    keeps (OrderWrong Y) = y_falling side
    keeps (OrderWrong X) = x_rising side
    keeps (OutOfRange Time) = IsBetween-all_between first_instant last_instant generated_days refl
    keeps (OutOfRange Bands) = AreNames-list_all (codes "B1" ∷ codes "B2" ∷ []) refl
    keeps (OutOfRange Y) = y_between side most
    keeps (OutOfRange X) = x_between side most
    keeps (TooMany Time) = omega arith
    keeps (TooMany Bands) = omega arith
    keeps (TooMany Y) = omega (arith, label_number (λ i. pos (10 * (side - 1 - i))) side, most)
    keeps (TooMany X) = omega (arith, label_number (λ i. pos (10 * i)) side, most)
    keeps EpsgWrong = refl
    keeps TooManyCells =
        let y : extent (generated_shape side).y ≤ 1024 = omega (arith, label_number (λ i. pos (10 * (side - 1 - i))) side, most) in
        let x : extent (generated_shape side).x ≤ 1024 = omega (arith, label_number (λ i. pos (10 * i)) side, most) in
        let plane : 8 * extent (generated_shape side).y ≤ 8192 = omega (arith, y) in
        let all = mul-le (8 * extent (generated_shape side).y) (extent (generated_shape side).x) 8192 1024 plane x in
        omega (arith, all)

-- one label more
pub labels_more : (f : ℕ → ℤ) (k : ℕ) (old new : List ℤ) (z : ℤ) → old ≡ map f (range_with_len 0 k) → new ≡ old ++ z ∷ [] → z ≡ f k → new ≡ map f (range_with_len 0 (k + 1))
labels_more f k old new z before pushed is =
    let start : 0 + k ≡ k = omega arith in
    pushed ∙ ap (λ (xs : List ℤ). xs ++ z ∷ []) before ∙ ap (λ (v : ℤ). map f (range_with_len 0 k) ++ v ∷ []) is
    ∙ sym (map-range_with_len_more f 0 k k start)

abbrev pub shape_with : List ℤ → List (List ℕ) → List ℤ → List ℤ → Dimensions
shape_with t bands y x = record { epsg = 32633; t = Some t; bands = Some bands; y = Some y; x = Some x }

pub shape_made : (side : ℕ) (t : List ℤ) (bands : List (List ℕ)) (y x : List ℤ) → t ≡ generated_days → bands ≡ codes "B1" ∷ codes "B2" ∷ [] → y ≡ falling_labels side → x ≡ rising_labels side → shape_with t bands y x ≡ generated_shape side
shape_made side t bands y x t_is bands_are y_is x_is =
    ap (λ (v : List ℤ). shape_with v bands y x) t_is ∙ ap (λ (v : List (List ℕ)). shape_with generated_days v y x) bands_are
    ∙ ap (λ (v : List ℤ). shape_with generated_days (codes "B1" ∷ codes "B2" ∷ []) v x) y_is
    ∙ ap (shape_with generated_days (codes "B1" ∷ codes "B2" ∷ []) (falling_labels side)) x_is

-- the shape breaks no rule
pub no_fault_found : (side : ℕ) (d : Dimensions) (fault : ShapeFault) → side ≤ 1024 → d ≡ generated_shape side → Some fault ≡ shape_fault d → ⊥
no_fault_found side d fault most same found =
    not_both (shape_fault d) found (subst IsShape (sym same) (is_generated_shape side most))
  where
    not_both : (o : Option ShapeFault) → Some fault ≡ o → o ≡ None → ⊥
    not_both None e f = cc
    not_both (Some other) e f = cc
