-- A row that is laid out, and the rows of a window.
use Rattle.std.proofs.Common.{◌≡◌, ◌≢◌, ℕ, zero, suc, ◌+◌, ◌-◌, ◌*◌, ◌/◌, ◌%◌, ◌<◌, ◌≤◌, ◌==◌, if◌then◌else◌, false, List, ◌++◌, length, get_or, replicate, Option, Some, None, refl, sym, ap, ◌∙◌, subst, arith}
use Rattle.std.specs.List.{All, range_with_len, slice_get}
use Rattle.std.specs.Option.{option_map}
use Rattle.std.proofs.lemmas.Bool.Decides.{nat_tests}
use Rattle.std.proofs.lemmas.Nat.{div-add-mod', div-mul-add, mod_below, mul-add-lt}
use Rattle.std.proofs.lemmas.Option.{same_Some, slice_get-map, slice_get_within, get_or_from_slice_get, slice_get-get_or}
use Rattle.oe_cell.specs.Cells.{IsCell}
use Rattle.oe_cell.specs.Record.{record_of, records_of}
use Rattle.oe_cell.specs.declared.cell.Cell.{Cell}
use Rattle.oe_cell.specs.declared.cell.Cell.TheVariants.{Empty, Over}
use Rattle.oe_dims.specs.Cube.{Cube}
use Rattle.oe_dims.specs.Dimensions.{Dimensions}
use Rattle.oe_dims.specs.Positions.{Position, number_of}
use Rattle.oe_outside.specs.Stored.{StaysOutside, StoreHolds}
use Rattle.oe_spool.specs.Least.{IsLeastOver, least_over_of}
use Rattle.oe_spool.specs.Spooled.{ChangesOnly, HoldsRecords, IsRecordByte}
use Rattle.oe_spool.proofs.KeptLemmas.{kept_outside}
use Rattle.oe_spool.proofs.LeastOnWindow.{first_on_window, none_on_window, over_within}
use Rattle.oe_spool.proofs.RunRecords.{store_record_within}
use Rattle.oe_window.specs.Cells.{cell_at, cells_on}
use Rattle.oe_window.specs.Parts.{row_count, row_of}
use Rattle.oe_window.specs.Runs.{AreRising, window_numbers}
use Rattle.oe_window.specs.Windows.{Holds, IsAlong, IsIn, number_in, position_count, positions, span_at, span_length, whole_window}
use Rattle.oe_window.specs.declared.window.Span.{Span}
use Rattle.oe_window.specs.declared.window.Window.{Window}
use Rattle.oe_window.proofs.CellLemmas.{cells_on-at, is_cells_on}
use Rattle.oe_window.proofs.ChunkLemmas.{number_digits}
use Rattle.oe_window.proofs.PartLemmas.{row_part, row_of_size}
use Rattle.oe_window.proofs.RangeLemmas.{slice_get-range}
use Rattle.oe_window.proofs.WholeLemmas.{number_in_below, position_in}
use Rattle.oe_window.proofs.WindowLemmas.{position_at}
use Rattle.oe_parts.specs.Laid.{AreLaid, HaveRecords, IsInFirst}
use Rattle.oe_parts.specs.Rows.{HasNumbersFrom}
use Rattle.oe_parts.proofs.LaidLemmas.{AreApart}
use Rattle.oe_parts.proofs.ShownLemmas.{position_of}

-- ---- the numbers of a row

-- the record with an index among those from a number on
place : (base n first j : ℕ) → n ≡ first + j → base + 17 * first + 17 * j ≡ base + 17 * n
place base n first j e = omega (arith, e)

-- the number of a position of a row
number_is : (d : Dimensions) (w : Window) (first : ℕ) (p : Position) → HasNumbersFrom d w first → IsIn w p → number_of d p ≡ first + number_in w p
number_is d w first p numbers inside =
    let i = number_in w p in
    let at : slice_get (window_numbers d w) i ≡ Some (number_of d p) = slice_get-map (number_of d) (positions w) i ∙ ap (option_map (number_of d)) (position_at w p inside) in
    let there : slice_get (window_numbers d w) i ≡ Some (first + i) = ap (λ (ns : List ℕ). slice_get ns i) numbers ∙ slice_get-range first (position_count w) i (number_in_below w p inside) in
    same_Some (number_of d p) (first + i) (sym at ∙ there)

-- ---- of a cube with these cells

pub row_held : (store : Option (List ℕ)) (base first : ℕ) (cube : Cube Cell) (w : Window) (cells : List Cell) → HasNumbersFrom cube.shape w first → cells_on Empty cube w ≡ cells → StoreHolds store (base + 17 * first) (records_of cells) → HoldsRecords store base cube (IsIn w)
row_held store base first cube w cells numbers same held p inside =
    let i = number_in w p in
    let cell : slice_get cells i ≡ Some (cell_at Empty cube p) = ap (λ (cs : List Cell). slice_get cs i) (sym same) ∙ cells_on-at Empty cube w p inside in
    subst (λ (n : ℕ). StoreHolds store n (record_of (cell_at Empty cube p))) (place base (number_of cube.shape p) first i (number_is cube.shape w first p numbers inside))
    (store_record_within store (base + 17 * first) cells i (cell_at Empty cube p) cell held)

row_cells : (cube : Cube Cell) (w : Window) (cells : List Cell) → cells_on Empty cube w ≡ cells → All IsCell cells → (p : Position) → IsIn w p → IsCell (cell_at Empty cube p)
row_cells cube w cells same valid p inside =
    let i = number_in w p in
    let cell : slice_get cells i ≡ Some (cell_at Empty cube p) = ap (λ (cs : List Cell). slice_get cs i) (sym same) ∙ cells_on-at Empty cube w p inside in
    let below = slice_get_within cells i (cell_at Empty cube p) cell in
    subst IsCell (get_or_from_slice_get cells i (cell_at Empty cube p) Empty cell) (valid i Empty below)

pub row_laid : (store : Option (List ℕ)) (base first : ℕ) (cube : Cube Cell) (w : Window) (cells : List Cell) (least : Option ℕ) → HasNumbersFrom cube.shape w first → cells_on Empty cube w ≡ cells → All IsCell cells → StoreHolds store (base + 17 * first) (records_of cells) → IsLeastOver cube (IsIn w) least → AreLaid store base cube (IsIn w) least
row_laid store base first cube w cells least numbers same valid held found = record {
  valid = row_cells cube w cells same valid;
  held = row_held store base first cube w cells numbers same held;
  least_is = found;
}

-- a byte of the records of a row is one of the record with some index
byte_index : (k start count : ℕ) → start ≤ k → k < start + 17 * count → (j : ℕ) × (j < count) × (start + 17 * j ≤ k) × (k < start + 17 * j + 17)
byte_index k start count low high =
    let j = (k - start) / 17 in
    let some : 0 < 17 = omega arith in
    let split = div-add-mod' (k - start) 17 in
    let below = mod_below (k - start) 17 some in
    (j, omega (arith, low, high, split, below), omega (arith, low, split, below), omega (arith, low, split, below))

row_byte : (base first : ℕ) (d : Dimensions) (w : Window) → HasNumbersFrom d w first → (k : ℕ) → base + 17 * first ≤ k → k < base + 17 * first + 17 * position_count w → IsRecordByte base d (IsIn w) k
row_byte base first d w numbers k low high =
    let at = byte_index k (base + 17 * first) (position_count w) low high in
    let found = position_of d w first at.0 numbers at.1 in
    let here = place base (number_of d found.0) first at.0 found.1.number_is in
    record {
      p = found.0;
      inside = found.1.inside;
      begun = subst (λ (n : ℕ). n ≤ k) here at.2;
      before = subst (λ (n : ℕ). k < n + 17) here at.3;
    }

-- a row changes only its records
pub row_changes : (before after : Option (List ℕ)) (base first : ℕ) (d : Dimensions) (w : Window) → HasNumbersFrom d w first → StaysOutside before (base + 17 * first) (17 * position_count w) after → ChangesOnly base d (IsIn w) before after
row_changes before after base first d w numbers outside =
    kept_outside (IsRecordByte base d (IsIn w)) (base + 17 * first) (17 * position_count w) before after (row_byte base first d w numbers) outside

-- ---- of some cube with these cells

past : (n i : ℕ) (xs : List Cell) → get_or (replicate n Empty ++ xs) (n + i) Empty ≡ get_or xs i Empty
past zero i xs = let same : 0 + i ≡ i = omega arith in ap (λ (k : ℕ). get_or xs k Empty) same
past (suc n) i xs =
    let same : suc n + i ≡ suc (n + i) = omega arith in
    ap (λ (k : ℕ). get_or (replicate (suc n) Empty ++ xs) k Empty) same ∙ past n i xs

abbrev cube_with : Dimensions → ℕ → List Cell → Cube Cell
cube_with d first cells = record { shape = d; cells = replicate first Empty ++ cells }

cube_has : (d : Dimensions) (w : Window) (first : ℕ) (cells : List Cell) → HasNumbersFrom d w first → length cells ≡ position_count w → cells_on Empty (cube_with d first cells) w ≡ cells
cube_has d w first cells numbers long =
    sym (is_cells_on Empty (cube_with d first cells) w cells long (λ p inside.
    (let i = number_in w p in
    let below : i < length cells = subst (λ (m : ℕ). i < m) (sym long) (number_in_below w p inside) in
    let here : slice_get cells i ≡ Some (get_or cells i Empty) = slice_get-get_or cells i Empty below in
    let there : cell_at Empty (cube_with d first cells) p ≡ get_or cells i Empty = ap (λ (k : ℕ). get_or (replicate first Empty ++ cells) k Empty) (number_is d w first p numbers inside) ∙ past first i cells in
    here ∙ ap Some (sym there))))

no_over : (cube : Cube Cell) (positions : Position → Type 0) (least : Option ℕ) (p : Position) → IsLeastOver cube positions least → positions p → least ≡ None → cell_at Empty cube p ≢ Over
no_over cube positions None p h inside e = h p inside
no_over cube positions (Some n) p h inside e = absurd cc

pub row_have : (store : Option (List ℕ)) (base first : ℕ) (d : Dimensions) (w : Window) (cells : List Cell) (least : Option ℕ) → HasNumbersFrom d w first → length cells ≡ position_count w → All IsCell cells → StoreHolds store (base + 17 * first) (records_of cells)
    → ((cube : Cube Cell) → cube.shape ≡ d → cells_on Empty cube w ≡ cells → IsLeastOver cube (IsIn w) least) → HaveRecords store base d (IsIn w) least
row_have store base first d w cells least numbers long valid held found p inside =
    let cube = cube_with d first cells in
    let has = cube_has d w first cells numbers long in
    let i = number_in w p in
    let below : i < length cells = subst (λ (m : ℕ). i < m) (sym long) (number_in_below w p inside) in
    let cell : slice_get cells i ≡ Some (cell_at Empty cube p) = ap (λ (cs : List Cell). slice_get cs i) (sym has) ∙ cells_on-at Empty cube w p inside in
    let this : get_or cells i Empty ≡ cell_at Empty cube p = get_or_from_slice_get cells i (cell_at Empty cube p) Empty cell in (
      cell_at Empty cube p,
      subst IsCell this (valid i Empty below),
      row_held store base first cube w cells numbers has held p inside,
      no_over cube (IsIn w) least p (found cube refl has) inside,
    )

-- ---- the least number of one that is Over

rising_range : (a n : ℕ) → AreRising (range_with_len a n)
rising_range a zero = tt
rising_range a (suc zero) = tt
rising_range a (suc (suc n)) = (omega arith, rising_range (a + 1) (suc n))

-- in a row it is that of the first one
pub row_over : (d : Dimensions) (w : Window) (first : ℕ) (cells : List Cell) (found least : Option ℕ) → HasNumbersFrom d w first → length cells ≡ position_count w → least_over_of cells ≡ found → least ≡ option_map (λ index. first + index) found
    → (cube : Cube Cell) → cube.shape ≡ d → cells_on Empty cube w ≡ cells → IsLeastOver cube (IsIn w) least
row_over d w first cells None least numbers long at is cube same these =
    subst (IsLeastOver cube (IsIn w)) (sym is) (none_on_window d w cells at cube same these)
row_over d w first cells (Some index) least numbers long at is cube same these =
    let below : index < position_count w = subst (λ (m : ℕ). index < m) long (over_within cells index at) in
    let number : slice_get (window_numbers d w) index ≡ Some (first + index) = ap (λ (ns : List ℕ). slice_get ns index) numbers ∙ slice_get-range first (position_count w) index below in
    let rising : AreRising (window_numbers d w) = subst AreRising (sym numbers) (rising_range first (position_count w)) in
    subst (IsLeastOver cube (IsIn w)) (sym is) (first_on_window d w cells index (first + index) rising at number cube same these)

-- ---- the rows of a window

abbrev pub rows_of : Window → ℕ → Position → Type 0
rows_of w n = IsIn (row_of w n)

pub rows_apart : (d : Dimensions) (w : Window) → Holds (whole_window d) w → AreApart d (rows_of w) (row_count w)
rows_apart d w within = record {
  inside = λ k p below inside. position_in d p (within p ((row_part w k below).inside p inside));
  once = λ a b p below_a below_b in_a in_b. row_once w a b p below_a below_b in_a in_b;
}
  where
    row_number : (w : Window) (k : ℕ) (p : Position) → k < row_count w → IsIn (row_of w k) p → number_in w p / span_length w.x ≡ k
    row_number w k p below inside =
        let len = span_length w.x in
        let j = number_in (row_of w k) p in
        let short : j < len = subst (λ (m : ℕ). j < m) (row_of_size w k) (number_in_below (row_of w k) p inside) in
        ap (λ (n : ℕ). n / len) ((row_part w k below).numbered p inside) ∙ div-mul-add k len j short

    row_once : (w : Window) (a b : ℕ) (p : Position) → a < row_count w → b < row_count w → IsIn (row_of w a) p → IsIn (row_of w b) p → a ≡ b
    row_once w a b p below_a below_b in_a in_b = sym (row_number w a p below_a in_a) ∙ row_number w b p below_b in_b

-- an index of a span, by its steps from the first one
step_below : (s : Span) (i : ℕ) → IsAlong s i → i - s.from < span_length s
step_below s i along = let begun = along.begun in let before = along.before in omega arith

one_along : (s : Span) (i step : ℕ) → IsAlong s i → i - s.from ≡ step → IsAlong (span_at (s.from + step)) i
one_along s i step along same = let begun = along.begun in record { begun = omega arith; before = omega arith }

row_number_below : (t b y times bands rows : ℕ) → t < times → b < bands → y < rows → (t * bands + b) * rows + y < times * bands * rows
row_number_below t b y times bands rows below_t below_b below_y =
    let plane : t * bands + b < bands * times = mul-add-lt t bands b times below_t below_b in
    let all : (t * bands + b) * rows + y < rows * (bands * times) = mul-add-lt (t * bands + b) rows y (bands * times) plane below_y in
    let turned : rows * (bands * times) ≡ times * bands * rows = omega arith in
    subst (λ (n : ℕ). (t * bands + b) * rows + y < n) turned all

below_if : (count rows n k : ℕ) → k < count → n < rows → n < (if count == 0 then 0 else rows)
below_if count rows n k some below = let is : count == 0 ≡ false = grind (arith, nat_tests) in rw is below

-- each position of the window is one of a row
pub row_there : (w : Window) (p : Position) → IsIn w p → IsInFirst (rows_of w) (row_count w) p
row_there w p h =
    let t = p.t - w.t.from in
    let b = p.band - w.bands.from in
    let y = p.y - w.y.from in
    let bands = span_length w.bands in
    let rows = span_length w.y in
    let n = (t * bands + b) * rows + y in
    let short_t = step_below w.t p.t h.t in
    let short_b = step_below w.bands p.band h.bands in
    let short_y = step_below w.y p.y h.y in
    let digits = number_digits t b y bands rows n short_b short_y refl in (
      n,
      below_if (position_count w) (span_length w.t * bands * rows) n (number_in w p) (number_in_below w p h) (row_number_below t b y (span_length w.t) bands rows short_t short_b short_y),
      record {
        t = one_along w.t p.t (n / rows / bands) h.t digits.0;
        bands = one_along w.bands p.band (n / rows % bands) h.bands digits.1;
        y = one_along w.y p.y (n % rows) h.y digits.2;
        x = h.x;
      },
    )

pub row_back : (w : Window) (p : Position) → IsInFirst (rows_of w) (row_count w) p → IsIn w p
row_back w p h = (row_part w h.0 h.1).inside p h.2
