-- The records of a row's cells, from those of its positions.
use Rattle.std.proofs.Common.{◌≡◌, ℕ, ◌+◌, ◌-◌, ◌*◌, ◌<◌, ◌≤◌, inl, inr, List, [], ◌∷◌, ◌++◌, length, get_or, take, drop, Option, Some, refl, sym, ap, ◌∙◌, subst, arith}
use Rattle.std.specs.List.{All, slice_get}
use Rattle.std.specs.Option.{option_map}
use Rattle.std.proofs.Math.Seq.{take-add}
use Rattle.std.proofs.lemmas.Grind.{flat_map-append}
use Rattle.std.proofs.lemmas.List.{length-map, take_all}
use Rattle.std.proofs.lemmas.List.Elements.{All-append, All-nil}
use Rattle.std.proofs.lemmas.Option.{same_Some, slice_get-map, slice_get-get_or, get_or_from_slice_get}
use Rattle.oe_cell.specs.Cells.{IsCell}
use Rattle.oe_cell.specs.Record.{record_of, records_of}
use Rattle.oe_cell.specs.declared.cell.Cell.{Cell}
use Rattle.oe_cell.specs.declared.cell.Cell.TheVariants.{Empty}
use Rattle.oe_dims.specs.Cube.{Cube}
use Rattle.oe_dims.specs.Dimensions.{Dimensions, cell_count}
use Rattle.oe_dims.specs.Positions.{Position, number_of}
use Rattle.oe_dims.proofs.CubeLemmas.{number_below}
use Rattle.oe_outside.specs.Stored.{HoldsAt, StoreHolds}
use Rattle.oe_spool.specs.Spooled.{IsInSome}
use Rattle.oe_spool.proofs.CubeRecords.{records_held}
use Rattle.oe_window.specs.Cells.{cell_at, cells_on}
use Rattle.oe_window.specs.Parts.{row_count, row_of}
use Rattle.oe_window.specs.Runs.{window_numbers}
use Rattle.oe_window.specs.Windows.{Holds, IsIn, position_count, positions, span_length, whole_window}
use Rattle.oe_window.specs.declared.window.Window.{Window}
use Rattle.oe_window.proofs.CellLemmas.{length-cells_on, row_cells_are}
use Rattle.oe_window.proofs.PartLemmas.{row_part, row_of_size}
use Rattle.oe_window.proofs.RangeLemmas.{slice_get-range}
use Rattle.oe_window.proofs.WholeLemmas.{position_in}
use Rattle.oe_window.proofs.WindowLemmas.{length-positions, position_number}
use Rattle.oe_parts.specs.PartFile.{cells_on_all}
use Rattle.oe_parts.specs.Rows.{HasNumbersFrom, Shows}
use Rattle.oe_parts.specs.Spooled.{ShowsRecords}

-- ---- the position with an index among those of a window

abbrev nowhere : Position
nowhere = record { t = 0; band = 0; y = 0; x = 0 }

pub record IsAt (d : Dimensions) (w : Window) (first k : ℕ) (p : Position) : Type 0 where
  pub at : slice_get (positions w) k ≡ Some p
  pub inside : IsIn w p
  pub number_is : number_of d p ≡ first + k

-- it has the number that so many steps lead to
pub position_of : (d : Dimensions) (w : Window) (first k : ℕ) → HasNumbersFrom d w first → k < position_count w → (p : Position) × IsAt d w first k p
position_of d w first k numbers below =
    let p = get_or (positions w) k nowhere in
    let at : slice_get (positions w) k ≡ Some p = slice_get-get_or (positions w) k nowhere (omega (arith, below, length-positions w)) in
    let here : slice_get (window_numbers d w) k ≡ Some (number_of d p) = slice_get-map (number_of d) (positions w) k ∙ ap (option_map (number_of d)) at in
    let there : slice_get (window_numbers d w) k ≡ Some (first + k) = ap (λ (ns : List ℕ). slice_get ns k) numbers ∙ slice_get-range first (position_count w) k below in
    (p, record { at = at; inside = (position_number w k p at).0; number_is = same_Some (number_of d p) (first + k) (sym here ∙ there) })

-- and the last one is one of the shape
pub row_end : (d : Dimensions) (w : Window) (first : ℕ) → Holds (whole_window d) w → HasNumbersFrom d w first → 0 < position_count w → first + position_count w ≤ cell_count d
row_end d w first within numbers some =
    let last = position_count w - 1 in
    let found = position_of d w first last numbers (omega (arith, some)) in
    let number = found.1.number_is in
    let below = number_below d found.0 (position_in d found.0 (within found.0 found.1.inside)) in
    omega (arith, number, below, some)

pub cell_is : (cube : Cube Cell) (w : Window) (first k : ℕ) (p : Position) → IsAt cube.shape w first k p → slice_get (cells_on Empty cube w) k ≡ Some (cell_at Empty cube p)
cell_is cube w first k p at = slice_get-map (cell_at Empty cube) (positions w) k ∙ ap (option_map (cell_at Empty cube)) at.at

-- ---- records one behind the other

held_there : (store : Option (List ℕ)) (all : List ℕ) (at : ℕ) (bytes : List ℕ) → store ≡ Some all → StoreHolds store at bytes → HoldsAt all at bytes
held_there store all at bytes is held = subst (λ (o : Option (List ℕ)). StoreHolds o at bytes) is held

-- what a store shows of a row's positions it shows of its cells
pub row_shown : (store : Option (List ℕ)) (base first : ℕ) (cube : Cube Cell) (w : Window) → HasNumbersFrom cube.shape w first → ShowsRecords store base cube (IsIn w) → Shows store (base + 17 * first) (cells_on Empty cube w)
row_shown store base first cube w numbers shown = (
  shown.all,
  shown.visible,
  records_held shown.all (base + 17 * first) (cells_on Empty cube w) (λ k below.
      (let few : k < position_count w = omega (arith, below, length-cells_on Empty cube w) in
      let found = position_of cube.shape w first k numbers few in
      let p = found.0 in
      let here = held_there store shown.all (base + 17 * number_of cube.shape p) (record_of (cell_at Empty cube p)) shown.visible (shown.held p found.1.inside) in
      let number = found.1.number_is in
      let place : base + 17 * number_of cube.shape p ≡ base + 17 * first + 17 * k = omega (arith, number) in
      let cell : get_or (cells_on Empty cube w) k Empty ≡ cell_at Empty cube p = get_or_from_slice_get (cells_on Empty cube w) k (cell_at Empty cube p) Empty (cell_is cube w first k p found.1) in
      subst (λ (c : Cell). HoldsAt shown.all (base + 17 * first + 17 * k) (record_of c)) (sym cell)
      (subst (λ (n : ℕ). HoldsAt shown.all n (record_of (cell_at Empty cube p))) place here))),
)

-- valid cells at the positions of a window are valid cells on it
window_valid : (cube : Cube Cell) (w : Window) → ((p : Position) → IsIn w p → IsCell (cell_at Empty cube p)) → All IsCell (cells_on Empty cube w)
window_valid cube w each = λ k d below.
    (let few : k < length (positions w) = omega (arith, below, length-map (positions w) (cell_at Empty cube)) in
    let p = get_or (positions w) k nowhere in
    let at : slice_get (positions w) k ≡ Some p = slice_get-get_or (positions w) k nowhere few in
    let cell : get_or (cells_on Empty cube w) k d ≡ cell_at Empty cube p = get_or_from_slice_get (cells_on Empty cube w) k (cell_at Empty cube p) d (slice_get-map (cell_at Empty cube) (positions w) k ∙ ap (option_map (cell_at Empty cube)) at) in
    subst IsCell (sym cell) (each p (position_number w k p at).0))

pub row_valid : (store : Option (List ℕ)) (base : ℕ) (cube : Cube Cell) (w : Window) → ShowsRecords store base cube (IsIn w) → All IsCell (cells_on Empty cube w)
row_valid store base cube w shown = window_valid cube w shown.cells

-- and on several
pub windows_valid : (cube : Cube Cell) (windows : List Window) → ((p : Position) → IsInSome windows p → IsCell (cell_at Empty cube p)) → All IsCell (cells_on_all cube windows)
windows_valid cube [] each = All-nil IsCell
windows_valid cube (w ∷ windows) each =
    All-append IsCell (cells_on Empty cube w) (cells_on_all cube windows) (window_valid cube w (λ p h. each p (inl h))) (windows_valid cube windows (λ p h. each p (inr h)))

-- fewer positions
pub shown_fewer : (store : Option (List ℕ)) (base : ℕ) (cube : Cube Cell) (a b : Position → Type 0) → ((p : Position) → b p → a p) → ShowsRecords store base cube a → ShowsRecords store base cube b
shown_fewer store base cube a b less shown = record {
  all = shown.all;
  visible = shown.visible;
  held = λ p inside. shown.held p (less p inside);
  cells = λ p inside. shown.cells p (less p inside);
}

-- ---- row by row

-- the records of one more row follow those of the rows before
pub rows_more : (cube : Cube Cell) (w : Window) (n : ℕ) → n < row_count w → records_of (take ((n + 1) * span_length w.x) (cells_on Empty cube w)) ≡ records_of (take (n * span_length w.x) (cells_on Empty cube w)) ++ records_of (cells_on Empty cube (row_of w n))
rows_more cube w n below =
    let len = span_length w.x in
    let cells = cells_on Empty cube w in
    let both : (n + 1) * len ≡ n * len + len = omega arith in
    let less : n * len + len - n * len ≡ len = omega arith in
    let row : take len (drop (n * len) cells) ≡ cells_on Empty cube (row_of w n) = ap (λ (m : ℕ). take m (drop (n * len) cells)) (sym less) ∙ row_cells_are Empty cube w cells n below refl in
    ap (λ (m : ℕ). records_of (take m cells)) both
    ∙ ap records_of (take-add (n * len) len cells ∙ ap (λ (cs : List Cell). take (n * len) cells ++ cs) row)
    ∙ flat_map-append record_of (take (n * len) cells) (cells_on Empty cube (row_of w n))

pub rows_all : (cube : Cube Cell) (w : Window) (rows : ℕ) → rows * span_length w.x ≡ position_count w → take (rows * span_length w.x) (cells_on Empty cube w) ≡ cells_on Empty cube w
rows_all cube w rows all = take_all (rows * span_length w.x) (cells_on Empty cube w) (omega (arith, all, length-cells_on Empty cube w))

-- a row lies in its window
pub row_inside : (w : Window) (n : ℕ) → n < row_count w → (p : Position) → IsIn (row_of w n) p → IsIn w p
row_inside w n below p inside = (row_part w n below).inside p inside

-- a row has as many positions as the window has along x
pub row_size : (w row : Window) (n : ℕ) → row ≡ row_of w n → position_count row ≡ span_length w.x
row_size w row n is = ap position_count is ∙ row_of_size w n
