-- A cube that has given cells on a window, and what holds of cells on one.
use Rattle.std.proofs.Common.{◌≡◌, ◌≢◌, ℕ, ◌<◌, ◌==◌, true, false, List, length, map, get_or, unwrap_or, Some, refl, sym, ap, ◌∙◌, arith, ◌-◌, subst}
use Rattle.std.specs.List.{All, range_with_len, slice_get}
use Rattle.std.specs.Option.{option_map}
use Rattle.std.proofs.lemmas.Bool.{eqb-false, eqb-true, false_from_ne_true, true_from_ne_false}
use Rattle.std.proofs.lemmas.List.FromFn.{get_or-map-range_with_len}
use Rattle.std.proofs.lemmas.Option.{get_or_from_slice_get, slice_get-get_or, slice_get-map, slice_get_within}
use Rattle.oe_cell.specs.declared.cell.Cell.{Cell}
use Rattle.oe_cell.specs.declared.cell.Cell.TheVariants.{Empty}
use Rattle.oe_dims.specs.Cube.{Cube}
use Rattle.oe_dims.specs.Dimensions.{Dimensions, cell_count}
use Rattle.oe_dims.specs.Indices.{index_where}
use Rattle.oe_dims.specs.Positions.{Position, number_of}
use Rattle.oe_dims.proofs.CubeLemmas.{number_below, position_alone}
use Rattle.oe_dims.proofs.FlatMapLemmas.{value_at}
use Rattle.oe_dims.proofs.IndexLemmas.{index_where_found}
use Rattle.oe_window.specs.Cells.{cell_at, cells_on}
use Rattle.oe_window.specs.Runs.{window_numbers}
use Rattle.oe_window.specs.Windows.{Holds, IsIn, number_in, position_count, positions, whole_window}
use Rattle.oe_window.specs.declared.window.Window.{Window}
use Rattle.oe_window.proofs.CellLemmas.{cells_on-get, is_cells_on, length-cells_on}
use Rattle.oe_window.proofs.WholeLemmas.{number_in_below, position_in}
use Rattle.oe_window.proofs.WindowLemmas.{position_at, position_number}

same_number : (n : ℕ) → n == n ≡ true
same_number n = true_from_ne_false (n == n) (λ e. eqb-false n n e refl)

module _ (d : Dimensions) (w : Window) (within : Holds (whole_window d) w) (cells : List Cell) (many : length cells ≡ position_count w) where
  abbrev cell_numbered : ℕ → Cell
  cell_numbered number = get_or cells (unwrap_or (index_where (λ n. n == number) (window_numbers d w)) 0) Empty

  abbrev given : Cube Cell
  given = record { shape = d; cells = map cell_numbered (range_with_len 0 (cell_count d)) }

  number_there : (q : Position) → IsIn w q → slice_get (window_numbers d w) (number_in w q) ≡ Some (number_of d q)
  number_there q h = slice_get-map (number_of d) (positions w) (number_in w q) ∙ ap (option_map (number_of d)) (position_at w q h)

  -- no position before it has its number
  others : (q : Position) → IsIn w q → (k : ℕ) → k < number_in w q → get_or (window_numbers d w) k 0 == number_of d q ≡ false
  others q h k before =
      let there = slice_get_within (window_numbers d w) (number_in w q) (number_of d q) (number_there q h) in
      let at_k = slice_get-get_or (window_numbers d w) k 0 (omega arith) in
      let found = value_at (number_of d) (positions w) k (get_or (window_numbers d w) k 0) at_k in
      let here = position_number w k found.0 found.1 in
      let other : get_or (window_numbers d w) k 0 ≢ number_of d q = λ e.
      (let one = position_alone d found.0 q (position_in d found.0 (within found.0 here.0)) (position_in d q (within q h)) (found.2 ∙ e) in
      let same : k ≡ number_in w q = here.1 ∙ ap (number_in w) one in
      omega arith) in
      false_from_ne_true (get_or (window_numbers d w) k 0 == number_of d q) (λ e.
      other (eqb-true (get_or (window_numbers d w) k 0) (number_of d q) e))

  number_first : (q : Position) → IsIn w q → index_where (λ n. n == number_of d q) (window_numbers d w) ≡ Some (number_in w q)
  number_first q h =
      let there = number_there q h in
      let here = get_or_from_slice_get (window_numbers d w) (number_in w q) (number_of d q) 0 there in
      index_where_found (λ n. n == number_of d q) (window_numbers d w) (number_in w q) 0
      (slice_get_within (window_numbers d w) (number_in w q) (number_of d q) there) (others q h)
      (ap (λ n. n == number_of d q) here ∙ same_number (number_of d q))

  cell_is : (q : Position) → IsIn w q → cell_at Empty given q ≡ get_or cells (number_in w q) Empty
  cell_is q h =
      get_or-map-range_with_len cell_numbered 0 (cell_count d) (number_of d q) (number_of d q) Empty
      (number_below d q (position_in d q (within q h))) (omega arith)
      ∙ ap (λ found. get_or cells (unwrap_or found 0) Empty) (number_first q h)

  on_window : cells_on Empty given w ≡ cells
  on_window = sym (is_cells_on Empty given w cells many (λ q h.
      (let below = number_in_below w q h in
      slice_get-get_or cells (number_in w q) Empty (omega arith) ∙ ap Some (sym (cell_is q h)))))

  pub given_cube : (cube : Cube Cell) × (cube.shape ≡ d) × (cells_on Empty cube w ≡ cells)
  given_cube = (given, refl, on_window)

-- what holds of each cell on a window holds of the cell at a position of it
pub cell_of_window : (P : Cell → Type 0) (cube : Cube Cell) (w : Window) (q : Position) → IsIn w q → All P (cells_on Empty cube w)
    → P (cell_at Empty cube q)
cell_of_window P cube w q h each =
    let below = number_in_below w q h in
    let many = length-cells_on Empty cube w in
    subst P (cells_on-get Empty cube w q Empty h) (each (number_in w q) Empty (omega arith))
