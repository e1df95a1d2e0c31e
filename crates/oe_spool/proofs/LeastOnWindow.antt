-- The first cell of a window that is Over has the least number, since numbers rise along a window's positions.
use Rattle.std.proofs.Common.{◌≡◌, ◌≢◌, ℕ, zero, suc, ◌+◌, ◌<◌, ◌≤◌, inl, inr, List, [], ◌∷◌, length, Option, Some, None, refl, ap, sym, ◌∙◌, subst, arith}
use Rattle.std.specs.List.{slice_get}
use Rattle.std.specs.Option.{option_map}
use Rattle.std.proofs.lemmas.Bool.{cases_lt}
use Rattle.std.proofs.lemmas.Option.{same_Some, slice_get-map, slice_get_within}
use Rattle.oe_cell.specs.declared.cell.Cell.{Cell}
use Rattle.oe_cell.specs.declared.cell.Cell.TheVariants.{Empty, Flag, Number, Over}
use Rattle.oe_dims.specs.Cube.{Cube}
use Rattle.oe_dims.specs.Dimensions.{Dimensions}
use Rattle.oe_dims.specs.Positions.{Position, number_of}
use Rattle.oe_dims.proofs.FlatMapLemmas.{value_at}
use Rattle.oe_spool.specs.Least.{IsFirstOver, least_over_of}
use Rattle.oe_window.specs.Cells.{cell_at, cells_on}
use Rattle.oe_window.specs.Runs.{window_numbers, AreRising}
use Rattle.oe_window.specs.Windows.{IsIn, positions, number_in}
use Rattle.oe_window.specs.declared.window.Window.{Window}
use Rattle.oe_window.proofs.CellLemmas.{cells_on-at}
use Rattle.oe_window.proofs.VisitLemmas.{rising_below}
use Rattle.oe_window.proofs.WindowLemmas.{position_at, position_number}

-- ---- what a search finds

next_of : (o : Option ℕ) (i : ℕ) → option_map (λ n. n + 1) o ≡ Some (suc i) → o ≡ Some i
next_of None i e = cc
next_of (Some n) i e = let same = same_Some (n + 1) (suc i) e in let less : n ≡ i = omega arith in ap Some less

none_next : (o : Option ℕ) → option_map (λ n. n + 1) o ≡ None → o ≡ None
none_next None e = refl
none_next (Some n) e = cc

not_first : (o : Option ℕ) → option_map (λ n. n + 1) o ≡ Some 0 → ⊥
not_first None e = cc
not_first (Some n) e = let same = same_Some (n + 1) 0 e in omega arith

-- the cell that it finds is Over
found_over : (cells : List Cell) (i : ℕ) → least_over_of cells ≡ Some i → slice_get cells i ≡ Some Over
found_over [] i e = cc
found_over (Over ∷ cs) zero e = refl
found_over (Over ∷ cs) (suc i) e = let same = same_Some 0 (suc i) e in absurd (omega arith)
found_over (Empty ∷ cs) zero e = absurd (not_first (least_over_of cs) e)
found_over (Empty ∷ cs) (suc i) e = found_over cs i (next_of (least_over_of cs) i e)
found_over (Flag b ∷ cs) zero e = absurd (not_first (least_over_of cs) e)
found_over (Flag b ∷ cs) (suc i) e = found_over cs i (next_of (least_over_of cs) i e)
found_over (Number q ∷ cs) zero e = absurd (not_first (least_over_of cs) e)
found_over (Number q ∷ cs) (suc i) e = found_over cs i (next_of (least_over_of cs) i e)

-- and none before it is
found_least : (cells : List Cell) (i j : ℕ) → least_over_of cells ≡ Some i → slice_get cells j ≡ Some Over → i ≤ j
found_least [] i j e o = cc
found_least (Over ∷ cs) i j e o = let same = same_Some 0 i e in omega arith
found_least (Empty ∷ cs) i zero e o = cc
found_least (Empty ∷ cs) zero (suc j) e o = omega arith
found_least (Empty ∷ cs) (suc i) (suc j) e o = let less = found_least cs i j (next_of (least_over_of cs) i e) o in omega arith
found_least (Flag b ∷ cs) i zero e o = cc
found_least (Flag b ∷ cs) zero (suc j) e o = omega arith
found_least (Flag b ∷ cs) (suc i) (suc j) e o = let less = found_least cs i j (next_of (least_over_of cs) i e) o in omega arith
found_least (Number q ∷ cs) i zero e o = cc
found_least (Number q ∷ cs) zero (suc j) e o = omega arith
found_least (Number q ∷ cs) (suc i) (suc j) e o = let less = found_least cs i j (next_of (least_over_of cs) i e) o in omega arith

found_nowhere : (cells : List Cell) (j : ℕ) → least_over_of cells ≡ None → slice_get cells j ≡ Some Over → ⊥
found_nowhere [] j e o = cc
found_nowhere (Over ∷ cs) j e o = cc
found_nowhere (Empty ∷ cs) zero e o = cc
found_nowhere (Empty ∷ cs) (suc j) e o = found_nowhere cs j (none_next (least_over_of cs) e) o
found_nowhere (Flag b ∷ cs) zero e o = cc
found_nowhere (Flag b ∷ cs) (suc j) e o = found_nowhere cs j (none_next (least_over_of cs) e) o
found_nowhere (Number q ∷ cs) zero e o = cc
found_nowhere (Number q ∷ cs) (suc j) e o = found_nowhere cs j (none_next (least_over_of cs) e) o

pub over_within : (cells : List Cell) (i : ℕ) → least_over_of cells ≡ Some i → i < length cells
over_within cells i e = slice_get_within cells i Over (found_over cells i e)

-- ---- on a window

cell_there : (cube : Cube Cell) (w : Window) (cells : List Cell) (p : Position) → cells_on Empty cube w ≡ cells → IsIn w p → slice_get cells (number_in w p) ≡ Some (cell_at Empty cube p)
cell_there cube w cells p same h = ap (λ cs. slice_get cs (number_in w p)) (sym same) ∙ cells_on-at Empty cube w p h

pub none_on_window : (d : Dimensions) (w : Window) (cells : List Cell) → least_over_of cells ≡ None → (cube : Cube Cell) → cube.shape ≡ d → cells_on Empty cube w ≡ cells → (p : Position) → IsIn w p → cell_at Empty cube p ≢ Over
none_on_window d w cells e cube of_shape same p h over =
    found_nowhere cells (number_in w p) e (cell_there cube w cells p same h ∙ ap Some over)

number_there : (d : Dimensions) (w : Window) (p : Position) → IsIn w p → slice_get (window_numbers d w) (number_in w p) ≡ Some (number_of d p)
number_there d w p h = slice_get-map (number_of d) (positions w) (number_in w p) ∙ ap (option_map (number_of d)) (position_at w p h)

-- of two positions the one with the lower index has the lower number
in_order : (numbers : List ℕ) (i j a b : ℕ) → AreRising numbers → i ≤ j → slice_get numbers i ≡ Some a → slice_get numbers j ≡ Some b → a ≤ b
in_order numbers i j a b rising le e f = elim (cases_lt i j) [
  | inl lt ↦ (let below = rising_below numbers i j a b rising lt e f in omega arith)
  | inr ge ↦ (let one : i ≡ j = omega arith in
      let same = same_Some a b (sym e ∙ ap (slice_get numbers) one ∙ f) in
      omega arith)
]

pub first_on_window : (d : Dimensions) (w : Window) (cells : List Cell) (i number : ℕ) → AreRising (window_numbers d w) → least_over_of cells ≡ Some i → slice_get (window_numbers d w) i ≡ Some number → (cube : Cube Cell) → cube.shape ≡ d → cells_on Empty cube w ≡ cells → IsFirstOver cube (IsIn w) number
first_on_window d w cells i number rising e at_i cube of_shape same =
    let found = value_at (number_of d) (positions w) i number at_i in
    let p = found.0 in
    let here = position_number w i p found.1 in
    let is_over : cell_at Empty cube p ≡ Over = same_Some (cell_at Empty cube p) Over (sym (cell_there cube w cells p same here.0) ∙ ap (slice_get cells) (sym here.1) ∙ found_over cells i e) in
    record {
      p = p;
      inside = here.0;
      over = is_over;
      number_is = ap (λ s. number_of s p) of_shape ∙ found.2;
      least = λ q h over. (
          let less = found_least cells i (number_in w q) e (cell_there cube w cells q same h ∙ ap Some over) in
          subst (λ s. number ≤ number_of s q) (sym of_shape)
          (in_order (window_numbers d w) i (number_in w q) number (number_of d q) rising less at_i (number_there d w q h)));
    }
