-- Lists over the positions of a window.
use Rattle.std.proofs.Common.{◌≡◌, ℕ, suc, List, [], ◌∷◌, length, map, refl, sym, ap, ◌∙◌, arith, Option, Some, None}
use Rattle.std.specs.List.{slice_get, slice_index_or}
use Rattle.std.specs.Option.{option_map}
use Rattle.std.proofs.lemmas.Option.{slice_get-map}
use Rattle.oe_cell.specs.declared.cell.Cell.{Cell}
use Rattle.oe_cell.specs.declared.cell.Cell.TheVariants.{Empty}
use Rattle.oe_dims.specs.Positions.{Position}
use Rattle.oe_dims.proofs.FlatMapLemmas.{same_gets}
use Rattle.oe_window.specs.Windows.{IsIn, positions}
use Rattle.oe_window.specs.declared.window.Window.{Window}
use Rattle.oe_window.proofs.WindowLemmas.{position_number}

agree_inside : (f g : Position → Cell) (o : Option Position) → ((p : Position) → o ≡ Some p → f p ≡ g p) → option_map f o ≡ option_map g o
agree_inside f g None h = refl
agree_inside f g (Some p) h = ap Some (h p refl)

-- two functions that agree on a window give one list
pub map-agree : (f g : Position → Cell) (w : Window) → ((p : Position) → IsIn w p → f p ≡ g p) → map f (positions w) ≡ map g (positions w)
map-agree f g w h =
    same_gets (map f (positions w)) (map g (positions w)) (λ k.
    slice_get-map f (positions w) k
    ∙ agree_inside f g (slice_get (positions w) k) (λ p e. h p (position_number w k p e).0)
    ∙ sym (slice_get-map g (positions w) k))

from_each : (f : Position → Cell) (ps : List Position) (cells : List Cell) → length cells ≡ length ps → ((k : ℕ) (p : Position) → slice_get ps k ≡ Some p → slice_index_or cells k Empty ≡ f p) → cells ≡ map f ps
from_each f [] [] long h = refl
from_each f [] (c ∷ cells) long h = absurd (omega arith)
from_each f (p ∷ ps) [] long h = absurd (omega arith)
from_each f (p ∷ ps) (c ∷ cells) long h =
    let first : c ≡ f p = h 0 p refl in
    let rest : cells ≡ map f ps = from_each f ps cells (omega arith) (λ k q e. h (suc k) q e) in
    rw (first, rest) refl

-- a list that has f of each position at its number is the list of f over the window
pub map-from_each : (f : Position → Cell) (w : Window) (cells : List Cell) → length cells ≡ length (positions w) → ((k : ℕ) (p : Position) → slice_get (positions w) k ≡ Some p → slice_index_or cells k Empty ≡ f p) → cells ≡ map f (positions w)
map-from_each f w cells long h = from_each f (positions w) cells long h

-- there is nothing on a window without positions
pub nothing_on : (cells : List Cell) (ps : List Position) (f : Position → Cell) → length cells ≡ 0 → length ps ≡ 0 → cells ≡ map f ps
nothing_on [] [] f h g = refl
nothing_on (c ∷ cells) ps f h g = absurd (omega arith)
nothing_on [] (p ∷ ps) f h g = absurd (omega arith)
