-- The chunks of a part, one behind the other.
use Rattle.std.proofs.Common.{◌≡◌, ℕ, zero, suc, ◌+◌, ◌<◌, ◌≤◌, inl, inr, List, [], ◌∷◌, ◌++◌, map, refl, sym, subst, ap, ◌∙◌, arith}
use Rattle.std.specs.List.{range_with_len}
use Rattle.std.proofs.lemmas.Bool.{cases_lt}
use Rattle.std.proofs.lemmas.Grind.{flat_map-append}
use Rattle.std.proofs.lemmas.List.{append-nil}
use Rattle.oe_cell.specs.Record.{record_of, records_of}
use Rattle.oe_cell.specs.declared.cell.Cell.{Cell}
use Rattle.oe_cell.specs.declared.cell.Cell.TheVariants.{Empty}
use Rattle.oe_dims.specs.Cube.{Cube}
use Rattle.oe_dims.specs.Positions.{Position}
use Rattle.oe_spool.specs.Spooled.{IsInSome}
use Rattle.oe_window.specs.Cells.{cells_on}
use Rattle.oe_window.specs.Windows.{IsIn}
use Rattle.oe_window.specs.declared.window.Window.{Window}
use Rattle.oe_parts.specs.PartFile.{cells_on_all}

map_more : (f : ℕ → Window) (a n : ℕ) → map f (range_with_len a (suc n)) ≡ map f (range_with_len a n) ++ f (a + n) ∷ []
map_more f a zero = let same : a + 0 ≡ a = omega arith in ap (λ (k : ℕ). f k ∷ []) (sym same)
map_more f a (suc n) =
    let same : a + 1 + n ≡ a + suc n = omega arith in
    ap (λ (ws : List Window). f a ∷ ws) (map_more f (a + 1) n ∙ ap (λ (k : ℕ). map f (range_with_len (a + 1) n) ++ f k ∷ []) same)

-- the records of one more chunk follow those of the chunks before
pub chunks_more : (cube : Cube Cell) (f : ℕ → Window) (a n : ℕ) → records_of (cells_on_all cube (map f (range_with_len a (suc n)))) ≡ records_of (cells_on_all cube (map f (range_with_len a n))) ++ records_of (cells_on Empty cube (f (a + n)))
chunks_more cube f a n =
    let before = map f (range_with_len a n) in
    let one : cells_on_all cube (f (a + n) ∷ []) ≡ cells_on Empty cube (f (a + n)) = append-nil (cells_on Empty cube (f (a + n))) in
    ap (λ (ws : List Window). records_of (cells_on_all cube ws)) (map_more f a n)
    ∙ ap records_of (flat_map-append (cells_on Empty cube) before (f (a + n) ∷ []) ∙ ap (λ (cs : List Cell). cells_on_all cube before ++ cs) one)
    ∙ flat_map-append record_of (cells_on_all cube before) (cells_on Empty cube (f (a + n)))

-- a position of a chunk of the range is one of the range's chunks
pub in_range : (f : ℕ → Window) (a n k : ℕ) (p : Position) → a ≤ k → k < a + n → IsIn (f k) p → IsInSome (map f (range_with_len a n)) p
in_range f a zero k p low high inside = absurd (omega (arith, low, high))
in_range f a (suc n) k p low high inside = elim (cases_lt a k) [
  | inl lt ↦ inr (in_range f (a + 1) n k p (omega (arith, lt)) (omega (arith, high)) inside)
  | inr ge ↦ (let same : k ≡ a = omega (arith, ge, low) in inl (subst (λ (m : ℕ). IsIn (f m) p) same inside))
]

-- ---- the chunks before and behind

range_add : (a m n : ℕ) → range_with_len a (m + n) ≡ range_with_len a m ++ range_with_len (a + m) n
range_add a zero n =
    let none : 0 + n ≡ n = omega arith in
    let same : a + 0 ≡ a = omega arith in
    ap (range_with_len a) none ∙ ap (λ (k : ℕ). range_with_len k n) (sym same)
range_add a (suc m) n =
    let more : suc m + n ≡ suc (m + n) = omega arith in
    let same : a + 1 + m ≡ a + suc m = omega arith in
    ap (range_with_len a) more
    ∙ ap (λ (ks : List ℕ). a ∷ ks) (range_add (a + 1) m n ∙ ap (λ (k : ℕ). range_with_len (a + 1) m ++ range_with_len k n) same)

map_append : (f : ℕ → Window) (xs ys : List ℕ) → map f (xs ++ ys) ≡ map f xs ++ map f ys
map_append f [] ys = refl
map_append f (x ∷ xs) ys = ap (λ (ws : List Window). f x ∷ ws) (map_append f xs ys)

pub chunks_rest : (cube : Cube Cell) (f : ℕ → Window) (a m n : ℕ) → records_of (cells_on_all cube (map f (range_with_len a (m + n))))
    ≡ records_of (cells_on_all cube (map f (range_with_len a m))) ++ records_of (cells_on_all cube (map f (range_with_len (a + m) n)))
chunks_rest cube f a m n =
    ap (λ (ks : List ℕ). records_of (cells_on_all cube (map f ks))) (range_add a m n)
    ∙ ap (λ (ws : List Window). records_of (cells_on_all cube ws)) (map_append f (range_with_len a m) (range_with_len (a + m) n))
    ∙ ap records_of (flat_map-append (cells_on Empty cube) (map f (range_with_len a m)) (map f (range_with_len (a + m) n)))
    ∙ flat_map-append record_of (cells_on_all cube (map f (range_with_len a m))) (cells_on_all cube (map f (range_with_len (a + m) n)))
