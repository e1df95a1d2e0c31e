-- Which part decides about a tuple, and its cells and its damage there.
use Rattle.std.proofs.Common.{◌≡◌, ℕ, zero, suc, ◌<◌, ◌==◌, ◌||◌, Bool, true, false, cond, List, [], ◌∷◌, length, is_some, Option, Some, None, IfSome, refl, sym, ap, ◌∙◌, arith}
use Rattle.std.specs.List.{Contains, find, list_any, slice_get}
use Rattle.std.specs.Option.{option_map_or}
use Rattle.std.proofs.lemmas.Bool.Decides.{nat_tests}
use Rattle.std.proofs.lemmas.Bool.{and_parts}
use Rattle.std.proofs.Math.Bool.{or-true}
use Rattle.oe_cell.specs.declared.cell.Cell.TheVariants.{Empty}
use Rattle.oe_dims.specs.Cube.{Tuple, row_major}
use Rattle.oe_mosaic.specs.Mosaics.{Part, are_visible, cell_in, deciding_part, has_tuple, is_damaged_at, is_damaged_in, mosaic_cell}

-- no part has the tuple
pub none_decides : (parts : List Part) (tuple : Tuple)
    → ((k : ℕ) → k < length parts → IfSome (slice_get parts k) (λ (part : Part). row_major part.shape tuple ≡ None))
    → deciding_part parts tuple ≡ None
none_decides [] tuple h = refl
none_decides (part ∷ parts) tuple h =
    let here : row_major part.shape tuple ≡ None = h 0 (omega arith) in
    let absent : has_tuple tuple part ≡ false = ap is_some here in
    ap (λ (b : Bool). cond b (Some part) (find (has_tuple tuple) parts)) absent
    ∙ none_decides parts tuple (λ k below. h (suc k) (omega (arith, below)))

-- the part of a place has it, and none before it
pub first_decides : (parts : List Part) (k n : ℕ) (part : Part) (tuple : Tuple)
    → slice_get parts k ≡ Some part
    → ((j : ℕ) → j < k → IfSome (slice_get parts j) (λ (other : Part). row_major other.shape tuple ≡ None))
    → row_major part.shape tuple ≡ Some n
    → deciding_part parts tuple ≡ Some part
first_decides [] k n part tuple stands before there = cc
first_decides (first ∷ parts) zero n part tuple stands before there =
    let same : has_tuple tuple first ≡ has_tuple tuple part = ap (λ (o : Option Part). option_map_or (has_tuple tuple) o false) stands in
    let present : has_tuple tuple first ≡ true = same ∙ ap is_some there in
    ap (λ (b : Bool). cond b (Some first) (find (has_tuple tuple) parts)) present ∙ stands
first_decides (first ∷ parts) (suc k) n part tuple stands before there =
    let here : row_major first.shape tuple ≡ None = before 0 (omega arith) in
    let absent : has_tuple tuple first ≡ false = ap is_some here in
    ap (λ (b : Bool). cond b (Some first) (find (has_tuple tuple) parts)) absent
    ∙ first_decides parts k n part tuple stands (λ j below. before (suc j) (omega (arith, below))) there

pub cell_none : (parts : List Part) (tuple : Tuple) → deciding_part parts tuple ≡ None → mosaic_cell parts tuple ≡ Empty
cell_none parts tuple h = ap (λ (o : Option Part). option_map_or (cell_in tuple) o Empty) h

pub cell_some : (parts : List Part) (tuple : Tuple) (part : Part) → deciding_part parts tuple ≡ Some part → mosaic_cell parts tuple ≡ cell_in tuple part
cell_some parts tuple part h = ap (λ (o : Option Part). option_map_or (cell_in tuple) o Empty) h

pub damage_none : (parts : List Part) (tuple : Tuple) → deciding_part parts tuple ≡ None → is_damaged_at parts tuple ≡ false
damage_none parts tuple h = ap (λ (o : Option Part). option_map_or (is_damaged_in tuple) o false) h

pub damage_some : (parts : List Part) (tuple : Tuple) (part : Part) → deciding_part parts tuple ≡ Some part → is_damaged_at parts tuple ≡ is_damaged_in tuple part
damage_some parts tuple part h = ap (λ (o : Option Part). option_map_or (is_damaged_in tuple) o false) h

-- ---- the contents of a part are visible where those of all are

pub one_visible : (parts : List Part) (k : ℕ) (part : Part) → slice_get parts k ≡ Some part → are_visible parts ≡ true → is_some part.contents ≡ true
one_visible [] k part stands all = cc
one_visible (first ∷ parts) zero part stands all =
    ap (λ (o : Option Part). option_map_or (λ (p : Part). is_some p.contents) o true) (sym stands)
    ∙ (and_parts (is_some first.contents) (are_visible parts) all).0
one_visible (first ∷ parts) (suc k) part stands all =
    one_visible parts k part stands (and_parts (is_some first.contents) (are_visible parts) all).1

-- ---- damage of a part

eq_true : (m n : ℕ) → m ≡ n → (m == n) ≡ true
eq_true m n h = grind (arith, nat_tests, h)

eq_false : (m n : ℕ) → ¬ (m ≡ n) → (m == n) ≡ false
eq_false m n h = grind (arith, nat_tests, h)

pub is_listed : (numbers : List ℕ) (n : ℕ) → Contains numbers n → list_any (λ other. other == n) numbers ≡ true
is_listed [] n (k, below, here) = absurd (omega (arith, below))
is_listed (m ∷ numbers) n (zero, below, here) = ap (λ (b : Bool). b || list_any (λ other. other == n) numbers) (eq_true m n here)
is_listed (m ∷ numbers) n (suc k, below, here) =
    ap (λ (b : Bool). (m == n) || b) (is_listed numbers n (k, omega (arith, below), here)) ∙ or-true (m == n)

pub not_listed : (numbers : List ℕ) (n : ℕ) → ¬ Contains numbers n → list_any (λ other. other == n) numbers ≡ false
not_listed [] n h = refl
not_listed (m ∷ numbers) n h =
    ap (λ (b : Bool). b || list_any (λ other. other == n) numbers) (eq_false m n (λ same. h (0, omega arith, same)))
    ∙ not_listed numbers n (λ c. h (suc c.0, omega (arith, c.1), c.2))
