-- The least number of a cell that is Over, by parts.
use Rattle.std.proofs.Common.{◌≡◌, ◌≢◌, ℕ, zero, suc, ◌+◌, ◌<◌, ◌≤◌, ◌⊎◌, inl, inr, min, true, List, [], ◌∷◌, ◌++◌, length, get_or, Option, Some, None, refl, ap, sym, ◌∙◌, subst, arith}
use Rattle.std.specs.Option.{option_map}
use Rattle.std.proofs.lemmas.Bool.{cases_lt}
use Rattle.oe_cell.specs.Kinds.{is_over}
use Rattle.oe_cell.specs.declared.cell.Cell.{Cell}
use Rattle.oe_cell.specs.declared.cell.Cell.TheVariants.{Empty, Flag, Number, Over}
use Rattle.oe_dims.specs.Cube.{Cube, IsCube}
use Rattle.oe_dims.specs.Dimensions.{cell_count}
use Rattle.oe_dims.specs.Positions.{Position, IsPosition, number_of}
use Rattle.oe_dims.proofs.CubeLemmas.{number_below, position_there}
use Rattle.oe_spool.specs.Least.{IsFirstOver, IsLeastOver, least_of_first, least_over_of, lesser_of}
use Rattle.oe_spool.specs.Spooled.{IsInSome}
use Rattle.oe_spool.proofs.CubeRecords.{cells_counted, chunk_inside, chunk_there}
use Rattle.oe_spool.proofs.KeptLemmas.{in_either, in_first, in_second}
use Rattle.oe_window.specs.Cells.{cell_at}
use Rattle.oe_window.specs.Chunks.{Tiling, IsTiling, tiling_of, chunk_count, chunk_window}
use Rattle.oe_window.specs.Windows.{IsIn}
use Rattle.oe_window.specs.declared.grid.ChunkSize.{ChunkSize}
use Rattle.oe_window.specs.declared.window.Window.{Window}

-- ---- two sets of positions

neither : (cube : Cube Cell) (a b : Position → Type 0) → IsLeastOver cube a None → IsLeastOver cube b None → (p : Position) → a p ⊎ b p → cell_at Empty cube p ≢ Over
neither cube a b x y p (inl h) = x p h
neither cube a b x y p (inr h) = y p h

-- nothing lower in a set without one that is Over
least_left : (cube : Cube Cell) (a b : Position → Type 0) (m : ℕ) → IsFirstOver cube a m → ((q : Position) → b q → cell_at Empty cube q ≡ Over → m ≤ number_of cube.shape q) → (q : Position) → a q ⊎ b q → cell_at Empty cube q ≡ Over → m ≤ number_of cube.shape q
least_left cube a b m x low q (inl h) e = x.least q h e
least_left cube a b m x low q (inr h) e = low q h e

least_right : (cube : Cube Cell) (a b : Position → Type 0) (n : ℕ) → IsFirstOver cube b n → ((q : Position) → a q → cell_at Empty cube q ≡ Over → n ≤ number_of cube.shape q) → (q : Position) → a q ⊎ b q → cell_at Empty cube q ≡ Over → n ≤ number_of cube.shape q
least_right cube a b n x low q (inl h) e = low q h e
least_right cube a b n x low q (inr h) e = x.least q h e

first_left : (cube : Cube Cell) (a b : Position → Type 0) (m : ℕ) → IsFirstOver cube a m → ((q : Position) → b q → cell_at Empty cube q ≡ Over → m ≤ number_of cube.shape q) → IsFirstOver cube (λ p. a p ⊎ b p) m
first_left cube a b m x low = record { p = x.p; inside = inl x.inside; over = x.over; number_is = x.number_is; least = least_left cube a b m x low }

first_right : (cube : Cube Cell) (a b : Position → Type 0) (n : ℕ) → IsFirstOver cube b n → ((q : Position) → a q → cell_at Empty cube q ≡ Over → n ≤ number_of cube.shape q) → IsFirstOver cube (λ p. a p ⊎ b p) n
first_right cube a b n x low = record { p = x.p; inside = inr x.inside; over = x.over; number_is = x.number_is; least = least_right cube a b n x low }

pub least_of_both : (cube : Cube Cell) (a b : Position → Type 0) (m n : Option ℕ) → IsLeastOver cube a m → IsLeastOver cube b n → IsLeastOver cube (λ p. a p ⊎ b p) (lesser_of m n)
least_of_both cube a b None None x y = neither cube a b x y
least_of_both cube a b None (Some n) x y = first_right cube a b n y (λ q h e. absurd (x q h e))
least_of_both cube a b (Some m) None x y = first_left cube a b m x (λ q h e. absurd (y q h e))
least_of_both cube a b (Some m) (Some n) x y =
    elim (cases_lt m n) [
      | inl lt ↦ let low : min m n ≡ m = omega arith in
          rw low (first_left cube a b m x (λ q h e. (let l = y.least q h e in omega arith)))
      | inr ge ↦ let low : min m n ≡ n = omega arith in
          rw low (first_right cube a b n y (λ q h e. (let l = x.least q h e in omega arith)))
    ]

pub least_of_same : (cube : Cube Cell) (a b : Position → Type 0) (m : Option ℕ) → ((p : Position) → a p → b p) → ((p : Position) → b p → a p) → IsLeastOver cube a m → IsLeastOver cube b m
least_of_same cube a b None into back x = λ p h. x p (back p h)
least_of_same cube a b (Some m) into back x = record {
  p = x.p;
  inside = into x.p x.inside;
  over = x.over;
  number_is = x.number_is;
  least = λ q h e. x.least q (back q h) e;
}

-- ---- all positions

pub over_is : (c : Cell) → is_over c ≡ true → c ≡ Over
over_is Over e = refl
over_is Empty e = cc
over_is (Flag b) e = cc
over_is (Number q) e = cc

pub is_over_at : (c : Cell) → c ≡ Over → is_over c ≡ true
is_over_at c e = ap is_over e

found_later : (cs : List Cell) (m : ℕ) → Some m ≡ least_over_of cs → Some (suc m) ≡ option_map (λ n. n + 1) (least_over_of cs)
found_later cs m e = let next : suc m ≡ m + 1 = omega arith in ap Some next ∙ ap (option_map (λ n. n + 1)) e

-- a first index is the one that a search finds
pub found_first : (cells : List Cell) (m : ℕ) → m < length cells → get_or cells m Empty ≡ Over → ((k : ℕ) → k < length cells → get_or cells k Empty ≡ Over → m ≤ k) → Some m ≡ least_over_of cells
found_first [] m lt e low = absurd (omega arith)
found_first (c ∷ cs) zero lt e low = let yes : is_over c ≡ true = is_over_at c e in rw yes refl
found_first (Over ∷ cs) (suc m) lt e low = let l = low 0 (omega arith) refl in absurd (omega arith)
found_first (Empty ∷ cs) (suc m) lt e low = found_later cs m (found_first cs m (omega arith) e (λ k h o. (let l = low (suc k) (omega arith) o in omega arith)))
found_first (Flag b ∷ cs) (suc m) lt e low = found_later cs m (found_first cs m (omega arith) e (λ k h o. (let l = low (suc k) (omega arith) o in omega arith)))
found_first (Number q ∷ cs) (suc m) lt e low = found_later cs m (found_first cs m (omega arith) e (λ k h o. (let l = low (suc k) (omega arith) o in omega arith)))

pub found_none : (cells : List Cell) → ((k : ℕ) → k < length cells → get_or cells k Empty ≢ Over) → None ≡ least_over_of cells
found_none [] h = refl
found_none (Over ∷ cs) h = absurd (h 0 (omega arith) refl)
found_none (Empty ∷ cs) h = ap (option_map (λ n. n + 1)) (found_none cs (λ k l. h (suc k) (omega arith)))
found_none (Flag b ∷ cs) h = ap (option_map (λ n. n + 1)) (found_none cs (λ k l. h (suc k) (omega arith)))
found_none (Number q ∷ cs) h = ap (option_map (λ n. n + 1)) (found_none cs (λ k l. h (suc k) (omega arith)))

pub least_of_all : (cube : Cube Cell) (m : Option ℕ) → IsCube cube → IsLeastOver cube (IsPosition cube.shape) m → m ≡ least_over_of cube.cells
least_of_all cube None whole x =
    let counted = cells_counted cube whole in
    found_none cube.cells (λ k h e.
    (let found = position_there cube.shape k (omega arith) in
    x found.0 found.1.inside (ap (λ n. get_or cube.cells n Empty) found.1.number_is ∙ e)))
least_of_all cube (Some m) whole x =
    let counted = cells_counted cube whole in
    let below : number_of cube.shape x.p < cell_count cube.shape = number_below cube.shape x.p x.inside in
    let here = x.number_is in
    found_first cube.cells m (omega arith) (ap (λ n. get_or cube.cells n Empty) (sym x.number_is) ∙ x.over) (λ k h e.
    (let found = position_there cube.shape k (omega arith) in
    let number = found.1.number_is in
    let low = x.least found.0 found.1.inside (ap (λ n. get_or cube.cells n Empty) found.1.number_is ∙ e) in
    omega arith))

-- ---- windows and chunks

in_one : (window : Window) (p : Position) → IsInSome (window ∷ []) p → IsIn window p
in_one window p (inl h) = h
in_one window p (inr h) = absurd h

in_list : (xs ys : List Window) (p : Position) → IsInSome xs p ⊎ IsInSome ys p → IsInSome (xs ++ ys) p
in_list xs ys p (inl h) = in_first xs ys p h
in_list xs ys p (inr h) = in_second xs ys p h

pub least_of_one : (cube : Cube Cell) (window : Window) (m : Option ℕ) → IsLeastOver cube (IsIn window) m → IsLeastOver cube (IsInSome (window ∷ [])) m
least_of_one cube window m x =
    least_of_same cube (IsIn window) (IsInSome (window ∷ [])) m (λ p h. inl h) (λ p h. in_one window p h) x

pub least_of_lists : (cube : Cube Cell) (xs ys : List Window) (m n : Option ℕ) → IsLeastOver cube (IsInSome xs) m → IsLeastOver cube (IsInSome ys) n → IsLeastOver cube (IsInSome (xs ++ ys)) (lesser_of m n)
least_of_lists cube xs ys m n x y =
    least_of_same cube (λ p. IsInSome xs p ⊎ IsInSome ys p) (IsInSome (xs ++ ys)) (lesser_of m n) (in_list xs ys) (in_either xs ys)
    (least_of_both cube (IsInSome xs) (IsInSome ys) m n x y)

pub least_of_windows : (cube : Cube Cell) (windows : List Window) (m : Option ℕ) → IsCube cube → ((p : Position) → IsInSome windows p → IsPosition cube.shape p) → ((p : Position) → IsPosition cube.shape p → IsInSome windows p) → IsLeastOver cube (IsInSome windows) m → m ≡ least_over_of cube.cells
least_of_windows cube windows m whole into back x =
    least_of_all cube m whole (least_of_same cube (IsInSome windows) (IsPosition cube.shape) m into back x)

-- a position of one of the first chunks
abbrev IsInFirst : Tiling → ℕ → Position → Type 0
IsInFirst g n p = (k : ℕ) × (k < n) × IsIn (chunk_window g k) p

first_or_next : (g : Tiling) (n : ℕ) (p : Position) → IsInFirst g n p ⊎ IsIn (chunk_window g n) p → IsInFirst g (suc n) p
first_or_next g n p (inl h) = (h.0, omega (arith, h.1), h.2)
first_or_next g n p (inr h) = (n, omega arith, h)

next_or_first : (g : Tiling) (n : ℕ) (p : Position) → IsInFirst g (suc n) p → IsInFirst g n p ⊎ IsIn (chunk_window g n) p
next_or_first g n p h = elim (cases_lt h.0 n) [
  | inl lt ↦ inl (h.0, lt, h.2)
  | inr ge ↦ let last : h.0 ≡ n = omega (arith, h.1) in inr (subst (λ k. IsIn (chunk_window g k) p) last h.2)
]

pub least_of_first_chunks : (cube : Cube Cell) (g : Tiling) (found : ℕ → Option ℕ) (n : ℕ) → ((k : ℕ) → k < n → IsLeastOver cube (IsIn (chunk_window g k)) (found k)) → IsLeastOver cube (IsInFirst g n) (least_of_first found n)
least_of_first_chunks cube g found zero each = λ p h. absurd (omega (arith, h.1))
least_of_first_chunks cube g found (suc n) each =
    least_of_same cube (λ p. IsInFirst g n p ⊎ IsIn (chunk_window g n) p) (IsInFirst g (suc n)) (lesser_of (least_of_first found n) (found n)) (first_or_next g n) (next_or_first g n)
    (least_of_both cube (IsInFirst g n) (IsIn (chunk_window g n)) (least_of_first found n) (found n)
    (least_of_first_chunks cube g found n (λ k h. each k (omega arith))) (each n (omega arith)))

pub least_of_chunks : (cube : Cube Cell) (size : ChunkSize) (found : ℕ → Option ℕ) → IsCube cube → IsTiling (tiling_of cube.shape size) → ((k : ℕ) → k < chunk_count (tiling_of cube.shape size) → IsLeastOver cube (IsIn (chunk_window (tiling_of cube.shape size) k)) (found k)) → least_of_first found (chunk_count (tiling_of cube.shape size)) ≡ least_over_of cube.cells
least_of_chunks cube size found whole tiling each =
    let d = cube.shape in
    let g = tiling_of d size in
    let n = chunk_count g in
    least_of_all cube (least_of_first found n) whole
    (least_of_same cube (IsInFirst g n) (IsPosition d) (least_of_first found n) (λ p h. chunk_inside d size h.0 p tiling h.2) (λ p h. chunk_there d size p tiling h)
    (least_of_first_chunks cube g found n each))

-- there is no least number of either where there is none of both
pub none_first : (a b : Option ℕ) → lesser_of a b ≡ None → a ≡ None
none_first None b e = refl
none_first (Some a) None e = cc
none_first (Some a) (Some b) e = cc

pub none_second : (a b : Option ℕ) → lesser_of a b ≡ None → b ≡ None
none_second None b e = e
none_second (Some a) None e = cc
none_second (Some a) (Some b) e = cc
