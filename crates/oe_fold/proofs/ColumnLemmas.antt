-- Columns, one row more.
use Rattle.std.proofs.Common.{◌≡◌, ℕ, ◌+◌, ◌-◌, ◌*◌, ◌<◌, ◌≤◌, Bool, inl, inr, ltb, sym, subst, ap, ◌∙◌, List, [], ◌∷◌, ◌++◌, length, get_or, arith}
use Rattle.std.specs.List.{All, slice_range}
use Rattle.std.proofs.Math.Nat.{mul-le-mul_right}
use Rattle.std.proofs.lemmas.List.{get_or-take, get_or-drop, length-take-le}
use Rattle.std.proofs.Math.ListN.{drop}
use Rattle.std.proofs.Common.{length-drop}
use Rattle.std.proofs.lemmas.Bool.{cases_Bool}
use Rattle.std.proofs.lemmas.Bool.Decides.{Decides-ltb, nat_tests}
use Rattle.std.proofs.lemmas.List.FromFn.{map-range_with_len_more, length-map-range_with_len}
use Rattle.std.proofs.lemmas.List.Elements.{All-push}
use Rattle.oe_cell.specs.Cells.{IsCell}
use Rattle.oe_cell.specs.declared.cell.Cell.{Cell}
use Rattle.oe_cell.specs.declared.cell.Cell.TheVariants.{Empty}
use Rattle.oe_fold.specs.Columns.{column}
use Rattle.oe_fold.specs.Progress.{step_of, IsTallyOf}
use Rattle.oe_fold.specs.declared.reducer.Reducer.{Reducer}
use Rattle.oe_fold.specs.declared.tally.Tally.{Tally}
use Rattle.oe_fold.proofs.TallyLemmas.{IsTallyOf-push, count-step_of}

-- a column of `count` rows has as many cells
pub length-column : (cells : List Cell) (stride count k : ℕ) → length (column cells stride count k) ≡ count
length-column cells stride count k = length-map-range_with_len (λ t. get_or cells (t * stride + k) Empty) 0 count

-- one row more is one cell more
pub column-more : (cells : List Cell) (stride t k : ℕ) → column cells stride (t + 1) k ≡ column cells stride t k ++ get_or cells (t * stride + k) Empty ∷ []
column-more cells stride t k = map-range_with_len_more (λ t. get_or cells (t * stride + k) Empty) 0 t t (omega arith)

-- a tally of a column, after the cell of its next row
pub IsTallyOf-column : (r : Reducer) (skips : Bool) (cells : List Cell) (stride t k : ℕ) (x : Cell) (p q : Tally) → x ≡ get_or cells (t * stride + k) Empty → q ≡ step_of r skips p x → IsTallyOf r skips (column cells stride t k) p → IsTallyOf r skips (column cells stride (t + 1) k) q
IsTallyOf-column r skips cells stride t k x p q e f s =
    subst (λ (ys : List Cell). IsTallyOf r skips ys q) (ap (λ (y : Cell). column cells stride t k ++ y ∷ []) e ∙ sym (column-more cells stride t k)) (subst (λ (v : Tally). IsTallyOf r skips (column cells stride t k ++ x ∷ []) v) (sym f) (IsTallyOf-push r skips (column cells stride t k) x p s))

-- what each cell of the next row is, each cell of the column is
pub All-column : (P : Cell → Type 0) (cells : List Cell) (stride t k : ℕ) → All P (column cells stride t k) → P (get_or cells (t * stride + k) Empty) → All P (column cells stride (t + 1) k)
All-column P cells stride t k all p =
    subst (λ (ys : List Cell). All P ys) (sym (column-more cells stride t k)) (All-push P (column cells stride t k) _ all p)

-- what holds of each number below one, and of those that follow up to another, holds of each below their sum
pub below_both : (P : ℕ → Type 0) (from n : ℕ) → ((k : ℕ) → k < from → P k) → ((k : ℕ) → k < n → P (from + k)) → (k : ℕ) → k < from + n → P k
below_both P from n before after k h = elim (cases_Bool (ltb k from)) [
  | inl e ↦ before k ((Decides-ltb k from).0 e)
  | inr e ↦
      let past : from ≤ k = grind (arith, nat_tests) in
      let within : k - from < n = omega arith in
      let same : from + (k - from) ≡ k = omega arith in
      subst P same (after (k - from) within)
]

-- each row has a cell for as many columns as the last one
pub row_ends : (t count stride m n : ℕ) → t < count → count * stride + m ≤ n + stride → t * stride + m ≤ n
row_ends t count stride m n h e =
    let upto : t + 1 ≤ count = omega arith in
    let rows : (t + 1) * stride ≤ count * stride = mul-le-mul_right stride upto in
    let next : (t + 1) * stride ≡ t * stride + stride = omega arith in
    omega (arith, rows, next, e)

pub row_within : (t count stride k n : ℕ) → t < count → count * stride + k < n + stride → t * stride + k < n
row_within t count stride k n h e =
    let ends : count * stride + (k + 1) ≤ n + stride = omega arith in
    let low : t * stride + (k + 1) ≤ n = row_ends t count stride (k + 1) n h ends in
    omega arith

-- a part of a list, cell by cell
get_or-slice_range : (xs : List Cell) (from end j : ℕ) (d : Cell) → j < end - from → get_or (slice_range xs from end) j d ≡ get_or xs (from + j) d
get_or-slice_range xs from end j d h = get_or-take (end - from) (drop from xs) j d h ∙ get_or-drop from xs j d

length-slice_range : (xs : List Cell) (from n : ℕ) → from + n ≤ length xs → length (slice_range xs from (from + n)) ≡ n
length-slice_range xs from n h =
    let long : length (drop from xs) ≡ length xs - from = length-drop from xs in
    let within : from + n - from ≤ length (drop from xs) = omega arith in
    let same : from + n - from ≡ n = omega arith in
    length-take-le (from + n - from) (drop from xs) within ∙ same

-- ---- a row of `n` columns from `from` on

module _ (cells : List Cell) (stride t from n : ℕ) (within : t * stride + from + n ≤ length cells) where
  pub length-row : length (slice_range cells (t * stride + from) (t * stride + from + n)) ≡ n
  length-row = length-slice_range cells (t * stride + from) n within

  pub get_or-row : (k : ℕ) → k < n → get_or (slice_range cells (t * stride + from) (t * stride + from + n)) k Empty ≡ get_or cells (t * stride + (from + k)) Empty
  get_or-row k h =
      let below : k < t * stride + from + n - (t * stride + from) = omega arith in
      let at : t * stride + from + k ≡ t * stride + (from + k) = omega arith in
      get_or-slice_range cells (t * stride + from) (t * stride + from + n) k Empty below ∙ ap (λ (i : ℕ). get_or cells i Empty) at

  -- the tallies after the row
  pub tally_after_row : (r : Reducer) (skips : Bool) (k : ℕ) (p q : Tally) → k < n → q ≡ step_of r skips p (get_or (slice_range cells (t * stride + from) (t * stride + from + n)) k Empty) → IsTallyOf r skips (column cells stride t (from + k)) p → IsTallyOf r skips (column cells stride (t + 1) (from + k)) q
  tally_after_row r skips k p q h e s = IsTallyOf-column r skips cells stride t (from + k) _ p q (get_or-row k h) e s

  pub known_after_row : (k : ℕ) → k < n → All IsCell (slice_range cells (t * stride + from) (t * stride + from + n)) → All IsCell (column cells stride t (from + k)) → All IsCell (column cells stride (t + 1) (from + k))
  known_after_row k h all known =
      let in_row : k < length (slice_range cells (t * stride + from) (t * stride + from + n)) = subst (λ (m : ℕ). k < m) (sym length-row) h in
      All-column IsCell cells stride t (from + k) known (subst (λ (x : Cell). IsCell x) (get_or-row k h) (all k Empty in_row))

  pub count_after_row : (r : Reducer) (skips : Bool) (p q : Tally) (x : Cell) → q ≡ step_of r skips p x → p.count ≤ t → q.count ≤ t + 1
  count_after_row r skips p q x e few =
      let grown : (step_of r skips p x).count ≤ p.count + 1 = count-step_of r skips x p in
      let counted : q.count ≤ p.count + 1 = subst (λ (v : Tally). v.count ≤ p.count + 1) (sym e) grown in
      omega arith
