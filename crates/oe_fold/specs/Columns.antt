-- Columns of rows that stand a stride apart.
use Rattle.std.specs.Prelude.{◌≡◌, ℕ, ◌+◌, ◌*◌, ◌<◌, ◌≤◌, Bool, List, All, length, map}
use Rattle.std.specs.List.{slice_index_or, range_with_len}
use Rattle.oe_cell.specs.declared.cell.Cell.{Cell}
use Rattle.oe_cell.specs.declared.cell.Cell.TheVariants.{Empty}
use Rattle.oe_fold.specs.Value.{reduction_of}
use Rattle.oe_fold.specs.declared.reducer.Reducer.{Reducer}

-- column k of the first `count` rows, from the first row on: cells[k], cells[k + stride], cells[k + 2 stride] and so on
abbrev pub column : List Cell → ℕ → ℕ → ℕ → List Cell
column cells stride count k =
    map (λ t. slice_index_or cells (t * stride + k) Empty) (range_with_len 0 count)

-- cells have so many rows, of which each begins a stride, one cell at least, behind the one before it; the last row,
-- where there is one, has a cell for each of so many columns
pub record HasColumns (cells : List Cell) (stride count columns : ℕ) : Type 0 where
  pub apart : 0 < stride
  pub rows : 0 < count → count * stride + columns ≤ length cells + stride

-- each of so many cells is the reduction of its column
abbrev pub AreReduced : Reducer → Bool → List Cell → ℕ → ℕ → ℕ → List Cell → Type 0
AreReduced reducer ignore cells stride count columns out =
    (k : ℕ) → k < columns → slice_index_or out k Empty ≡ reduction_of reducer ignore (column cells stride count k)

-- where all cells of a column have P, so has its reduction
abbrev pub KeepsKind : (Cell → Type 0) → List Cell → ℕ → ℕ → ℕ → List Cell → Type 0
KeepsKind P cells stride count columns out =
    (k : ℕ) → k < columns → All P (column cells stride count k) → P (slice_index_or out k Empty)
