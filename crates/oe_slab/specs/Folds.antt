-- For private functions. The running folds of a plane, one for each of its positions in row-major order.
use Rattle.std.specs.Prelude.{◌≡◌, ◌≢◌, ℕ, ◌+◌, ◌<◌, ◌^◌, Bool, Some, List, length, slice_get, slice_index_or}
use Rattle.std.specs.List.{All}
use Rattle.oe_cell.specs.declared.cell.Cell.{Cell}
use Rattle.oe_cell.specs.declared.cell.Cell.TheVariants.{Empty}
use Rattle.oe_cube.specs.Kinds.{IsOfKind}
use Rattle.oe_dims.specs.declared.kind.CellKind.{CellKind}
use Rattle.oe_fold.specs.Value.{reduction_of}
use Rattle.oe_fold.specs.Progress.{HasSeen, count_of, reducer_of}
use Rattle.oe_fold.specs.declared.pass.Pass.{Pass}
use Rattle.oe_fold.specs.declared.reducer.Reducer.{Reducer}
use Rattle.oe_fold.specs.declared.reducer.Reducer.TheVariants.{Median}

-- the fold of each number, by the one reducer, saw the cells of this number, in their order
abbrev pub HaveSeen : List Pass → Reducer → Bool → (ℕ → List Cell) → Type 0
HaveSeen folds reducer ignores_nulls cells =
    (k : ℕ) → (fold : Pass) → slice_get folds k ≡ Some fold → HasSeen fold reducer ignores_nulls (cells k)

-- something holds of the reducer of the folds and of whatever cells they saw
abbrev pub ForEachSeen : List Pass → (Reducer → Bool → (ℕ → List Cell) → Type 0) → Type 0
ForEachSeen folds P = (reducer : Reducer) (ignores_nulls : Bool) (cells : ℕ → List Cell)
    → HaveSeen folds reducer ignores_nulls cells → P reducer ignores_nulls cells

-- the folds, by the one reducer, saw so many cells each, of a kind
pub record HaveSeenKind (kind : CellKind) (count : ℕ) (folds : List Pass) (reducer : Reducer) (ignores_nulls : Bool)
    : Type 0 where
  pub cells : ℕ → List Cell
  pub seen : HaveSeen folds reducer ignores_nulls cells
  pub kinds : (k : ℕ) → k < length folds → All (IsOfKind kind) (cells k)
  pub as_many : (k : ℕ) → k < length folds → length (cells k) ≡ count

-- each fold has room for so many more cells
abbrev pub HaveRoom : List Pass → ℕ → Type 0
HaveRoom folds more = (k : ℕ) → (fold : Pass) → slice_get folds k ≡ Some fold → count_of fold + more < 2 ^ 63

-- none of them is a median, as none is that goes date by date
abbrev pub AreNoMedians : List Pass → Type 0
AreNoMedians folds = (k : ℕ) → (fold : Pass) → slice_get folds k ≡ Some fold → reducer_of fold ≢ Median

-- these are the values of the folds: of whatever cells they saw, the reductions
abbrev pub Settles : List Pass → List Cell → Type 0
Settles folds out = (reducer : Reducer) (ignores_nulls : Bool) (cells : ℕ → List Cell)
    → HaveSeen folds reducer ignores_nulls cells → (k : ℕ) → k < length out
    → slice_index_or out k Empty ≡ reduction_of reducer ignores_nulls (cells k)
