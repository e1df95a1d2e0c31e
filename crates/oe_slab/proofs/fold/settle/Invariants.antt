use Rattle.std.proofs.Common.{◌≡◌, ℕ, ◌<◌, Bool, true, false, List}
use Rattle.std.specs.Prelude.{All, slice_index_or}
use Rattle.oe_cell.specs.Kinds.{IsLogical, IsNumeric}
use Rattle.oe_cell.specs.declared.cell.Cell.{Cell}
use Rattle.oe_cell.specs.declared.cell.Cell.TheVariants.{Empty}
use Rattle.oe_fold.specs.Reduction.{is_count}
use Rattle.oe_fold.specs.Value.{reduction_of}
use Rattle.oe_fold.specs.declared.reducer.Reducer.{Reducer}
use Rattle.oe_slab.specs.Folds.{HaveSeen}
use Rattle.oe_slab.proofs.fold.settle.Given as goal

-- the values so far are written
abbrev pub invariant-loop-k : goal.invariant-loop-k
invariant-loop-k l = record {
  value : (reducer : Reducer) → (ignores_nulls : Bool) → (seen : ℕ → List Cell) → HaveSeen l.folds reducer ignores_nulls seen → (j : ℕ) → j < l.k → slice_index_or l.out j Empty ≡ reduction_of reducer ignores_nulls (seen j);
  numeric : (reducer : Reducer) → (ignores_nulls : Bool) → (seen : ℕ → List Cell) → HaveSeen l.folds reducer ignores_nulls seen → (j : ℕ) → j < l.k → All IsNumeric (seen j) → IsNumeric (slice_index_or l.out j Empty);
  logical : (reducer : Reducer) → (ignores_nulls : Bool) → (seen : ℕ → List Cell) → HaveSeen l.folds reducer ignores_nulls seen → is_count reducer ≡ false → (j : ℕ) → j < l.k → All IsLogical (seen j) → IsLogical (slice_index_or l.out j Empty);
  counts : (reducer : Reducer) → (ignores_nulls : Bool) → (seen : ℕ → List Cell) → HaveSeen l.folds reducer ignores_nulls seen → is_count reducer ≡ true → (j : ℕ) → j < l.k → IsNumeric (slice_index_or l.out j Empty);
}
