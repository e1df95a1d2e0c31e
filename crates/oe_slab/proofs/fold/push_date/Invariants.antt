use Rattle.std.proofs.Common.{◌≡◌, ℕ, ◌+◌, ◌<◌, ◌≤◌, ◌^◌, [], ◌∷◌, ◌++◌, Bool, List, Some}
use Rattle.std.specs.Prelude.{slice_get, slice_index_or}
use Rattle.oe_cell.specs.declared.cell.Cell.{Cell}
use Rattle.oe_cell.specs.declared.cell.Cell.TheVariants.{Empty}
use Rattle.oe_fold.specs.Progress.{HasSeen, count_of}
use Rattle.oe_fold.specs.declared.pass.Pass.{Pass}
use Rattle.oe_fold.specs.declared.reducer.Reducer.{Reducer}
use Rattle.oe_slab.specs.Folds.{HaveRoom, HaveSeen}
use Rattle.oe_slab.proofs.fold.push_date.Given as goal

-- the folds so far took their cell, and the others are as they were
abbrev pub invariant-loop-k : goal.invariant-loop-k
invariant-loop-k l = record {
  seen : (reducer : Reducer) → (ignores_nulls : Bool) → (seen : ℕ → List Cell) → HaveSeen l.initial.folds reducer ignores_nulls seen → (j : ℕ) → (fold : Pass) → j < l.k → slice_get l.folds j ≡ Some fold → HasSeen fold reducer ignores_nulls (seen j ++ slice_index_or l.cells j Empty ∷ []);
  room : (more : ℕ) → HaveRoom l.initial.folds (more + 1) → (j : ℕ) → (fold : Pass) → j < l.k → slice_get l.folds j ≡ Some fold → count_of fold + more < 2 ^ 63;
  rest : (j : ℕ) → l.k ≤ j → slice_get l.folds j ≡ slice_get l.initial.folds j;
}
