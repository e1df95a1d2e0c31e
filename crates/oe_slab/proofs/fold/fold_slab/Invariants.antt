use Rattle.std.proofs.Common.{◌≡◌, ℕ, ◌+◌, ◌++◌, Bool, List, length}
use Rattle.oe_cell.specs.declared.cell.Cell.{Cell}
use Rattle.oe_fold.specs.Columns.{column}
use Rattle.oe_fold.specs.declared.reducer.Reducer.{Reducer}
use Rattle.oe_slab.specs.Folds.{HaveRoom, HaveSeen}
use Rattle.oe_slab.proofs.fold.fold_slab.Given as goal

-- each fold saw its cells of the dates so far, and has room for the others
abbrev pub invariant-loop-date : goal.invariant-loop-date
invariant-loop-date l = record {
  as_many : length l.folds ≡ l.plane;
  seen : (reducer : Reducer) → (ignores_nulls : Bool) → (seen : ℕ → List Cell) → HaveSeen l.initial.folds reducer ignores_nulls seen → HaveSeen l.folds reducer ignores_nulls (λ k. seen k ++ column l.cells l.plane l.date k);
  room : (more : ℕ) → HaveRoom l.initial.folds (more + l.date) → HaveRoom l.folds more;
}
