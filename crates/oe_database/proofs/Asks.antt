-- Queries in a transaction: they commit nothing, and do not end it.
use Rattle.std.proofs.Common.{◌∙◌, ◌⊎◌, List, ℕ, Some, None, IsTrue, inl, inr}
use Rattle.sqlite_value.specs.Order.{Row}
use Rattle.sqlite.specs.declared.error.Error.{Error}
use Rattle.sqlite.specs.State.{State, Fails, FailsToQuery, FailsToShow, IsNotRun, IsTooLate, IsUnchanged, KeepsCommit, Shown, ShowsRows}

module _ (old new : State) where
  unchanged_keeps : IsUnchanged old new → KeepsCommit old new
  unchanged_keeps same = record { was_open = λ o. same.0.was_open; committed = λ o. same.0.committed_is }

  fails_keep : (P : Type 0) (e : Error) → Fails old new P e → KeepsCommit old new
  fails_keep P e failed = record {
    was_open = failed.3.was_open;
    committed = λ o. (failed.3.undone o).1;
  }

  rows_keep : (sql : List ℕ) (c : _) (params : Row) (rows : List Row) (what : _) → IsTrue old.in_transaction
      → ShowsRows old new sql c params rows what → KeepsCommit old new × IsTrue new.in_transaction
  rows_keep sql c params rows None inside (db, source, reads, same) =
      (unchanged_keeps same, same.0.mode ∙ inside)
  rows_keep sql c params rows (Some what) inside (count, wrote, is) = (
    record { was_open = λ o. wrote.shown.was_open; committed = λ o. rw inside at wrote.shown.committed_is },
    wrote.shown.mode ∙ inside,
  )

  not_run_keeps : (sql : List ℕ) (params : Row) (e : Error) → IsNotRun old new sql params e → KeepsCommit old new
  unfolding IsNotRun
  not_run_keeps sql params e (inl none) = unchanged_keeps none.1
  not_run_keeps sql params e (inr failed) = fails_keep ⊥ e failed

  show_keeps : (sql : List ℕ) (c : _) (params : Row) (e : Error) (what : _)
      → FailsToShow old new sql c params e what → KeepsCommit old new
  show_keeps sql c params e None (db, source, refuses, same) = unchanged_keeps same
  show_keeps sql c params e (Some what) (inl none) = unchanged_keeps none.1
  show_keeps sql c params e (Some what) (inr failed) = fails_keep _ e failed

  -- rows that were shown
  pub shown_keep : (sql : List ℕ) (params : Row) (rows : List Row) → IsTrue old.in_transaction
      → Shown sql params old new rows → KeepsCommit old new × IsTrue new.in_transaction
  unfolding Shown
  shown_keep sql params rows inside h = rows_keep sql h.0 _ rows h.0.returning inside h.2

  -- a query that was refused
  pub refused_keeps : (sql : List ℕ) (params : Row) (e : Error)
      → FailsToQuery sql params old new e ⊎ IsTooLate sql params old new e → KeepsCommit old new
  unfolding FailsToQuery
  refused_keeps sql params e (inl (inl none)) = not_run_keeps sql params e none
  refused_keeps sql params e (inl (inr (c, it, fails))) = show_keeps sql c _ e c.returning fails
  refused_keeps sql params e (inr late) = unchanged_keeps late.5
