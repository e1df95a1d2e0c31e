-- Statements of one transaction, one after another.
use Rattle.std.proofs.Common.{ℕ, List, [], ◌∷◌, ◌++◌, Ok, Err, refl, subst, ◌∙◌, inl, inr}
use Rattle.sqlite.specs.Store.{Ghosts}
use Rattle.sqlite.specs.Order.{Row}
use Rattle.sqlite.specs.declared.error.Error.{Error}
use Rattle.sqlite.specs.State.{Executes, ExecutesInside, KeepsCommit, State}
use Rattle.sqlite.specs.Held.{Held, state}
use Rattle.oe_database.specs.Each.{PlainStatement, RanEach}

pub ran_more : {S : Type 0} (g : Ghosts S) (statements : List PlainStatement) (s : PlainStatement) (a b d : Held S) (count : ℕ)
    → RanEach g statements a b
    → Executes s.text s.parameters (state g b) (state g d) (Ok count) → RanEach g (statements ++ s ∷ []) a d
ran_more g [] s a b d count is ran = (d, count, subst (λ h. Executes s.text s.parameters (state g h) (state g d) (Ok count)) is ran, refl)
ran_more g (t ∷ statements) s a b d count (mid, n, one, rest) ran =
    (mid, n, one, ran_more g statements s mid b d count rest ran)

pub keeps_none : (s : State) → KeepsCommit s s
keeps_none s = record { was_open = λ o. o; committed = λ o. refl }

pub keeps_both : (a b d : State) → KeepsCommit a b → KeepsCommit b d → KeepsCommit a d
keeps_both a b d one two = record {
  was_open = λ o. one.was_open (two.was_open o);
  committed = λ o. two.committed o ∙ one.committed (two.was_open o);
}

pub kept_ok : (text : List ℕ) (params : Row) (old new : State) (count : ℕ) → ExecutesInside 0 text params old new (Ok count) → KeepsCommit old new
kept_ok text params old new count ran = record { was_open = λ o. ran.1.was_open; committed = λ o. ran.1.committed_is }

pub kept_err : (text : List ℕ) (params : Row) (old new : State) (e : Error) → ExecutesInside 0 text params old new (Err e) → KeepsCommit old new
kept_err text params old new e (inl (ran, inl same)) = record { was_open = λ o. same.0.was_open; committed = λ o. same.0.committed_is }
kept_err text params old new e (inl (ran, inr undone)) =
    record { was_open = undone.was_open; committed = λ o. (undone.undone o).1 }
kept_err text params old new e (inr (ends, is, same)) = record { was_open = λ o. same.0.was_open; committed = λ o. same.0.committed_is }
