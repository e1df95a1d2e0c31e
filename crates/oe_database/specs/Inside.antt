-- What calls of a transaction leave of it.
use Rattle.std.specs.Prelude.{IsTrue, IfOk, OnOk, Result}
use Rattle.sqlite.specs.Held.{Held, state}
use Rattle.sqlite.specs.State.{HasCleanDisk, KeepsCommit, Survives}
use Rattle.sqlite.specs.Store.{Ghosts}

-- nothing is committed, and a crash leaves what one before left
pub record Stays {S : Type 0} (g : Ghosts S) (old new : Held S) : Type 0 where
  pub survives : Survives (state g old) (state g new) (λ _. ⊥)
  pub kept : HasCleanDisk (state g new) → IsTrue (state g old).in_transaction → KeepsCommit (state g old) (state g new)

-- it is so over a disk that gives back what was written, and the transaction goes on
abbrev pub Inside : {S : Type 0} → Ghosts S → Held S → Held S → Type 0 → Type 0
Inside g old new P =
    HasCleanDisk (state g new) → IsTrue (state g old).in_transaction → P × IsTrue (state g new).in_transaction

-- where the call answers Ok
abbrev pub OnOkInside : {S T E : Type 0} → Ghosts S → Held S → Held S → Result T E → Type 0 → Type 0
OnOkInside g old new result P = HasCleanDisk (state g new) → IsTrue (state g old).in_transaction
    → OnOk result (P × IsTrue (state g new).in_transaction)

-- of what it answers then
abbrev pub IfOkInside : {S T E : Type 0} → Ghosts S → Held S → Held S → Result T E → (T → Type 0) → Type 0
IfOkInside g old new result P = HasCleanDisk (state g new) → IsTrue (state g old).in_transaction
    → IfOk result (λ x. P x × IsTrue (state g new).in_transaction)
