-- Calls of one transaction, one after another.
use Rattle.std.proofs.Common.{◌≡◌, IsTrue, arith}
use Rattle.sqlite.proofs.StateLemmas.{survives_then}
use Rattle.sqlite.specs.Held.{Held, state}
use Rattle.sqlite.specs.State.{HasCleanDisk}
use Rattle.sqlite.specs.Store.{Ghosts}
use Rattle.oe_database.proofs.Steps.{keeps_both}
use Rattle.oe_database.specs.Inside.{Inside, Stays}

module _ {S : Type 0} (g : Ghosts S) where
  -- a call after one that left the transaction open
  pub stays_both : (a b d : Held S) (P : Type 0) → Stays g a b → Inside g a b P → Stays g b d → Stays g a d
  stays_both a b d P one inside two = record {
    survives = survives_then (state g a) (state g b) (state g d) _ _ (λ _. ⊥) (λ _ db none. none) (λ _ db none. none)
        one.survives two.survives;
    kept = λ clean within.
        let before : HasCleanDisk (state g b) = omega (arith, two.survives.clean) in
        keeps_both _ _ _ (one.kept before within) (two.kept clean (inside before within).1);
  }

  -- a call, and what it does
  abbrev pub Goes : Held S → Held S → Type 0 → Type 0
  Goes a b P = Stays g a b × Inside g a b P

  pub goes_both : (a b d : Held S) (P Q : Type 0) → Goes a b P → Goes b d Q → Goes a d (P × Q)
  goes_both a b d P Q one two = (
    stays_both a b d P one.0 one.1 two.0,
    λ clean within.
        let before : HasCleanDisk (state g b) = omega (arith, two.0.survives.clean) in
        let first = one.1 before within in
        let second = two.1 clean first.1 in
        ((first.0, second.0), second.1),
  )
