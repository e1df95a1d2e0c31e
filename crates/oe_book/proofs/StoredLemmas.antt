-- The stored processes of a valid book are such as graphs are resolved with.
use Rattle.std.proofs.Common.{◌≡◌, ◌≢◌, ℕ, zero, suc, ◌<◌, true, false, not, List, [], ◌∷◌, length, Some, ap, sym, ◌∙◌, subst, true≢false, arith}
use Rattle.std.specs.Prelude.{slice_get, slice_index_or}
use Rattle.std.specs.List.{AllByRecursion, list_any}
use Rattle.std.proofs.lemmas.Bool.{and_parts, not-true, or_parts}
use Rattle.std.proofs.lemmas.Option.{same_Some}
use Rattle.oe_dims.specs.Names.{same_name}
use Rattle.oe_dims.proofs.OrderLemmas.{same_name_refl}
use Rattle.oe_graph.specs.Parameters.{are_distinct}
use Rattle.oe_graph.specs.Tree.{PlainStored}
use Rattle.oe_graph.specs.Valid.{AreValidStored}
use Rattle.oe_graph.proofs.ValidLemmas.{ReadsStored-valid}
use Rattle.oe_jobs.specs.Valid.{IsStored, stored_ids}
use Rattle.oe_jobs.specs.Verdicts.{stored_of}
use Rattle.oe_book.specs.Laws.{BookStoredIsValid, RanStoredIsValid}
use Rattle.oe_jobs.proofs.RanLemmas.{stored_all, stored_distinct}

all_at : {X : Type 0} (P : X → Type 0) (xs : List X) (k : ℕ) (x : X) → k < length xs → slice_index_or xs k x ≡ x
    → AllByRecursion P xs → P x
all_at P [] k x below is all = absurd (omega arith)
all_at P (a ∷ xs) zero x below is all = subst P is all.0
all_at P (a ∷ xs) (suc k) x below is all = all_at P xs k x (omega arith) is all.1

no_other : (name : List ℕ) (ps : List PlainStored) (j : ℕ) (b : PlainStored)
    → list_any (same_name name) (stored_ids ps) ≡ false → slice_get ps j ≡ Some b → name ≢ b.id
no_other name [] j b none at = cc
no_other name (p ∷ ps) zero b none at =
    let parts = or_parts (same_name name p.id) (list_any (same_name name) (stored_ids ps)) none in
    let here : p ≡ b = same_Some _ _ at in
    λ e.
    let same : same_name name p.id ≡ true = ap (same_name name) (ap (λ (q : PlainStored). q.id) here ∙ sym e) ∙ same_name_refl name in
    true≢false (sym same ∙ parts.0)
no_other name (p ∷ ps) (suc j) b none at =
    let parts = or_parts (same_name name p.id) (list_any (same_name name) (stored_ids ps)) none in
    no_other name ps j b parts.1 at

ids_apart : (ps : List PlainStored) → are_distinct (stored_ids ps) ≡ true → (i j : ℕ) (a b : PlainStored) → i < j
    → slice_get ps i ≡ Some a → slice_get ps j ≡ Some b → a.id ≢ b.id
ids_apart [] distinct i j a b below at_i at_j = cc
ids_apart (p ∷ ps) distinct zero zero a b below at_i at_j = absurd (omega arith)
ids_apart (p ∷ ps) distinct zero (suc j) a b below at_i at_j =
    let parts = and_parts (not (list_any (same_name p.id) (stored_ids ps))) (are_distinct (stored_ids ps)) distinct in
    let here : p ≡ a = same_Some _ _ at_i in
    λ e. no_other p.id ps j b (not-true _ parts.0) at_j (ap (λ (q : PlainStored). q.id) here ∙ e)
ids_apart (p ∷ ps) distinct (suc i) zero a b below at_i at_j = absurd (omega arith)
ids_apart (p ∷ ps) distinct (suc i) (suc j) a b below at_i at_j =
    let parts = and_parts (not (list_any (same_name p.id) (stored_ids ps))) (are_distinct (stored_ids ps)) distinct in
    ids_apart ps parts.1 i j a b (omega arith) at_i at_j

stored_valid : (ps : List PlainStored) → AllByRecursion IsStored ps → are_distinct (stored_ids ps) ≡ true → AreValidStored ps
stored_valid ps all distinct = record {
  each = λ s has. let is = all_at IsStored ps has.0 s has.1 has.2 all in ReadsStored-valid s.id s.text s is.reads;
  differ = ids_apart ps distinct;
}

pub ran_stored : RanStoredIsValid
ran_stored ran is = stored_valid ran.stored is.stored is.ids_differ

pub book_stored : BookStoredIsValid
book_stored book user valid =
    stored_valid (stored_of user book) (stored_all user book.processes valid.processes) (stored_distinct user book.processes valid.owned_differ)
