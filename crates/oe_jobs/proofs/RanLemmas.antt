-- What a job that is queued is to run keeps the rules of a book.
use Rattle.std.proofs.Common.{◌≡◌, ℕ, ◌+◌, Bool, true, false, cond, List, [], ◌∷◌, length, map, refl, ap, sym, ◌∙◌, inl, inr, arith}
use Rattle.std.specs.Prelude.{count_by, filter}
use Rattle.std.specs.List.{AllByRecursion, list_any}
use Rattle.std.proofs.lemmas.Bool.{cases_Bool, or_parts, or_from}
use Rattle.std.proofs.lemmas.List.Sums.{sum_by-cons}
use Rattle.oe_dims.specs.Names.{same_name}
use Rattle.oe_dims.proofs.OrderLemmas.{same_name_is, same_name_refl}
use Rattle.oe_dims.proofs.DistinctLemmas.{same_name-comm}
use Rattle.oe_graph.specs.Parameters.{are_distinct}
use Rattle.oe_graph.specs.Tree.{PlainStored}
use Rattle.oe_jobs.specs.Changes.{is_owned}
use Rattle.oe_jobs.specs.Plain.{PlainBook, PlainJob, PlainOwned}
use Rattle.oe_jobs.specs.Valid.{IsBook, IsJob, IsRan, IsStored, OwnedDiffer, stored_ids}
use Rattle.oe_jobs.specs.Verdicts.{is_process_of, to_run}

module _ (user : List ℕ) where
  abbrev of : List PlainOwned → List PlainStored
  of processes = map (λ (owned : PlainOwned). owned.process) (filter (is_process_of user) processes)

  pub stored_all : (processes : List PlainOwned) → AllByRecursion (λ (owned : PlainOwned). IsStored owned.process) processes
      → AllByRecursion IsStored (of processes)
  stored_all [] all = tt
  stored_all (a ∷ processes) all =
      elim (cases_Bool (is_process_of user a)) [
        | inl t ↦ rw t (all.0, stored_all processes all.1)
        | inr f ↦ rw f (stored_all processes all.1)
      ]

  length_kept : (b : Bool) (a : PlainOwned) (kept : List PlainOwned)
      → length (map (λ (owned : PlainOwned). owned.process) (cond b (a ∷ kept) kept))
      ≡ cond b 1 0 + length (map (λ (owned : PlainOwned). owned.process) kept)
  length_kept true a kept = omega arith
  length_kept false a kept = omega arith

  stored_length : (processes : List PlainOwned) → length (of processes) ≡ count_by (is_process_of user) processes
  stored_length [] = refl
  stored_length (a ∷ processes) =
      length_kept (is_process_of user a) a (filter (is_process_of user) processes)
      ∙ (ap (λ n. cond (is_process_of user a) 1 0 + n) (stored_length processes)
      ∙ sym (sum_by-cons (λ x. cond (is_process_of user x) 1 0) a processes))

  -- an id that none of the user's processes has is none of their ids
  no_id : (a : PlainOwned) (processes : List PlainOwned) → is_process_of user a ≡ true
      → list_any (is_owned a.user a.process.id) processes ≡ false
      → list_any (same_name a.process.id) (stored_ids (of processes)) ≡ false
  no_id a [] own none = refl
  no_id a (x ∷ processes) own none =
      let parts = or_parts (is_owned a.user a.process.id x) (list_any (is_owned a.user a.process.id) processes) none in
      elim (cases_Bool (is_process_of user x)) [
        | inl t ↦
            let users : x.user ≡ a.user = sym (same_name_is x.user user t) ∙ same_name_is a.user user own in
            let same : same_name x.user a.user ≡ true = ap (same_name x.user) (sym users) ∙ same_name_refl x.user in
            let other : same_name x.process.id a.process.id ≡ false = rw same at parts.0 in
            rw t (or_from (same_name a.process.id x.process.id) (list_any (same_name a.process.id) (stored_ids (of processes)))
            (same_name-comm a.process.id x.process.id ∙ other) (no_id a processes own parts.1))
        | inr f ↦ rw f (no_id a processes own parts.1)
      ]

  pub stored_distinct : (processes : List PlainOwned) → OwnedDiffer processes → are_distinct (stored_ids (of processes)) ≡ true
  stored_distinct [] differ = refl
  stored_distinct (a ∷ processes) differ =
      elim (cases_Bool (is_process_of user a)) [
        | inl t ↦
            let none = no_id a processes t differ.0 in
            rw t (rw none (stored_distinct processes differ.1))
        | inr f ↦ rw f (stored_distinct processes differ.1)
      ]

pub runs_stored : (book : PlainBook) (job : PlainJob) → IsBook book → IsJob book.next job → IsRan (to_run book job)
runs_stored book job valid valid_job = record {
  process = valid_job.process;
  stored = stored_all job.user book.processes valid.processes;
  ids_differ = stored_distinct job.user book.processes valid.owned_differ;
  few = let count = stored_length job.user book.processes in let few = valid.few_processes job.user in omega arith;
}
