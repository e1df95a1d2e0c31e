-- A stored process that is put into a valid book, or dropped from it.
use Rattle.std.proofs.Common.{◌≡◌, ℕ, ◌+◌, ◌<◌, Bool, true, false, cond, List, [], ◌∷◌, refl, ap, sym, ◌∙◌, inl, inr, arith}
use Rattle.std.specs.Prelude.{count_by}
use Rattle.std.specs.List.{AllByRecursion, list_any}
use Rattle.std.proofs.lemmas.Bool.{cases_Bool, and_parts, or_parts, or_from}
use Rattle.std.proofs.lemmas.List.Sums.{sum_by-cons}
use Rattle.oe_dims.specs.Names.{same_name}
use Rattle.oe_dims.proofs.OrderLemmas.{same_name_is}
use Rattle.oe_dims.proofs.DistinctLemmas.{same_name-comm}
use Rattle.oe_jobs.specs.Changes.{at_first, is_behind, is_owned, put_before, without_first}
use Rattle.oe_jobs.specs.Plain.{PlainBook, PlainOwned}
use Rattle.oe_jobs.specs.Valid.{IsBook, IsStored, OwnedDiffer}
use Rattle.oe_jobs.specs.Verdicts.{is_process_of, most_processes}
use Rattle.oe_jobs.proofs.PutLemmas.{all_without, count_without, one_more}

owned_comm : (a b : PlainOwned) → is_owned a.user a.process.id b ≡ is_owned b.user b.process.id a
owned_comm a b = rw (same_name-comm b.user a.user, same_name-comm b.process.id a.process.id) refl

-- ---- in the place of the one of this user and id

module _ (new : PlainOwned) where
  abbrev test : PlainOwned → Bool
  test = is_owned new.user new.process.id

  same_user : (a : PlainOwned) → test a ≡ true → new.user ≡ a.user
  same_user a t = same_name_is a.user new.user (and_parts _ _ t).0

  same_id : (a : PlainOwned) → test a ≡ true → new.process.id ≡ a.process.id
  same_id a t = same_name_is a.process.id new.process.id (and_parts _ _ t).1

  all_replaced : (P : PlainOwned → Type 0) (xs : List PlainOwned) → P new → AllByRecursion P xs
      → AllByRecursion P (at_first test (λ old. new) xs)
  all_replaced P [] fresh all = all
  all_replaced P (a ∷ xs) fresh all =
      elim (cases_Bool (test a)) [
        | inl t ↦ rw t (fresh, all.1)
        | inr f ↦ rw f (all.0, all_replaced P xs fresh all.1)
      ]

  any_replaced : (user id : List ℕ) (xs : List PlainOwned)
      → list_any (is_owned user id) (at_first test (λ old. new) xs) ≡ list_any (is_owned user id) xs
  any_replaced user id [] = refl
  any_replaced user id (a ∷ xs) =
      elim (cases_Bool (test a)) [
        | inl t ↦ rw (t, same_user a t, same_id a t) refl
        | inr f ↦ rw (f, any_replaced user id xs) refl
      ]

  differ_replaced : (xs : List PlainOwned) → OwnedDiffer xs → OwnedDiffer (at_first test (λ old. new) xs)
  differ_replaced [] differ = differ
  differ_replaced (a ∷ xs) differ =
      elim (cases_Bool (test a)) [
        | inl t ↦ rw t (rw (same_user a t, same_id a t) differ.0, differ.1)
        | inr f ↦ rw f (any_replaced a.user a.process.id xs ∙ differ.0, differ_replaced xs differ.1)
      ]

  count_replaced : (user : List ℕ) (xs : List PlainOwned)
      → count_by (is_process_of user) (at_first test (λ old. new) xs) ≡ count_by (is_process_of user) xs
  count_replaced user [] = refl
  count_replaced user (a ∷ xs) =
      let all = sum_by-cons (λ x. cond (is_process_of user x) 1 0) a xs in
      elim (cases_Bool (test a)) [
        | inl t ↦
            let first = sum_by-cons (λ x. cond (is_process_of user x) 1 0) new xs in
            let users : same_name new.user user ≡ same_name a.user user = ap (λ u. same_name u user) (same_user a t) in
            let same : cond (same_name new.user user) 1 0 ≡ cond (same_name a.user user) 1 0 = ap (λ b. cond b 1 0) users in
            rw t (first ∙ (ap (λ n. n + count_by (is_process_of user) xs) same ∙ sym all))
        | inr f ↦
            let first = sum_by-cons (λ x. cond (is_process_of user x) 1 0) a (at_first test (λ old. new) xs) in
            let rest = count_replaced user xs in
            rw f (first ∙ (ap (λ n. cond (is_process_of user a) 1 0 + n) rest ∙ sym all))
      ]

  -- ---- before the first that stands behind it

  all_put : (P : PlainOwned → Type 0) (xs : List PlainOwned) → P new → AllByRecursion P xs
      → AllByRecursion P (put_before (is_behind new) new xs)
  all_put P [] fresh all = (fresh, all)
  all_put P (a ∷ xs) fresh all =
      elim (cases_Bool (is_behind new a)) [
        | inl t ↦ rw t (fresh, all)
        | inr f ↦ rw f (all.0, all_put P xs fresh all.1)
      ]

  any_put : (other : PlainOwned → Bool) (xs : List PlainOwned) → other new ≡ false → list_any other xs ≡ false
      → list_any other (put_before (is_behind new) new xs) ≡ false
  any_put other [] none all = or_from (other new) false none refl
  any_put other (a ∷ xs) none all =
      elim (cases_Bool (is_behind new a)) [
        | inl t ↦ rw t (or_from (other new) (list_any other (a ∷ xs)) none all)
        | inr f ↦
            let parts = or_parts (other a) (list_any other xs) all in
            rw f (or_from (other a) (list_any other (put_before (is_behind new) new xs)) parts.0 (any_put other xs none parts.1))
      ]

  differ_put : (xs : List PlainOwned) → list_any test xs ≡ false → OwnedDiffer xs
      → OwnedDiffer (put_before (is_behind new) new xs)
  differ_put [] none differ = (refl, differ)
  differ_put (a ∷ xs) none differ =
      elim (cases_Bool (is_behind new a)) [
        | inl t ↦ rw t (none, differ)
        | inr f ↦
            let parts = or_parts (test a) (list_any test xs) none in
            let apart : is_owned a.user a.process.id new ≡ false = owned_comm a new ∙ parts.0 in
            rw f (any_put (is_owned a.user a.process.id) xs apart differ.0, differ_put xs parts.1 differ.1)
      ]

  count_put : (p : PlainOwned → Bool) (xs : List PlainOwned)
      → count_by p (put_before (is_behind new) new xs) ≡ cond (p new) 1 0 + count_by p xs
  count_put p [] = sum_by-cons (λ x. cond (p x) 1 0) new []
  count_put p (a ∷ xs) =
      let all = sum_by-cons (λ x. cond (p x) 1 0) a xs in
      elim (cases_Bool (is_behind new a)) [
        | inl t ↦ rw t (sum_by-cons (λ x. cond (p x) 1 0) new (a ∷ xs))
        | inr f ↦
            let first = sum_by-cons (λ x. cond (p x) 1 0) a (put_before (is_behind new) new xs) in
            let rest = count_put p xs in
            rw f (omega arith)
      ]

-- ---- gone

any_without : (test other : PlainOwned → Bool) (xs : List PlainOwned) → list_any other xs ≡ false
    → list_any other (without_first test xs) ≡ false
any_without test other [] none = none
any_without test other (a ∷ xs) none =
    let parts = or_parts (other a) (list_any other xs) none in
    elim (cases_Bool (test a)) [
      | inl t ↦ rw t parts.1
      | inr f ↦ rw f (or_from (other a) (list_any other (without_first test xs)) parts.0 (any_without test other xs parts.1))
    ]

differ_without : (test : PlainOwned → Bool) (xs : List PlainOwned) → OwnedDiffer xs → OwnedDiffer (without_first test xs)
differ_without test [] differ = differ
differ_without test (a ∷ xs) differ =
    elim (cases_Bool (test a)) [
      | inl t ↦ rw t differ.1
      | inr f ↦ rw f (any_without test (is_owned a.user a.process.id) xs differ.0, differ_without test xs differ.1)
    ]

-- ---- the book

pub forgotten_keeps : (book : PlainBook) (user id : List ℕ) → IsBook book
    → IsBook (record book { processes = without_first (is_owned user id) book.processes })
forgotten_keeps book user id valid = record {
  counted = valid.counted;
  bounded = valid.bounded;
  numbered = valid.numbered;
  apart = valid.apart;
  jobs = valid.jobs;
  few_jobs = valid.few_jobs;
  processes = all_without (is_owned user id) (λ (owned : PlainOwned). IsStored owned.process) book.processes valid.processes;
  owned_differ = differ_without (is_owned user id) book.processes valid.owned_differ;
  few_processes = λ who.
      let fewer = count_without (is_owned user id) (is_process_of who) book.processes in
      let few = valid.few_processes who in
      omega arith;
}

pub replaced_keeps : (book : PlainBook) (new : PlainOwned) → IsStored new.process → IsBook book
    → IsBook (record book { processes = at_first (is_owned new.user new.process.id) (λ old. new) book.processes })
replaced_keeps book new stored valid = record {
  counted = valid.counted;
  bounded = valid.bounded;
  numbered = valid.numbered;
  apart = valid.apart;
  jobs = valid.jobs;
  few_jobs = valid.few_jobs;
  processes = all_replaced new (λ (owned : PlainOwned). IsStored owned.process) book.processes stored valid.processes;
  owned_differ = differ_replaced new book.processes valid.owned_differ;
  few_processes = λ who. let same = count_replaced new who book.processes in let few = valid.few_processes who in omega arith;
}

pub put_keeps : (book : PlainBook) (new : PlainOwned) → IsStored new.process
    → list_any (is_owned new.user new.process.id) book.processes ≡ false
    → count_by (is_process_of new.user) book.processes < most_processes → IsBook book
    → IsBook (record book { processes = put_before (is_behind new) new book.processes })
put_keeps book new stored none room valid = record {
  counted = valid.counted;
  bounded = valid.bounded;
  numbered = valid.numbered;
  apart = valid.apart;
  jobs = valid.jobs;
  few_jobs = valid.few_jobs;
  processes = all_put new (λ (owned : PlainOwned). IsStored owned.process) book.processes stored valid.processes;
  owned_differ = differ_put new book.processes none valid.owned_differ;
  few_processes = λ who.
      let all = count_put new (is_process_of who) book.processes in
      let few = valid.few_processes who in
      one_more most_processes (is_process_of who new) (count_by (is_process_of who) book.processes) _ all few
      (λ t. let is_who : who ≡ new.user = same_name_is new.user who t in rw is_who room);
}
