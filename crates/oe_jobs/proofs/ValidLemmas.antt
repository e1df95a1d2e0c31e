-- A list of jobs in which one was replaced keeps the rules of a book.
use Rattle.std.proofs.Common.{◌≡◌, ℕ, ◌+◌, Bool, true, false, cond, List, [], ◌∷◌, ◌++◌, Some, None, ap, sym, ◌∙◌, inl, inr}
use Rattle.std.specs.Prelude.{find, count_by}
use Rattle.std.specs.List.{AllByRecursion}
use Rattle.std.proofs.lemmas.Bool.{cases_Bool}
use Rattle.std.proofs.lemmas.List.Sums.{sum_by-cons}
use Rattle.std.proofs.lemmas.Option.{same_Some}
use Rattle.oe_jobs.specs.Changes.{at_first, is_job}
use Rattle.oe_jobs.specs.Machine.{is_busy, is_running}
use Rattle.oe_jobs.specs.Plain.{PlainBook, PlainJob}
use Rattle.oe_jobs.specs.Valid.{AllApart, AreApart, AreNumbered, IsBook, IsJob}
use Rattle.oe_jobs.specs.Verdicts.{is_job_of}

-- ---- one of a list replaced

pub data Replaces (old new : PlainJob) : List PlainJob → List PlainJob → Type 0 where
  here : {jobs : List PlainJob} → Replaces old new (old ∷ jobs) (new ∷ jobs)
  later : {job : PlainJob} {before after : List PlainJob} → Replaces old new before after
      → Replaces old new (job ∷ before) (job ∷ after)

pub change_replaces : (id : List ℕ) (change : PlainJob → PlainJob) (jobs : List PlainJob) (job : PlainJob)
    → find (is_job id) jobs ≡ Some job → Replaces job (change job) jobs (at_first (is_job id) change jobs)
change_replaces id change [] job e = cc
change_replaces id change (a ∷ jobs) job e =
    elim (cases_Bool (is_job id a)) [
      | inl t ↦ let same : a ≡ job = same_Some _ _ (rw t at e) in rw (t, same) here
      | inr f ↦ rw f (later (change_replaces id change jobs job (rw f at e)))
    ]

-- ---- lists of facts

pub all_with : {X : Type 0} {P Q R : X → Type 0} (xs : List X) → ((x : X) → P x → Q x → R x)
    → AllByRecursion P xs → AllByRecursion Q xs → AllByRecursion R xs
all_with [] f p q = p
all_with (x ∷ xs) f p q = (f x p.0 q.0, all_with xs f p.1 q.1)

pub all_map : {X : Type 0} {P R : X → Type 0} (xs : List X) → ((x : X) → P x → R x)
    → AllByRecursion P xs → AllByRecursion R xs
all_map [] f p = p
all_map (x ∷ xs) f p = (f x p.0, all_map xs f p.1)

pub all_append : {X : Type 0} (P : X → Type 0) (xs : List X) (y : X) → AllByRecursion P xs → P y → AllByRecursion P (xs ++ y ∷ [])
all_append P [] y p q = (q, p)
all_append P (x ∷ xs) y p q = (p.0, all_append P xs y p.1 q)

module _ (old new : PlainJob) where
  all_replaced : (P : PlainJob → Type 0) {before after : List PlainJob} → P new → Replaces old new before after
      → AllByRecursion P before → AllByRecursion P after
  all_replaced P fresh here all = (fresh, all.1)
  all_replaced P fresh (later more) all = (all.0, all_replaced P fresh more all.1)

  -- a fact of the old one, where it stands in the list
  pub old_of : (P : PlainJob → Type 0) {before after : List PlainJob} → Replaces old new before after
      → AllByRecursion P before → P old
  old_of P here all = all.0
  old_of P (later more) all = old_of P more all.1

  -- ---- numbers

  numbered_replaced : {before after : List PlainJob} (low next : ℕ) → new.id ≡ old.id → Replaces old new before after
      → AreNumbered low before next → AreNumbered low after next
  numbered_replaced low next same here n = (n.0, same ∙ n.1, n.2, n.3, n.4)
  numbered_replaced low next same (later more) n =
      (n.0, n.1, n.2, n.3, numbered_replaced (n.0 + 1) next same more n.4)

  -- ---- what a user has

  count_replaced : {before after : List PlainJob} (user : List ℕ) → new.user ≡ old.user → Replaces old new before after
      → count_by (is_job_of user) after ≡ count_by (is_job_of user) before
  count_replaced user same (here {jobs = jobs}) =
      sum_by-cons (λ x. cond (is_job_of user x) 1 0) new jobs
      ∙ (ap (λ u. cond (is_same u) 1 0 + count_by (is_job_of user) jobs) same
      ∙ sym (sum_by-cons (λ x. cond (is_job_of user x) 1 0) old jobs)) where
        is_same : List ℕ → Bool
        is_same u = is_job_of user (record old { user = u })
  count_replaced user same (later {job = job} {before = before} {after = after} more) =
      sum_by-cons (λ x. cond (is_job_of user x) 1 0) job after
      ∙ (ap (λ n. cond (is_job_of user job) 1 0 + n) (count_replaced user same more)
      ∙ sym (sum_by-cons (λ x. cond (is_job_of user x) 1 0) job before))

-- ---- jobs apart

pub apart_sym : (a b : PlainJob) → AreApart a b → AreApart b a
apart_sym a b h = record {
  one_runs = λ runs. elim (cases_Bool (is_running a.status)) [
    | inl t ↦ let other = h.one_runs t in cc
    | inr f ↦ f
  ];
  turns_differ = λ busy other same. h.turns_differ other busy (sym same);
}

-- Q holds of the jobs of the list, and makes each of them that is apart from the old one apart from the new one
module _ (old new : PlainJob) (Q : PlainJob → Type 0) (fresh : (x : PlainJob) → Q x → AreApart x old → AreApart x new) where
  apart_before : {before after : List PlainJob} (x : PlainJob) → Q x → Replaces old new before after
      → AllByRecursion (AreApart x) before → AllByRecursion (AreApart x) after
  apart_before x q here all = (fresh x q all.0, all.1)
  apart_before x q (later more) all = (all.0, apart_before x q more all.1)

  apart_replaced : {before after : List PlainJob} → Replaces old new before after → AllByRecursion Q before
      → AllApart before → AllApart after
  apart_replaced (here {jobs = jobs}) q apart =
      (all_with jobs (λ x qx h. apart_sym x new (fresh x qx (apart_sym old x h))) q.1 apart.0, apart.1)
  apart_replaced (later {job = job} more) q apart = (apart_before job q.0 more apart.0, apart_replaced more q.1 apart.1)

  -- ---- the book

  pub book_replaced : (book : PlainBook) (after : List PlainJob) → Replaces old new book.jobs after → IsBook book
      → AllByRecursion Q book.jobs → IsJob book.next new → new.id ≡ old.id → new.user ≡ old.user
      → IsBook (record book { jobs = after })
  book_replaced book after replaces valid q job same_id same_user = record {
    counted = valid.counted;
    bounded = valid.bounded;
    numbered = numbered_replaced old new 1 book.next same_id replaces valid.numbered;
    apart = apart_replaced replaces q valid.apart;
    jobs = all_replaced old new (IsJob book.next) job replaces valid.jobs;
    few_jobs = λ user. let e = count_replaced old new user same_user replaces in rw e (valid.few_jobs user);
    processes = valid.processes;
    owned_differ = valid.owned_differ;
    few_processes = valid.few_processes;
  }

-- a job that is not busier than it was, with its turn
pub stays_apart : (old new : PlainJob) → (is_running new.status ≡ true → is_running old.status ≡ true)
    → (is_busy new.status ≡ true → is_busy old.status ≡ true) → new.turn ≡ old.turn
    → (x : PlainJob) → AreApart x old → AreApart x new
stays_apart old new runs busy turn x h = record {
  one_runs = λ x_runs. elim (cases_Bool (is_running new.status)) [
    | inl t ↦ let other = h.one_runs x_runs in let was = runs t in cc
    | inr f ↦ f
  ];
  turns_differ = λ x_busy new_busy same. h.turns_differ x_busy (busy new_busy) (same ∙ turn);
}

-- a job that begins to run, where no other does
pub starts_apart : (old new : PlainJob) → (is_busy new.status ≡ true → is_busy old.status ≡ true) → new.turn ≡ old.turn
    → (x : PlainJob) → is_running x.status ≡ false → AreApart x old → AreApart x new
starts_apart old new busy turn x idle h = record {
  one_runs = λ x_runs. cc;
  turns_differ = λ x_busy new_busy same. h.turns_differ x_busy (busy new_busy) (same ∙ turn);
}

-- none passes where none was found
pub none_found : {X : Type 0} (test : X → Bool) (xs : List X) → find test xs ≡ None → AllByRecursion (λ x. test x ≡ false) xs
none_found test [] e = tt
none_found test (a ∷ xs) e =
    elim (cases_Bool (test a)) [
      | inl t ↦ let some = rw t at e in cc
      | inr f ↦ (f, none_found test xs (rw f at e))
    ]
