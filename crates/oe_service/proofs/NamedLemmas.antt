-- Jobs by their ids, and that a command leaves them so.
use Rattle.std.proofs.Common.{◌≡◌, ◌≤◌, ℕ, ◌+◌, ℤ, Bool, true, false, not, List, [], ◌∷◌, Option, Some, None, refl, ap, sym, ◌∙◌, subst, inl, inr, arith}
use Rattle.std.specs.Prelude.{find, is_some, nat_le, count_by, if◌then◌else◌, ◌&&◌, ◌==◌}
use Rattle.std.specs.List.{AllByRecursion}
use Rattle.std.specs.Option.{option_map_or}
use Rattle.std.proofs.lemmas.Bool.{cases_Bool}
use Rattle.std.proofs.lemmas.Bool.Decides.{nat_tests}
use Rattle.std.proofs.lemmas.Option.{same_Some}
use Rattle.oe_dims.specs.Names.{same_name}
use Rattle.oe_dims.proofs.OrderLemmas.{same_name_is, same_name_refl}
use Rattle.oe_graph.specs.Catalogue.{process_named}
use Rattle.oe_jobs.specs.Changes.{at_first, is_job, put_first, without_first}
use Rattle.oe_jobs.specs.Events.{job_named}
use Rattle.oe_jobs.specs.Machine as machine
use Rattle.oe_jobs.specs.Machine.{after, has_assets, has_effect, is_busy, moved, step_at, step_of}
use Rattle.oe_jobs.specs.Plain.{PlainBook, PlainCommand, PlainJob, PlainRan, PlainVerdict, create, patch, delete, queue, cancel, store, forget, put_process, drop_process}
use Rattle.oe_jobs.specs.Valid.{AreNumbered, IsBook}
use Rattle.oe_jobs.specs.Verdicts.{after_verdict, created, done, has_no_number, has_process, is_full, is_found, is_process_of, job_of, last_next, most_processes, next as next_book, patched, refused, to_run}
use Rattle.oe_jobs.specs.declared.command.JobFault.TheVariants.{JobNotFound, PredefinedProcessExists, ProcessLimit, ProcessNotFound}
use Rattle.oe_jobs.specs.declared.status.Status.{Status}
use Rattle.oe_jobs.specs.declared.status.Status.TheVariants.{Created, Queued, Running, Canceled, Finished, Error}
use Rattle.oe_jobs.proofs.PutLemmas.{numbered_append, numbered_lower, put_at_end}
use Rattle.oe_service.specs.Finishes.{IsCreatedIn}
use Rattle.oe_service.proofs.BookLemmas.{found_one, id_differs}

-- ---- jobs by their ids

pub map_all : {X : Type 0} (P Q : X → Type 0) (xs : List X) → ((x : X) → P x → Q x) → AllByRecursion P xs → AllByRecursion Q xs
map_all P Q [] f all = tt
map_all P Q (x ∷ xs) f all = (f x all.0, map_all P Q xs f all.1)

-- each job is found by its id
pub all_named : (low next : ℕ) (jobs : List PlainJob) → next ≤ last_next → AreNumbered low jobs next
    → AllByRecursion (λ (job : PlainJob). find (is_job job.id) jobs ≡ Some job) jobs
all_named low next [] small numbered = tt
all_named low next (a ∷ jobs) small numbered = (
  rw (same_name_refl a.id) refl,
  map_all (λ (job : PlainJob). find (is_job job.id) jobs ≡ Some job) (λ (job : PlainJob). find (is_job job.id) (a ∷ jobs) ≡ Some job)
      jobs
      (λ job e. rw (id_differs (is_job job.id) low next a jobs job small numbered e) e)
      (all_named (numbered.0 + 1) next jobs small numbered.4),
)

pub named_of : (test : PlainJob → Bool) (book : PlainBook) (job : PlainJob) → IsBook book → find test book.jobs ≡ Some job
    → job_named job.id book ≡ Some job
named_of test book job valid e =
    found_one (λ (j : PlainJob). find (is_job j.id) book.jobs ≡ Some j) test book.jobs job
    (all_named 1 book.next book.jobs valid.bounded valid.numbered) e

pub changed_named : (id : List ℕ) (change : PlainJob → PlainJob) (jobs : List PlainJob) (job : PlainJob)
    → find (is_job id) jobs ≡ Some job → same_name (change job).id id ≡ true
    → find (is_job id) (at_first (is_job id) change jobs) ≡ Some (change job)
changed_named id change [] job e same = absurd cc
changed_named id change (a ∷ jobs) job e same =
    elim (cases_Bool (is_job id a)) [
      | inl t ↦
          let is : a ≡ job = same_Some _ _ (rw t at e) in
          let now : same_name (change a).id id ≡ true = ap (λ (j : PlainJob). same_name (change j).id id) is ∙ same in
          rw t (rw now (ap (λ j. Some (change j)) is))
      | inr f ↦ rw f (rw f (changed_named id change jobs job (rw f at e) same))
    ]

-- ---- ids that a step leaves

pub queue_id : (s : Status) (some : Bool) (job : PlainJob) (now : ℤ) (turn : ℕ) (ran : PlainRan)
    → (after (step_of s (machine.queue now turn ran) some) job).id ≡ job.id
queue_id Created some job now turn ran = refl
queue_id Queued some job now turn ran = refl
queue_id Running some job now turn ran = refl
queue_id Canceled some job now turn ran = refl
queue_id Finished some job now turn ran = refl
queue_id Error some job now turn ran = refl

pub cancel_id : (s : Status) (some : Bool) (job : PlainJob) (now : ℤ)
    → (after (step_of s (machine.cancel now) some) job).id ≡ job.id
cancel_id Created some job now = refl
cancel_id Queued some job now = refl
cancel_id Running true job now = refl
cancel_id Running false job now = refl
cancel_id Canceled some job now = refl
cancel_id Finished some job now = refl
cancel_id Error some job now = refl

-- ---- a command

-- what a patch leaves of a job
pub record Resembles (old new : PlainJob) : Type 0 where
  pub id : new.id ≡ old.id
  pub status : new.status ≡ old.status
  pub turn : new.turn ≡ old.turn
  pub ran : new.ran ≡ old.ran
  pub assets : new.assets ≡ old.assets

-- a job of a book was found by some test
abbrev pub IsFoundIn : PlainBook → PlainJob → Type 0
IsFoundIn book job = (test : PlainJob → Bool) × (find test book.jobs ≡ Some job)

-- Something holds of the list of a book's jobs. It holds of the one after a command too, if it holds of each list in which
-- a job is created, patched, queued, canceled or dropped.
module _ (book : PlainBook) (P : List PlainJob → Type 0) (same : P book.jobs)
    (created_ : (new : PlainJob) → IsCreatedIn book new → has_no_number book ≡ false → P (put_first (is_job new.id) new book.jobs))
    (patched_ : (job new : PlainJob) → IsFoundIn book job → Resembles job new → P (put_first (is_job new.id) new book.jobs))
    (queued_ : (job : PlainJob) → IsFoundIn book job → (now : ℤ) (turn : ℕ) (ran : PlainRan)
    → has_effect (step_at job (machine.queue now turn ran)) ≡ true
    → P (put_first (is_job (moved (machine.queue now turn ran) job).id) (moved (machine.queue now turn ran) job) book.jobs))
    (canceled_ : (job : PlainJob) → IsFoundIn book job → (now : ℤ) → has_effect (step_at job (machine.cancel now)) ≡ true
    → P (put_first (is_job (moved (machine.cancel now) job).id) (moved (machine.cancel now) job) book.jobs))
    (dropped_ : (id : List ℕ) → P (without_first (is_job id) book.jobs)) where
  abbrev Has : PlainVerdict → Type 0
  Has verdict = P (after_verdict book verdict).jobs

  has_if : (b : Bool) (u v : PlainVerdict) → (b ≡ true → Has u) → (b ≡ false → Has v) → Has (if b then u else v)
  has_if true u v f g = f refl
  has_if false u v f g = g refl

  of_found : (user id : List ℕ) (verdict : PlainJob → PlainVerdict)
      → ((job : PlainJob) → IsFoundIn book job → Has (verdict job))
      → Has (option_map_or verdict (job_of user id book) (refused JobNotFound))
  of_found user id verdict each = by (job_of user id book) refl
    where
      by : (o : Option PlainJob) → job_of user id book ≡ o → Has (option_map_or verdict o (refused JobNotFound))
      by None e = same
      by (Some job) e = each job (is_found user id, e)

  not_not : (b : Bool) → not b ≡ false → b ≡ true
  not_not true e = refl
  not_not false e = absurd cc

  pub command_leaves : (user : List ℕ) (asked : PlainCommand) (now : ℤ) → P (next_book book user asked now).jobs
  command_leaves user (create title description process level) now =
      let new : PlainJob = created book user title description process level now in
      has_if (is_full book user) _ _ (λ _. same)
      (λ _. has_if (has_no_number book) _ _ (λ _. same)
      (λ left. created_ new (record { id = refl; created = refl }) left))
  command_leaves user (patch id title description process level) now =
      of_found user id _ (λ job found.
      let new : PlainJob = patched title description process level now job in
      has_if (is_busy job.status) _ _ (λ _. same)
      (λ _. patched_ job new found (record { id = refl; status = refl; turn = refl; ran = refl; assets = refl })))
  command_leaves user (delete id) now = of_found user id _ (λ job found. dropped_ id)
  command_leaves user (queue id) now =
      of_found user id _ (λ job found.
      let event = machine.queue now book.next (to_run book job) in
      has_if (not (has_effect (step_at job event))) _ _ (λ _. same)
      (λ effect. has_if (has_no_number book) _ _ (λ _. same)
      (λ _. queued_ job found now book.next (to_run book job) (not_not (has_effect (step_at job event)) effect))))
  command_leaves user (cancel id) now =
      of_found user id _ (λ job found.
      has_if (has_effect (step_at job (machine.cancel now))) _ _ (λ effect. canceled_ job found now effect) (λ _. same))
  command_leaves user (store process) now =
      let stored : PlainVerdict = done (put_process (record { user = user; process = process })) in
      let full : Bool = not (has_process user process.id book) && nat_le most_processes (count_by (is_process_of user) book.processes) in
      has_if (is_some (process_named process.id)) (refused PredefinedProcessExists) (if full then refused ProcessLimit else stored)
      (λ _. same) (λ _. has_if full (refused ProcessLimit) stored (λ _. same) (λ _. same))
  command_leaves user (forget id) now =
      has_if (has_process user id book) (done (drop_process user id)) (refused ProcessNotFound) (λ _. same) (λ _. same)

-- ---- numbers after a command

-- the one that is found is put anew
numbered_put : (test : PlainJob → Bool) (low next : ℕ) (jobs : List PlainJob) (job new : PlainJob) → AreNumbered low jobs next
    → find test jobs ≡ Some job → new.id ≡ job.id → AreNumbered low (put_first (is_job new.id) new jobs) next
numbered_put test low next [] job new numbered e same = absurd cc
numbered_put test low next (a ∷ jobs) job new numbered e same =
    elim (cases_Bool (is_job new.id a)) [
      | inl t ↦ rw t (numbered.0, same_name_is a.id new.id t ∙ numbered.1, numbered.2, numbered.3, numbered.4)
      | inr f ↦
          elim (cases_Bool (test a)) [
            | inl found ↦
                let is : a ≡ job = same_Some _ _ (rw found at e) in
                let stands : is_job new.id a ≡ true =
                ap (same_name a.id) (same ∙ ap (λ (j : PlainJob). j.id) (sym is)) ∙ same_name_refl a.id in
                absurd cc
            | inr not_found ↦
                rw f (
                  numbered.0,
                  numbered.1,
                  numbered.2,
                  numbered.3,
                  numbered_put test (numbered.0 + 1) next jobs job new numbered.4 (rw not_found at e) same,
                )
          ]
    ]

numbered_without : (test : PlainJob → Bool) (low next : ℕ) (jobs : List PlainJob) → AreNumbered low jobs next
    → AreNumbered low (without_first test jobs) next
numbered_without test low next [] n = n
numbered_without test low next (a ∷ jobs) n =
    elim (cases_Bool (test a)) [
      | inl t ↦ rw t (numbered_lower (n.0 + 1) low next jobs (omega (arith, n.2)) n.4)
      | inr f ↦ rw f (n.0, n.1, n.2, n.3, numbered_without test (n.0 + 1) next jobs n.4)
    ]

-- the ids of a list of jobs are numbers below one that a book may have next
abbrev HasNumbers : List PlainJob → Type 0
HasNumbers jobs = (next : ℕ) × (next ≤ last_next) × AreNumbered 1 jobs next

numbers_left : (next : ℕ) → next ≤ last_next → (next == last_next) ≡ false → next + 1 ≤ last_next
numbers_left next small e = grind (arith, nat_tests)

command_numbers : (book : PlainBook) → IsBook book → (user : List ℕ) (asked : PlainCommand) (now : ℤ)
    → HasNumbers (next_book book user asked now).jobs
command_numbers book valid =
    command_leaves book HasNumbers (book.next, valid.bounded, valid.numbered)
    (λ new fresh left. (
      book.next + 1,
      numbers_left book.next valid.bounded left,
      subst (λ jobs. AreNumbered 1 jobs (book.next + 1)) (sym (put_at_end 1 book.next book.jobs new valid.bounded valid.numbered fresh.id))
          (numbered_append 1 book.next book.jobs new valid.numbered fresh.id),
    ))
    (λ job new found alike. put job new found alike.id)
    (λ job found now turn ran effect. put job (moved (machine.queue now turn ran) job) found
    (queue_id job.status (has_assets job) job now turn ran))
    (λ job found now effect. put job (moved (machine.cancel now) job) found (cancel_id job.status (has_assets job) job now))
    (λ id. (book.next, valid.bounded, numbered_without (is_job id) 1 book.next book.jobs valid.numbered))
  where
    put : (job new : PlainJob) → IsFoundIn book job → new.id ≡ job.id → HasNumbers (put_first (is_job new.id) new book.jobs)
    put job new found id =
        (book.next, valid.bounded, numbered_put found.0 1 book.next book.jobs job new valid.numbered found.1 id)

-- a job that is found after a command is the one of its id
pub command_named : (book : PlainBook) → IsBook book → (user : List ℕ) (asked : PlainCommand) (now : ℤ)
    (test : PlainJob → Bool) (job : PlainJob) → find test (next_book book user asked now).jobs ≡ Some job
    → job_named job.id (next_book book user asked now) ≡ Some job
command_named book valid user asked now test job e =
    let jobs = (next_book book user asked now).jobs in
    let numbers = command_numbers book valid user asked now in
    found_one (λ (j : PlainJob). find (is_job j.id) jobs ≡ Some j) test jobs job
    (all_named 1 numbers.0 jobs numbers.1 numbers.2) e
