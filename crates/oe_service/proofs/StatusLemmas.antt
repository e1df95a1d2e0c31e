-- What becomes of the jobs of a book, and along which statuses they move.
use Rattle.std.proofs.Common.{◌≡◌, ◌⊎◌, ℕ, ℤ, Bool, true, false, List, [], ◌∷◌, Option, Some, None, refl, ap, sym, ◌∙◌, subst, inl, inr}
use Rattle.std.specs.Prelude.{find, length, nat_lt, if◌then◌else◌}
use Rattle.std.specs.List.{AllByRecursion}
use Rattle.std.specs.Option.{option_map, option_map_or}
use Rattle.std.proofs.lemmas.Bool.{cases_Bool}
use Rattle.std.proofs.lemmas.Option.{same_Some}
use Rattle.oe_jobs.specs.Changes.{at_first, changed, is_job, put_first, without_first}
use Rattle.oe_jobs.specs.Events.{job_named, moved_book, next_queued, running_job}
use Rattle.oe_jobs.specs.Machine as machine
use Rattle.oe_jobs.specs.Machine.{Step, after, has_assets, has_effect, is_busy, is_queued, is_running, moved, never, stays, step_at, step_of, to, with_status}
use Rattle.oe_jobs.specs.Plain.{PlainBook, PlainCommand, PlainJob, PlainRan, put_job}
use Rattle.oe_jobs.specs.Valid.{IsBook}
use Rattle.oe_jobs.specs.Verdicts.{next as next_book}
use Rattle.oe_service.specs.Finishes.{CameFrom, IsCreatedIn, MovesTo, StatusesMoveAlong}
use Rattle.oe_service.specs.Refusals.{code_of}
use Rattle.oe_service.specs.Runs.{ran_of}
use Rattle.oe_service.specs.States.{Due, rest, start, plan, round, store as store_due, finish, command, no_command, tick, refusal, reopen, Setting, State, asset_of as asset_in, count_assets, due_of, moved_running, reopened, ticked}
use Rattle.oe_service.proofs.BookLemmas.{asset_of, fail_of, finish_of, first_queued, queued_found, reopen_of, running_found, start_of}
use Rattle.oe_service.proofs.NamedLemmas.{IsFoundIn, Resembles, all_named, cancel_id, command_leaves, map_all, named_of, queue_id}

-- one of two that a test chooses
pub if_due : (P : Due → Type 0) (d other : Due) (b : Bool) → P d → P other → P (if b then d else other)
if_due P d other true one another = one
if_due P d other false one another = another

-- ---- lists in which one job has changed

module _ (P : PlainJob → Type 0) where
  pub all_changed : (test : PlainJob → Bool) (change : PlainJob → PlainJob) (jobs : List PlainJob) (job : PlainJob)
      → find test jobs ≡ Some job → P (change job) → AllByRecursion P jobs → AllByRecursion P (at_first test change jobs)
  all_changed test change [] job e new all = tt
  all_changed test change (a ∷ jobs) job e new all =
      elim (cases_Bool (test a)) [
        | inl t ↦
            let same : a ≡ job = same_Some _ _ (rw t at e) in
            rw t (subst (λ j. P (change j)) (sym same) new, all.1)
        | inr f ↦ rw f (all.0, all_changed test change jobs job (rw f at e) new all.1)
      ]

  pub all_put : (test : PlainJob → Bool) (new : PlainJob) (jobs : List PlainJob) → P new → AllByRecursion P jobs
      → AllByRecursion P (put_first test new jobs)
  all_put test new [] fresh all = (fresh, tt)
  all_put test new (a ∷ jobs) fresh all =
      elim (cases_Bool (test a)) [
        | inl t ↦ rw t (fresh, all.1)
        | inr f ↦ rw f (all.0, all_put test new jobs fresh all.1)
      ]

  pub all_without : (test : PlainJob → Bool) (jobs : List PlainJob) → AllByRecursion P jobs
      → AllByRecursion P (without_first test jobs)
  all_without test [] all = tt
  all_without test (a ∷ jobs) all =
      elim (cases_Bool (test a)) [
        | inl t ↦ rw t all.1
        | inr f ↦ rw f (all.0, all_without test jobs all.1)
      ]

-- ---- a command

-- Something holds of all jobs of a book. It holds of those after a command too, if it holds of a job that is created, and
-- of one that is patched, queued or canceled.
module _ (book : PlainBook) (P : PlainJob → Type 0) (all : AllByRecursion P book.jobs)
    (created_ : (job : PlainJob) → IsCreatedIn book job → P job)
    (patched_ : (job new : PlainJob) → IsFoundIn book job → Resembles job new → P new)
    (queued_ : (job : PlainJob) → IsFoundIn book job → (now : ℤ) (turn : ℕ) (ran : PlainRan)
    → has_effect (step_at job (machine.queue now turn ran)) ≡ true → P (moved (machine.queue now turn ran) job))
    (canceled_ : (job : PlainJob) → IsFoundIn book job → (now : ℤ) → has_effect (step_at job (machine.cancel now)) ≡ true
    → P (moved (machine.cancel now) job)) where
  pub command_all : (user : List ℕ) (asked : PlainCommand) (now : ℤ)
      → AllByRecursion P (next_book book user asked now).jobs
  command_all =
      command_leaves book (AllByRecursion P) all (λ new fresh left. put new (created_ new fresh))
      (λ job new found alike. put new (patched_ job new found alike))
      (λ job found now turn ran effect. put (moved (machine.queue now turn ran) job) (queued_ job found now turn ran effect))
      (λ job found now effect. put (moved (machine.cancel now) job) (canceled_ job found now effect))
      (λ id. all_without P (is_job id) book.jobs all)
    where
      put : (new : PlainJob) → P new → AllByRecursion P (put_first (is_job new.id) new book.jobs)
      put new is = all_put P (is_job new.id) new book.jobs is all

-- ---- an opening

pub reopen_all : (book : PlainBook) (P : PlainJob → Type 0) → AllByRecursion P book.jobs
    → ((job : PlainJob) → running_job book ≡ Some job → P (moved machine.reopen job)) → AllByRecursion P (reopened book).jobs
reopen_all book P all moved_ = by (running_job book) refl
  where
    by : (o : Option PlainJob) → running_job book ≡ o
        → AllByRecursion P (option_map_or (changed book)
        (option_map (λ (job : PlainJob). put_job (moved machine.reopen job) book.next) o) book).jobs
    by None e = all
    by (Some job) e =
        let new : PlainJob = moved machine.reopen job in
        all_put P (is_job new.id) new book.jobs (moved_ job e) all

-- ---- an event of the run of the job that runs

pub run_all : (book : PlainBook) (P : PlainJob → Type 0) (event : machine.Event) → AllByRecursion P book.jobs
    → ((job : PlainJob) → running_job book ≡ Some job → P (moved event job)) → IsBook book
    → AllByRecursion P (moved_running book event).jobs
run_all book P event all moved_ valid = by (running_job book) refl
  where
    by : (o : Option PlainJob) → running_job book ≡ o
        → AllByRecursion P (option_map_or (λ (job : PlainJob). moved_book book job.id event) o book).jobs
    by None e = all
    by (Some job) e =
        all_changed P (is_job job.id) (moved event) book.jobs job (named_of (λ (j : PlainJob). is_running j.status) book job valid e)
        (moved_ job e) all

-- ---- lines of the status machine

-- a step keeps the status, or leads to that of its line
step_leads : (step : Step) (job : PlainJob)
    → ((after step job).status ≡ job.status) ⊎ ((change : PlainJob → PlainJob) × (step ≡ to (after step job).status change))
step_leads never job = inl refl
step_leads stays job = inl refl
step_leads (to status change) job = inr (change, refl)

pub leads : (job : PlainJob) (event : machine.Event)
    → ((moved event job).status ≡ job.status) ⊎ MovesTo job (moved event job).status
leads job event =
    elim (step_leads (step_at job event) job) [
      | inl same ↦ inl same
      | inr line ↦ inr (event, line.0, line.1)
    ]

-- ---- statuses

module _ (book : PlainBook) (valid : IsBook book) where
  abbrev Came : PlainJob → Type 0
  Came job = IsCreatedIn book job ⊎ CameFrom book job

  came : (job new : PlainJob) → IsFoundIn book job → new.id ≡ job.id
      → (new.status ≡ job.status) ⊎ MovesTo job new.status → Came new
  came job new found id moves = inr (record {
    old = job;
    named = ap (λ i. job_named i book) id ∙ named_of found.0 book job valid found.1;
    moved = moves;
  })

  all_came : AllByRecursion Came book.jobs
  all_came =
      map_all (λ (job : PlainJob). find (is_job job.id) book.jobs ≡ Some job) Came book.jobs
      (λ job e. inr (record { old = job; named = e; moved = inl refl }))
      (all_named 1 book.next book.jobs valid.bounded valid.numbered)

  running : (job : PlainJob) → running_job book ≡ Some job → IsFoundIn book job
  running job e = ((λ (j : PlainJob). is_running j.status), e)

  -- the job that runs takes a step
  step_came : (event : machine.Event) → ((job : PlainJob) → running_job book ≡ Some job → (moved event job).id ≡ job.id)
      → AllByRecursion Came (moved_running book event).jobs
  step_came event ids =
      run_all book Came event all_came (λ job e. came job (moved event job) (running job e) (ids job e) (leads job event)) valid

  asset_came : (now : ℤ) (setting : Setting) (job : PlainJob) (k : ℕ) (text : List ℕ)
      → AllByRecursion Came (moved_running book (machine.asset now (asset_in setting job k text))).jobs
  asset_came now setting job k text =
      step_came (machine.asset now (asset_in setting job k text)) (λ j e. ap (λ (x : PlainJob). x.id)
      (asset_of j.status (has_assets j) now (asset_in setting job k text) j (running_found book j e)))

  finish_came : (now : ℤ) → AllByRecursion Came (moved_running book (machine.finish now)).jobs
  finish_came now =
      step_came (machine.finish now) (λ j e. ap (λ (x : PlainJob). x.id)
      (finish_of j.status (has_assets j) now j (running_found book j e)))

  fail_came : (now : ℤ) (code : List ℕ) → AllByRecursion Came (moved_running book (machine.fail now code)).jobs
  fail_came now code =
      step_came (machine.fail now code) (λ j e. ap (λ (x : PlainJob). x.id)
      (fail_of j.status (has_assets j) now code j (running_found book j e)))

  -- the job of least turn starts
  start_came : (now : ℤ) (job : PlainJob) → next_queued book ≡ Some job
      → AllByRecursion Came (moved_book book job.id (machine.start now)).jobs
  start_came now job e =
      let found : IsFoundIn book job = (first_queued book, e) in
      let line = start_of job.status (has_assets job) now job (queued_found book job e) in
      all_changed Came (is_job job.id) (moved (machine.start now)) book.jobs job (named_of (first_queued book) book job valid e)
      (came job (moved (machine.start now) job) found (ap (λ (x : PlainJob). x.id) line) (leads job (machine.start now))) all_came

  due_came : (setting : Setting) (job : PlainJob) (done : Option ℕ) (now : ℤ) (text : List ℕ) (s : State) → s.book ≡ book
      → AllByRecursion Came (ticked setting now text s (due_of setting job done)).book.jobs
  due_came setting job None now text s is =
      if_due (λ d. AllByRecursion Came (ticked setting now text s d).book.jobs)
      (plan job (count_assets job)) (finish job) (nat_lt (count_assets job) (length (setting.ids (ran_of job))))
      (subst (λ b. AllByRecursion Came b.jobs) (sym is) all_came)
      (subst (λ b. AllByRecursion Came (moved_running b (machine.finish now)).jobs) (sym is) (finish_came now))
  due_came setting job (Some done) now text s is =
      if_due (λ d. AllByRecursion Came (ticked setting now text s d).book.jobs)
      (round job (count_assets job) done) (store_due job (count_assets job))
      (nat_lt done (setting.chunks (ran_of job) (count_assets job)))
      (subst (λ b. AllByRecursion Came b.jobs) (sym is) all_came)
      (subst (λ b. AllByRecursion Came
      (moved_running b (machine.asset now (asset_in setting job (count_assets job) text))).jobs) (sym is)
      (asset_came now setting job (count_assets job) text))

pub statuses_move_along : StatusesMoveAlong
statuses_move_along setting s (command user asked now) valid =
    command_all s.book (Came s.book valid) (all_came s.book valid) (λ job fresh. inl fresh)
    (λ job new found alike. came s.book valid job new found alike.id (inl alike.status))
    (λ job found at turn ran effect. came s.book valid job (moved (machine.queue at turn ran) job) found
    (queue_id job.status (has_assets job) job at turn ran) (leads job (machine.queue at turn ran)))
    (λ job found at effect. came s.book valid job (moved (machine.cancel at) job) found
    (cancel_id job.status (has_assets job) job at) (leads job (machine.cancel at))) user asked now
statuses_move_along setting s no_command valid = all_came s.book valid
statuses_move_along setting s (tick now text) valid = by (running_job s.book) (next_queued s.book) refl
  where
    by : (o q : Option PlainJob) → next_queued s.book ≡ q
        → AllByRecursion (Came s.book valid)
        (ticked setting now text s (option_map_or (λ job. due_of setting job s.done) o (option_map_or start q rest))).book.jobs
    by None None e = all_came s.book valid
    by None (Some job) e = start_came s.book valid now job e
    by (Some job) q e = due_came s.book valid setting job s.done now text s refl
statuses_move_along setting s (refusal now reason) valid = fail_came s.book valid now (code_of reason)
statuses_move_along setting s reopen valid =
    reopen_all s.book (Came s.book valid) (all_came s.book valid) (λ job e.
    let line = reopen_of job.status (has_assets job) job (running_found s.book job e) in
    came s.book valid job (moved machine.reopen job) (running s.book valid job e) (ap (λ (x : PlainJob). x.id) line)
    (leads job machine.reopen))
