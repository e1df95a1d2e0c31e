-- The steps of jobs keep a book valid.
use Rattle.std.proofs.Common.{◌≡◌, ℕ, ℤ, true, false, List, [], ◌∷◌, Some, None, Result, Ok, Err, IfOk, refl, ap, subst}
use Rattle.std.specs.Prelude.{⊤}
use Rattle.std.specs.List.{AllByRecursion}
use Rattle.oe_dims.specs.Instant.{IsInstant}
use Rattle.oe_jobs.specs.Changes.{at_first, changed, is_job}
use Rattle.oe_jobs.specs.Events.{MayCome, event_of, job_named, moved_book, running_job, step}
use Rattle.oe_jobs.specs.Machine as machine
use Rattle.oe_jobs.specs.Machine.{begins, breaks, drops_assets, ends, failure, gains, has_assets, is_busy, is_running, may_come, moved, step_at, with_status}
use Rattle.oe_jobs.specs.Plain.{PlainBook, PlainChange, PlainJob}
use Rattle.oe_jobs.specs.Valid.{AreApart, IsAsset, IsBook, IsEvent, IsJob}
use Rattle.oe_jobs.specs.declared.event.JobEvent.{JobEvent}
use Rattle.oe_jobs.specs.declared.event.JobEvent.TheVariants.{Start, Asset, Finish, Fail}
use Rattle.oe_jobs.specs.declared.job.Asset as assets
use Rattle.oe_jobs.specs.declared.status.Status.TheVariants.{Queued, Running, Finished, Error}
use Rattle.oe_jobs.proofs.LineLemmas.{change_is_line}
use Rattle.oe_jobs.proofs.MachineLemmas.{asset_after, asset_runs, fail_after, finish_after, start_after, start_waits}
use Rattle.oe_jobs.proofs.ValidLemmas.{Replaces, all_append, book_replaced, change_replaces, none_found, old_of, starts_apart, stays_apart}

-- ---- the job after each event is one of a valid book

idle : false ≡ true → ⊥
idle e = cc

begun_job : (next : ℕ) (now : ℤ) (job : PlainJob) → IsInstant now → job.status ≡ Queued → IsJob next job
    → IsJob next (with_status Running (begins now job))
begun_job next now job at waits valid = record {
  process = valid.process;
  title = valid.title;
  description = valid.description;
  created = valid.created;
  updated = at;
  ran = valid.ran;
  assets = tt;
  logs = tt;
  runs = λ busy. valid.runs (ap is_busy waits);
  drew = λ busy. valid.drew (ap is_busy waits);
}

grown_job : (next : ℕ) (now : ℤ) (new : assets.Asset) (job : PlainJob) → IsInstant now → IsAsset new → job.status ≡ Running
    → IsJob next job → IsJob next (with_status Running (gains now new job))
grown_job next now new job at small waits valid = record {
  process = valid.process;
  title = valid.title;
  description = valid.description;
  created = valid.created;
  updated = at;
  ran = valid.ran;
  logs = tt;
  assets = all_append IsAsset job.assets new valid.assets small;
  runs = λ busy. valid.runs (ap is_busy waits);
  drew = λ busy. valid.drew (ap is_busy waits);
}

ended_job : (next : ℕ) (now : ℤ) (job : PlainJob) → IsInstant now → IsJob next job
    → IsJob next (with_status Finished (ends now job))
ended_job next now job at valid = record {
  process = valid.process;
  title = valid.title;
  description = valid.description;
  created = valid.created;
  updated = at;
  ran = valid.ran;
  assets = valid.assets;
  logs = tt;
  runs = λ busy. cc;
  drew = λ busy. absurd (idle busy);
}

broken_job : (next : ℕ) (now : ℤ) (code : List ℕ) (job : PlainJob) → IsInstant now → IsJob next job
    → IsJob next (with_status Error (breaks now code job))
broken_job next now code job at valid = record {
  process = valid.process;
  title = valid.title;
  description = valid.description;
  created = valid.created;
  updated = at;
  ran = valid.ran;
  assets = valid.assets;
  logs = record { before = job.logs; last = failure code; is_last = refl; at_error = refl; coded = refl };
  runs = λ busy. cc;
  drew = λ busy. absurd (idle busy);
}

pub reopened_job : (next : ℕ) (job : PlainJob) → job.status ≡ Running → IsJob next job
    → IsJob next (with_status Queued (drops_assets job))
reopened_job next job runs valid = record {
  process = valid.process;
  title = valid.title;
  description = valid.description;
  created = valid.created;
  updated = valid.updated;
  ran = valid.ran;
  assets = tt;
  logs = tt;
  runs = λ busy. valid.runs (ap is_busy runs);
  drew = λ busy. valid.drew (ap is_busy runs);
}

-- ---- the book after each event

abbrev pub anything : PlainJob → Type 0
anything x = ⊤

pub all_anything : (jobs : List PlainJob) → AllByRecursion anything jobs
all_anything [] = tt
all_anything (job ∷ jobs) = (tt, all_anything jobs)

module _ (book : PlainBook) (id : List ℕ) (job : PlainJob) (found : job_named id book ≡ Some job) (valid : IsBook book) where
  replaces : (event : machine.Event) → Replaces job (moved event job) book.jobs (at_first (is_job id) (moved event) book.jobs)
  replaces event = change_replaces id (moved event) book.jobs job found

  valid_job : (event : machine.Event) → IsJob book.next job
  valid_job event = old_of job (moved event job) (IsJob book.next) (replaces event) valid.jobs

  -- the moved job has this value
  moved_to : (event : machine.Event) (new : PlainJob) → moved event job ≡ new
      → (Q : PlainJob → Type 0) → ((x : PlainJob) → Q x → AreApart x job → AreApart x new) → AllByRecursion Q book.jobs
      → IsJob book.next new → new.id ≡ job.id → new.user ≡ job.user → IsBook (moved_book book id event)
  moved_to event new is_new Q fresh q valid_new same_id same_user =
      let R : Replaces job new book.jobs (at_first (is_job id) (moved event) book.jobs) =
      subst (λ (j : PlainJob). Replaces job j book.jobs (at_first (is_job id) (moved event) book.jobs)) is_new (replaces event) in
      book_replaced job new Q fresh book (at_first (is_job id) (moved event) book.jobs) R valid q valid_new same_id same_user

  pub started_keeps : (now : ℤ) → IsInstant now → may_come (step_at job (machine.start now)) ≡ true → running_job book ≡ None
      → IsBook (moved_book book id (machine.start now))
  started_keeps now at comes free =
      let waits = start_waits now job.status (has_assets job) comes in
      moved_to (machine.start now) (with_status Running (begins now job)) (start_after now job.status (has_assets job) job comes)
      (λ x. is_running x.status ≡ false)
      (starts_apart job (with_status Running (begins now job)) (λ busy. ap is_busy waits) refl)
      (none_found (λ (x : PlainJob). is_running x.status) book.jobs free)
      (begun_job book.next now job at waits (valid_job (machine.start now))) refl refl

  pub grown_keeps : (now : ℤ) (new : assets.Asset) → IsInstant now → IsAsset new
      → may_come (step_at job (machine.asset now new)) ≡ true → IsBook (moved_book book id (machine.asset now new))
  grown_keeps now new at small comes =
      let runs = asset_runs now new job.status (has_assets job) comes in
      moved_to (machine.asset now new) (with_status Running (gains now new job))
      (asset_after now new job.status (has_assets job) job comes) anything
      (λ x q. stays_apart job (with_status Running (gains now new job)) (λ _. ap is_running runs) (λ _. ap is_busy runs) refl x)
      (all_anything book.jobs)
      (grown_job book.next now new job at small runs (valid_job (machine.asset now new))) refl refl

  pub ended_keeps : (now : ℤ) → IsInstant now → may_come (step_at job (machine.finish now)) ≡ true
      → IsBook (moved_book book id (machine.finish now))
  ended_keeps now at comes =
      moved_to (machine.finish now) (with_status Finished (ends now job))
      (finish_after now job.status (has_assets job) job comes) anything
      (λ x q. stays_apart job (with_status Finished (ends now job)) (λ runs. cc) (λ busy. cc) refl x)
      (all_anything book.jobs) (ended_job book.next now job at (valid_job (machine.finish now))) refl refl

  pub broken_keeps : (now : ℤ) (code : List ℕ) → IsInstant now → may_come (step_at job (machine.fail now code)) ≡ true
      → IsBook (moved_book book id (machine.fail now code))
  broken_keeps now code at comes =
      moved_to (machine.fail now code) (with_status Error (breaks now code job))
      (fail_after now code job.status (has_assets job) job comes) anything
      (λ x q. stays_apart job (with_status Error (breaks now code job)) (λ runs. cc) (λ busy. cc) refl x)
      (all_anything book.jobs) (broken_job book.next now code job at (valid_job (machine.fail now code))) refl refl

moved_keeps : (book : PlainBook) (id : List ℕ) (event : JobEvent) (now : ℤ) → MayCome book id event now → IsBook book
    → IsEvent event → IsInstant now → IsBook (moved_book book id (event_of event now))
moved_keeps book id Start now may valid brings at = started_keeps book id may.job may.found valid now at may.allowed may.free
moved_keeps book id (Asset new) now may valid brings at =
    grown_keeps book id may.job may.found valid now new at brings may.allowed
moved_keeps book id Finish now may valid brings at = ended_keeps book id may.job may.found valid now at may.allowed
moved_keeps book id (Fail code) now may valid brings at =
    broken_keeps book id may.job may.found valid now code at may.allowed

pub step_keeps : (book : PlainBook) (id : List ℕ) (event : JobEvent) (now : ℤ) (change : PlainChange)
    → MayCome book id event now → Some change ≡ step book id event now → IsBook book → IsEvent event → IsInstant now
    → IsBook (changed book change)
step_keeps book id event now change may is_step valid brings at =
    rw (change_is_line book id event now change may is_step) (moved_keeps book id event now may valid brings at)

-- what holds of the value of an Ok
pub if_ok : {T E : Type 0} (P Q : T → Type 0) (r : Result T E) → ((x : T) → P x → Q x) → IfOk r P → IfOk r Q
if_ok P Q (Ok x) f h = f x h
if_ok P Q (Err e) f h = h
