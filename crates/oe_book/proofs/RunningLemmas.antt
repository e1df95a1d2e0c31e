-- Which job runs after a command.
use Rattle.std.proofs.Common.{◌≡◌, ◌⊎◌, inl, inr, ℕ, ℤ, Bool, true, false, not, if◌then◌else◌, List, [], ◌∷◌, Option, Some, None, refl}
use Rattle.std.specs.Prelude.{find, count_by, is_some, nat_le, ◌&&◌}
use Rattle.std.specs.List.{AllByRecursion}
use Rattle.std.specs.Option.{option_map_or}
use Rattle.std.proofs.lemmas.Bool.{cases_Bool}
use Rattle.oe_graph.specs.Catalogue.{process_named}
use Rattle.oe_jobs.specs.Changes.{is_job, put_first, without_first}
use Rattle.oe_jobs.specs.Machine as machine
use Rattle.oe_jobs.specs.Machine.{after, has_assets, has_effect, is_busy, is_running, moved, step_at, step_of}
use Rattle.oe_jobs.specs.Plain.{PlainBook, PlainCommand, PlainJob, PlainRan, PlainVerdict, create, patch, delete, queue, cancel, store, forget, put_process, drop_process}
use Rattle.oe_jobs.specs.Valid.{AllApart, AreApart}
use Rattle.oe_jobs.specs.Verdicts.{after_verdict, created, done, has_no_number, has_process, is_full, is_process_of, job_of, most_processes, next, patched, refused, to_run}
use Rattle.oe_book.specs.Laws.{KeepsRunning}
use Rattle.oe_jobs.specs.declared.command.JobFault.TheVariants.{JobNotFound, PredefinedProcessExists, ProcessLimit, ProcessNotFound}
use Rattle.oe_jobs.specs.declared.status.Status.{Status}
use Rattle.oe_jobs.specs.declared.status.Status.TheVariants.{Created, Queued, Running, Canceled, Finished, Error}

-- ---- lists of jobs

abbrev pub runs_in : List PlainJob → Option PlainJob
runs_in jobs = find (λ (job : PlainJob). is_running job.status) jobs

-- the same job runs, or none
abbrev StaysOrNone : List PlainJob → List PlainJob → Type 0
StaysOrNone before new = (runs_in new ≡ runs_in before) ⊎ (runs_in new ≡ None)

-- beside a job that runs no other one does
pub none_beside : (job : PlainJob) (jobs : List PlainJob) → is_running job.status ≡ true → AllByRecursion (AreApart job) jobs
    → runs_in jobs ≡ None
none_beside job [] runs apart = refl
none_beside job (x ∷ jobs) runs apart = rw (apart.0.one_runs runs) (none_beside job jobs runs apart.1)

put_stays : (id : List ℕ) (new : PlainJob) (jobs : List PlainJob) → is_running new.status ≡ false → AllApart jobs
    → StaysOrNone jobs (put_first (is_job id) new jobs)
put_stays id new [] stopped apart = inl (rw stopped refl)
put_stays id new (a ∷ jobs) stopped apart =
    elim (cases_Bool (is_job id a)) [
      | inl t ↦
          elim (cases_Bool (is_running a.status)) [
            | inl runs ↦ inr (rw (t, stopped) (none_beside a jobs runs apart.0))
            | inr stands ↦ inl (rw (t, stopped, stands) refl)
          ]
      | inr f ↦
          elim (cases_Bool (is_running a.status)) [
            | inl runs ↦ inl (rw (f, runs) refl)
            | inr stands ↦ rw (f, stands) (put_stays id new jobs stopped apart.1)
          ]
    ]

drop_stays : (id : List ℕ) (jobs : List PlainJob) → AllApart jobs → StaysOrNone jobs (without_first (is_job id) jobs)
drop_stays id [] apart = inl refl
drop_stays id (a ∷ jobs) apart =
    elim (cases_Bool (is_job id a)) [
      | inl t ↦
          elim (cases_Bool (is_running a.status)) [
            | inl runs ↦ inr (rw t (none_beside a jobs runs apart.0))
            | inr stands ↦ inl (rw (t, stands) refl)
          ]
      | inr f ↦
          elim (cases_Bool (is_running a.status)) [
            | inl runs ↦ inl (rw (f, runs) refl)
            | inr stands ↦ rw (f, stands) (drop_stays id jobs apart.1)
          ]
    ]

-- ---- statuses after a command

idle_stands : (s : Status) → is_busy s ≡ false → is_running s ≡ false
idle_stands Created idle = refl
idle_stands Queued idle = absurd cc
idle_stands Running idle = absurd cc
idle_stands Canceled idle = refl
idle_stands Finished idle = refl
idle_stands Error idle = refl

queued_stands : (s : Status) (some : Bool) (job : PlainJob) (now : ℤ) (turn : ℕ) (ran : PlainRan)
    → not (has_effect (step_of s (machine.queue now turn ran) some)) ≡ false
    → is_running (after (step_of s (machine.queue now turn ran) some) job).status ≡ false
queued_stands Created some job now turn ran effect = refl
queued_stands Queued some job now turn ran effect = absurd cc
queued_stands Running some job now turn ran effect = absurd cc
queued_stands Canceled some job now turn ran effect = refl
queued_stands Finished some job now turn ran effect = refl
queued_stands Error some job now turn ran effect = refl

canceled_stands : (s : Status) (some : Bool) (job : PlainJob) (now : ℤ)
    → has_effect (step_of s (machine.cancel now) some) ≡ true
    → is_running (after (step_of s (machine.cancel now) some) job).status ≡ false
canceled_stands Created some job now effect = absurd cc
canceled_stands Queued some job now effect = refl
canceled_stands Running true job now effect = refl
canceled_stands Running false job now effect = refl
canceled_stands Canceled some job now effect = absurd cc
canceled_stands Finished some job now effect = absurd cc
canceled_stands Error some job now effect = absurd cc

-- ---- verdicts

abbrev Stays : PlainBook → PlainVerdict → Type 0
Stays book verdict = StaysOrNone book.jobs (after_verdict book verdict).jobs

stays_if : (book : PlainBook) (b : Bool) (u v : PlainVerdict) → (b ≡ true → Stays book u) → (b ≡ false → Stays book v)
    → Stays book (if b then u else v)
stays_if book true u v f g = f refl
stays_if book false u v f g = g refl

of_found : (book : PlainBook) (found : Option PlainJob) (verdict : PlainJob → PlainVerdict)
    → ((job : PlainJob) → Stays book (verdict job)) → Stays book (option_map_or verdict found (refused JobNotFound))
of_found book None verdict each = inl refl
of_found book (Some job) verdict each = each job

command_stays : (book : PlainBook) (user : List ℕ) (command : PlainCommand) (now : ℤ) → AllApart book.jobs
    → StaysOrNone book.jobs (next book user command now).jobs
command_stays book user (create title description process level) now apart =
    let new : PlainJob = created book user title description process level now in
    stays_if book (is_full book user) _ _ (λ _. inl refl)
    (λ _. stays_if book (has_no_number book) _ _ (λ _. inl refl) (λ _. put_stays new.id new book.jobs refl apart))
command_stays book user (patch id title description process level) now apart =
    of_found book (job_of user id book) _ (λ job.
    let new : PlainJob = patched title description process level now job in
    stays_if book (is_busy job.status) _ _ (λ _. inl refl)
    (λ idle. put_stays new.id new book.jobs (idle_stands job.status idle) apart))
command_stays book user (delete id) now apart =
    of_found book (job_of user id book) _ (λ job. drop_stays id book.jobs apart)
command_stays book user (queue id) now apart =
    of_found book (job_of user id book) _ (λ job.
    let event = machine.queue now book.next (to_run book job) in
    let new : PlainJob = moved event job in
    stays_if book (not (has_effect (step_at job event))) _ _ (λ _. inl refl)
    (λ effect. stays_if book (has_no_number book) _ _ (λ _. inl refl)
    (λ _. put_stays new.id new book.jobs (queued_stands job.status (has_assets job) job now book.next (to_run book job) effect) apart)))
command_stays book user (cancel id) now apart =
    of_found book (job_of user id book) _ (λ job.
    let event = machine.cancel now in
    let new : PlainJob = moved event job in
    stays_if book (has_effect (step_at job event)) _ _
    (λ effect. put_stays new.id new book.jobs (canceled_stands job.status (has_assets job) job now effect) apart) (λ _. inl refl))
command_stays book user (store process) now apart =
    let stored : PlainVerdict = done (put_process (record { user = user; process = process })) in
    let full : Bool = not (has_process user process.id book) && nat_le most_processes (count_by (is_process_of user) book.processes) in
    stays_if book (is_some (process_named process.id)) (refused PredefinedProcessExists) (if full then refused ProcessLimit else stored)
    (λ _. inl refl) (λ _. stays_if book full (refused ProcessLimit) stored (λ _. inl refl) (λ _. inl refl))
command_stays book user (forget id) now apart =
    stays_if book (has_process user id book) (done (drop_process user id)) (refused ProcessNotFound) (λ _. inl refl) (λ _. inl refl)

pub running_stays : KeepsRunning
running_stays book user command now valid = command_stays book user command now valid.apart
