-- What a command of a user does to a book at a moment, and what is answered (openEO API, batch jobs and user-defined
-- processes).
use Rattle.std.specs.Prelude.{ℕ, ℤ, ◌+◌, ◌-◌, ◌^◌, ◌&&◌, ◌==◌, Bool, List, [], ◌++◌, Option, Some, None, codes, decimal, count_by, nat_le, is_some, not, if◌then◌else◌, find, filter, map, unwrap_or}
use Rattle.std.specs.List.{list_any}
use Rattle.std.specs.Option.{option_map_or}
use Rattle.oe_dims.specs.Names.{same_name}
use Rattle.oe_graph.specs.Catalogue.{process_named}
use Rattle.oe_graph.specs.Tree.{PlainStored}
use Rattle.oe_jobs.specs.Changes.{changed, is_job, is_owned}
use Rattle.oe_jobs.specs.Machine as machine
use Rattle.oe_jobs.specs.Machine.{Event, step_at, has_effect, is_busy, moved}
use Rattle.oe_jobs.specs.Plain.{PlainBook, PlainChange, PlainCommand, PlainJob, PlainOwned, PlainRan, PlainVerdict, put_job, drop_job, put_process, drop_process, create, patch, delete, queue, cancel, store, forget}
use Rattle.oe_jobs.specs.declared.command.JobFault.{JobFault}
use Rattle.oe_jobs.specs.declared.command.JobFault.TheVariants.{JobNotFound, JobLocked, JobLimit, ProcessNotFound, ProcessLimit, PredefinedProcessExists}
use Rattle.oe_jobs.specs.declared.command.Outcome.TheVariants as outcome
use Rattle.oe_jobs.specs.declared.level.Level.{Level}
use Rattle.oe_jobs.specs.declared.status.Status.TheVariants.{Created}

-- most jobs and most stored processes of a user
abbrev pub most_jobs : ℕ
most_jobs = 32

abbrev pub most_processes : ℕ
most_processes = 16

-- the last number that a book may have next: it is never given away
abbrev pub last_next : ℕ
last_next = 2 ^ 64 - 1

-- the id of the job of a number
abbrev pub job_id : ℕ → List ℕ
job_id number = codes "j-" ++ decimal number

-- ---- what belongs to a user: what belongs to another one is not there

abbrev pub is_job_of : List ℕ → PlainJob → Bool
is_job_of user job = same_name job.user user

abbrev pub is_found : List ℕ → List ℕ → PlainJob → Bool
is_found user id job = is_job id job && is_job_of user job

abbrev pub job_of : List ℕ → List ℕ → PlainBook → Option PlainJob
job_of user id book = find (is_found user id) book.jobs

abbrev pub is_process_of : List ℕ → PlainOwned → Bool
is_process_of user owned = same_name owned.user user

abbrev pub has_process : List ℕ → List ℕ → PlainBook → Bool
has_process user id book = list_any (is_owned user id) book.processes

abbrev pub stored_of : List ℕ → PlainBook → List PlainStored
stored_of user book = map (λ (owned : PlainOwned). owned.process) (filter (is_process_of user) book.processes)

-- ---- verdicts

abbrev pub refused : JobFault → PlainVerdict
refused fault = record { change = None; outcome = outcome.Refused fault }

abbrev pub done : PlainChange → PlainVerdict
done change = record { change = Some change; outcome = outcome.Done }

-- a new job
abbrev pub created : PlainBook → List ℕ → Option (List ℕ) → Option (List ℕ) → List ℕ → Level → ℤ → PlainJob
created book user title description process level now = record {
  id = job_id book.next;
  user = user;
  title = title;
  description = description;
  process = process;
  status = Created;
  level = level;
  created = now;
  updated = now;
  turn = 0;
  ran = None;
  logs = [];
  assets = [];
}

-- the user has as many jobs as may be
abbrev pub is_full : PlainBook → List ℕ → Bool
is_full book user = nat_le most_jobs (count_by (is_job_of user) book.jobs)

-- no number is left for another job
abbrev pub has_no_number : PlainBook → Bool
has_no_number book = book.next == last_next

abbrev pub create_verdict : PlainBook → List ℕ → PlainJob → PlainVerdict
create_verdict book user job =
    if is_full book user then refused JobLimit else (
    if has_no_number book then refused JobLimit else record {
      change = Some (put_job job (book.next + 1));
      outcome = outcome.Created job.id;
    })

-- title, description, process and level are those that are given, and the others stay
abbrev pub patched :
    Option (Option (List ℕ)) → Option (Option (List ℕ)) → Option (List ℕ) → Option Level → ℤ → PlainJob → PlainJob
patched title description process level now job = record job {
  title = unwrap_or title job.title;
  description = unwrap_or description job.description;
  process = unwrap_or process job.process;
  level = unwrap_or level job.level;
  updated = now;
}

abbrev pub patch_verdict : PlainBook → PlainJob → PlainJob → PlainVerdict
patch_verdict book job patched_job =
    if is_busy job.status then refused JobLocked else done (put_job patched_job book.next)

-- what a job that is queued now is to run
abbrev pub to_run : PlainBook → PlainJob → PlainRan
to_run book job = record { process = job.process; stored = stored_of job.user book }

-- a job that is queued already, or runs, is left as it is; another one draws the next number as its turn
abbrev pub queue_verdict : PlainBook → PlainJob → Event → PlainVerdict
queue_verdict book job event =
    if not (has_effect (step_at job event)) then record { change = None; outcome = outcome.Queued } else (
    if has_no_number book then refused JobLimit else record {
      change = Some (put_job (moved event job) (book.next + 1));
      outcome = outcome.Queued;
    })

abbrev pub cancel_verdict : PlainBook → PlainJob → Event → PlainVerdict
cancel_verdict book job event =
    if has_effect (step_at job event) then done (put_job (moved event job) book.next)
    else record { change = None; outcome = outcome.Done }

-- a process of the catalogue is not stored again
abbrev pub store_verdict : PlainBook → List ℕ → PlainStored → PlainVerdict
store_verdict book user process =
    if is_some (process_named process.id) then refused PredefinedProcessExists else (
    if not (has_process user process.id book) && nat_le most_processes (count_by (is_process_of user) book.processes)
    then refused ProcessLimit
    else done (put_process (record { user = user; process = process })))

abbrev pub forget_verdict : PlainBook → List ℕ → List ℕ → PlainVerdict
forget_verdict book user id =
    if has_process user id book then done (drop_process user id) else refused ProcessNotFound

-- of the user's job of an id
abbrev pub of_job : PlainBook → List ℕ → List ℕ → (PlainJob → PlainVerdict) → PlainVerdict
of_job book user id verdict = option_map_or verdict (job_of user id book) (refused JobNotFound)

abbrev pub decide : PlainBook → List ℕ → PlainCommand → ℤ → PlainVerdict
decide book user (create title description process level) now =
    create_verdict book user (created book user title description process level now)
decide book user (patch id title description process level) now =
    of_job book user id (λ job. patch_verdict book job (patched title description process level now job))
decide book user (delete id) now = of_job book user id (λ job. done (drop_job id))
decide book user (queue id) now =
    of_job book user id (λ job. queue_verdict book job (machine.queue now book.next (to_run book job)))
decide book user (cancel id) now = of_job book user id (λ job. cancel_verdict book job (machine.cancel now))
decide book user (store process) now = store_verdict book user process
decide book user (forget id) now = forget_verdict book user id

-- ---- the book afterwards

-- the changed book, or the same where nothing changes
abbrev pub after_verdict : PlainBook → PlainVerdict → PlainBook
after_verdict book verdict = option_map_or (changed book) verdict.change book

-- the book after a command of a user at a moment
abbrev pub next : PlainBook → List ℕ → PlainCommand → ℤ → PlainBook
next book user command now = after_verdict book (decide book user command now)
