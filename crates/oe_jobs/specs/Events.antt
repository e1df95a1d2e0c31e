-- What the run of a job, and the opening of a book after a stop, change in the book.
use Rattle.std.specs.Prelude.{◌≡◌, ℕ, ℤ, List, Option, Some, None, find, true, Bool, not, ◌&&◌, nat_lt}
use Rattle.std.specs.List.{list_all, list_any}
use Rattle.std.specs.Option.{option_map}
use Rattle.oe_jobs.specs.Changes.{at_first, is_job}
use Rattle.oe_jobs.specs.Machine as machine
use Rattle.oe_jobs.specs.Machine.{Event, may_come, step_at, moved, is_busy, is_queued, is_running, kept, course, asset_message}
use Rattle.oe_jobs.specs.Plain.{PlainBook, PlainChange, PlainJob, put_job, add_asset}
use Rattle.oe_jobs.specs.declared.event.JobEvent.{JobEvent}
use Rattle.oe_jobs.specs.declared.event.JobEvent.TheVariants.{Start, Asset, Finish, Fail}

abbrev pub job_named : List ℕ → PlainBook → Option PlainJob
job_named id book = find (is_job id) book.jobs

abbrev pub running_job : PlainBook → Option PlainJob
running_job book = find (λ (job : PlainJob). is_running job.status) book.jobs

-- no queued job has a lesser turn than this one
abbrev pub is_first : PlainBook → PlainJob → Bool
is_first book job =
    list_all (λ (other : PlainJob). not (is_queued other.status && nat_lt other.turn job.turn)) book.jobs

-- the queued job of least turn
abbrev pub next_queued : PlainBook → Option PlainJob
next_queued book = find (λ (job : PlainJob). is_queued job.status && is_first book job) book.jobs

-- a job is queued or runs
abbrev pub has_busy_job : PlainBook → Bool
has_busy_job book = list_any (λ (job : PlainJob). is_busy job.status) book.jobs

-- the event of the status machine
abbrev pub event_of : JobEvent → ℤ → Event
event_of Start now = machine.start now
event_of (Asset new) now = machine.asset now new
event_of Finish now = machine.finish now
event_of (Fail code) now = machine.fail now code

-- no job runs, as is asked where one is to start
abbrev pub IsFree : JobEvent → PlainBook → Type 0
IsFree Start book = running_job book ≡ None
IsFree (Asset new) book = Unit {0}
IsFree Finish book = Unit {0}
IsFree (Fail code) book = Unit {0}

-- the event may come to the job of an id
pub record MayCome (book : PlainBook) (id : List ℕ) (event : JobEvent) (now : ℤ) : Type 0 where
  pub job : PlainJob
  pub found : job_named id book ≡ Some job
  pub allowed : may_come (step_at job (event_of event now)) ≡ true
  pub free : IsFree event book

-- the book in which the job of an id has taken its step
abbrev pub moved_book : PlainBook → List ℕ → Event → PlainBook
moved_book book id event = record book { jobs = at_first (is_job id) (moved event) book.jobs }

-- An asset is added to the job where it stands, and for every other event the job is put anew: the changed book is
-- `moved_book` each time (clause `line` of `step`).
abbrev pub job_step : PlainBook → PlainJob → JobEvent → ℤ → PlainChange
job_step book job Start now = put_job (moved (machine.start now) job) book.next
job_step book job (Asset new) now = add_asset job.id new (kept job.level (course (asset_message new))) now
job_step book job Finish now = put_job (moved (machine.finish now) job) book.next
job_step book job (Fail code) now = put_job (moved (machine.fail now code) job) book.next

abbrev pub step : PlainBook → List ℕ → JobEvent → ℤ → Option PlainChange
step book id event now = option_map (λ job. job_step book job event now) (job_named id book)

-- the running job, where there is one, is queued again with its old turn and without assets
abbrev pub reopen : PlainBook → Option PlainChange
reopen book = option_map (λ job. put_job (moved machine.reopen job) book.next) (running_job book)

-- ---- what may come to the jobs that a tick finds

abbrev pub IsOfRun : JobEvent → Type 0
IsOfRun Start = ⊥
IsOfRun (Asset new) = Unit {0}
IsOfRun Finish = Unit {0}
IsOfRun (Fail code) = Unit {0}

-- each event of a run may come to the job of an id
abbrev pub AnyComes : PlainBook → List ℕ → Type 0
AnyComes book id = (event : JobEvent) (now : ℤ) → IsOfRun event → MayCome book id event now

-- it may start where no job runs
abbrev pub StartComes : PlainBook → List ℕ → Type 0
StartComes book id = (now : ℤ) → running_job book ≡ None → MayCome book id Start now
