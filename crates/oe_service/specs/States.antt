-- The states of a service, and what its events make of them. Of the run of a job nothing is known here but how many
-- assets it makes, what they are called and how many chunks each has.
use Rattle.std.specs.Prelude.{⊤, ℕ, ℤ, ◌+◌, ◌*◌, min, nat_lt, List, [], ◌∷◌, length, Option, Some, None, is_some, if◌then◌else◌}
use Rattle.std.specs.Option.{option_map_or}
use Rattle.oe_dims.specs.declared.dims.DimsRow.{DimsRow}
use Rattle.oe_jobs.specs.Changes.{changed}
use Rattle.oe_jobs.specs.Events as events
use Rattle.oe_jobs.specs.Events.{moved_book, next_queued, running_job}
use Rattle.oe_jobs.specs.Machine as machine
use Rattle.oe_jobs.specs.Plain.{PlainBook, PlainCommand, PlainJob, PlainRan}
use Rattle.oe_jobs.specs.Verdicts as verdicts
use Rattle.oe_jobs.specs.declared.event.JobEvent.{JobEvent}
use Rattle.oe_jobs.specs.declared.event.JobEvent.TheVariants.{Start, Asset, Finish, Fail}
use Rattle.oe_jobs.specs.declared.job.Asset as assets
use Rattle.oe_window.specs.declared.grid.ChunkSize.{ChunkSize}
use Rattle.oe_service.specs.Runs.{asset_chunks, ids_of_ran, name_at, ran_of}
use Rattle.oe_service.specs.Refusals.{code_of}
use Rattle.oe_service.specs.declared.refusal.RunRefusal.{RunRefusal}

-- ---- states

-- a job book, and how many chunks are done of the asset that the running job makes, none where its run is not under way
pub record State : Type 0 where
  pub book : PlainBook
  pub done : Option ℕ

-- no run is under way
abbrev pub at_book : PlainBook → State
at_book book = record { book = book; done = None }

-- what is known of the runs of jobs, by what each job runs, and how many workers there are
pub record Setting : Type 0 where
  -- the ids of the nodes that make an asset each
  pub ids : PlainRan → List (List ℕ)
  -- how many chunks the asset of an index has
  pub chunks : PlainRan → ℕ → ℕ
  pub workers : ℕ

-- over collections of these rows, in chunks of a size
abbrev pub setting_of : List DimsRow → ChunkSize → ℕ → Setting
setting_of dims size workers = record { ids = ids_of_ran; chunks = asset_chunks dims size; workers = workers }

-- ---- what a tick has to do

pub data Due : Type 0 where
  -- no job is queued or runs
  rest : Due
  -- no job runs: this one starts
  start : PlainJob → Due
  -- the job that runs has yet to make the asset of an index, and its run is not under way
  plan : PlainJob → ℕ → Due
  -- so many chunks of that asset are done, and some are left
  round : PlainJob → ℕ → ℕ → Due
  -- all are done
  store : PlainJob → ℕ → Due
  -- no asset is missing
  finish : PlainJob → Due

-- how many assets a job has, which is the index of the next one
abbrev pub count_assets : PlainJob → ℕ
count_assets job = length job.assets

-- of a job that runs
abbrev pub due_of : Setting → PlainJob → Option ℕ → Due
due_of setting job None =
    if nat_lt (count_assets job) (length (setting.ids (ran_of job))) then plan job (count_assets job) else finish job
due_of setting job (Some done) =
    if nat_lt done (setting.chunks (ran_of job) (count_assets job))
    then round job (count_assets job) done
    else store job (count_assets job)

abbrev pub due : Setting → State → Due
due setting s =
    option_map_or (λ job. due_of setting job s.done) (running_job s.book)
    (option_map_or start (next_queued s.book) rest)

-- ---- events

pub data Event : Type 0 where
  -- a user's command that passed all tests of a request, and its moment
  command : List ℕ → PlainCommand → ℤ → Event
  -- a request that is refused, or is no command
  no_command : Event
  -- a tick at a moment; the text is that of the asset, where one is stored
  tick : ℤ → List ℕ → Event
  -- a tick at a moment, in which the run of the job is refused
  refusal : ℤ → RunRefusal → Event
  -- the book is opened
  reopen : Event

-- the book in which the running job, where there is one, has taken its step
abbrev pub moved_running : PlainBook → machine.Event → PlainBook
moved_running book event = option_map_or (λ (job : PlainJob). moved_book book job.id event) (running_job book) book

-- the asset of an index
abbrev pub asset_of : Setting → PlainJob → ℕ → List ℕ → assets.Asset
asset_of setting job k text = record { name = name_at (setting.ids (ran_of job)) k; text = text }

-- so many chunks are done after a round: two more for each worker, or all
abbrev pub done_after : Setting → PlainJob → ℕ → ℕ → ℕ
done_after setting job k done = min (done + 2 * setting.workers) (setting.chunks (ran_of job) k)

-- the book in which the running job has the text as its next asset, of assets of these ids
abbrev pub with_text : List (List ℕ) → List ℕ → ℤ → PlainBook → PlainBook
with_text ids text now book =
    option_map_or (λ (job : PlainJob). moved_book book job.id (machine.asset now
    (record { name = name_at ids (count_assets job); text = text }))) (running_job book) book

-- an event with which the run of a job ends
abbrev pub EndsRun : JobEvent → Type 0
EndsRun Start = ⊥
EndsRun (Asset made) = ⊥
EndsRun Finish = ⊤
EndsRun (Fail code) = ⊤

-- what a tick makes of a state, by what is due
abbrev pub ticked : Setting → ℤ → List ℕ → State → Due → State
ticked setting now text s rest = s
ticked setting now text s (start job) = at_book (moved_book s.book job.id (machine.start now))
ticked setting now text s (plan job k) = record { book = s.book; done = Some 0 }
ticked setting now text s (round job k done) =
    record { book = s.book; done = Some (done_after setting job k done) }
ticked setting now text s (store job k) =
    at_book (moved_running s.book (machine.asset now (asset_of setting job k text)))
ticked setting now text s (finish job) = at_book (moved_running s.book (machine.finish now))

-- The book after a command. The run goes on while its job runs: a command starts none, so where a job runs afterwards it
-- is the one that ran.
abbrev pub commanded : PlainBook → Option ℕ → State
commanded book done = record { book = book; done = if is_some (running_job book) then done else None }

-- the running job, where there is one, is queued again
abbrev pub reopened : PlainBook → PlainBook
reopened book = option_map_or (changed book) (events.reopen book) book

abbrev pub next : Setting → Event → State → State
next setting (command user asked now) s = commanded (verdicts.next s.book user asked now) s.done
next setting no_command s = s
next setting (tick now text) s = ticked setting now text s (due setting s)
next setting (refusal now reason) s = at_book (moved_running s.book (machine.fail now (code_of reason)))
next setting reopen s = at_book (reopened s.book)

-- the state after events, the first of them first
abbrev pub after : Setting → List Event → State → State
after setting [] s = s
after setting (e ∷ es) s = after setting es (next setting e s)
