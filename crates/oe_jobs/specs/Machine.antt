-- The status machine of a batch job (openEO API, batch jobs): the table `step_of` has one line for each step, and
-- beside it stands what a step changes besides the status.
use Rattle.std.specs.Prelude.{ℕ, ℤ, Bool, true, false, List, [], ◌∷◌, ◌++◌, Option, Some, None, codes, nat_le, if◌then◌else◌, option_to_list}
use Rattle.oe_jobs.specs.Plain.{PlainJob, PlainRan}
use Rattle.oe_jobs.specs.declared.job.Asset.{Asset}
use Rattle.oe_jobs.specs.declared.job.LogEntry.{LogEntry}
use Rattle.oe_jobs.specs.declared.level.Level.{Level}
use Rattle.oe_jobs.specs.declared.level.Level.TheVariants as levels
use Rattle.oe_jobs.specs.declared.status.Status.{Status}
use Rattle.oe_jobs.specs.declared.status.Status.TheVariants.{Created, Queued, Running, Canceled, Finished, Error}

-- ---- log levels

-- how little severe a level is: error is the most severe
abbrev pub rank : Level → ℕ
rank levels.Error = 0
rank levels.Warning = 1
rank levels.Info = 2
rank levels.Debug = 3

-- a level keeps the entries that are at least as severe
abbrev pub keeps : Level → Level → Bool
keeps least entry = nat_le (rank entry) (rank least)

-- an entry of the course of a job, and that of its failure
abbrev pub course : List ℕ → LogEntry
course message = record { level = levels.Info; code = None; message = message }

abbrev pub failure : List ℕ → LogEntry
failure code = record { level = levels.Error; code = Some code; message = code }

-- the entry, where a level keeps it
abbrev pub kept : Level → LogEntry → Option LogEntry
kept least entry = if keeps least entry.level then Some entry else None

-- ---- what happens to a job

pub data Event : Type 0 where
  -- its user has it queued: the moment, the turn that it draws, and what it is to run
  queue : ℤ → ℕ → PlainRan → Event
  -- its user cancels it: the moment
  cancel : ℤ → Event
  -- its run starts, has made an asset, has made all of them, was refused with a code
  start : ℤ → Event
  asset : ℤ → Asset → Event
  finish : ℤ → Event
  fail : ℤ → List ℕ → Event
  -- the book is opened after its run was cut off, which no clock was there to see
  reopen : Event

-- ---- what a step changes besides the status

-- the moment of its last change
abbrev pub at : ℤ → PlainJob → PlainJob
at now job = record job { updated = now }

-- an entry is logged where the job's level keeps it
abbrev pub logs : LogEntry → PlainJob → PlainJob
logs entry job = record job { logs = job.logs ++ option_to_list (kept job.level entry) }

-- it draws a turn, and has what it is to run
abbrev pub draws : ℤ → ℕ → PlainRan → PlainJob → PlainJob
draws now turn ran job = record job { updated = now; turn = turn; ran = Some ran }

-- its run is stopped
abbrev pub stops : ℤ → PlainJob → PlainJob
stops now job = logs (course (codes "canceled")) (at now job)

-- its run begins without assets and logs
abbrev pub begins : ℤ → PlainJob → PlainJob
begins now job = logs (course (codes "started")) (record job { updated = now; assets = []; logs = [] })

-- what is logged of an asset
abbrev pub asset_message : Asset → List ℕ
asset_message new = codes "asset " ++ new.name

-- it gets an asset
abbrev pub gains : ℤ → Asset → PlainJob → PlainJob
gains now new job = logs (course (asset_message new)) (record job { updated = now; assets = job.assets ++ new ∷ [] })

-- its run has made all assets
abbrev pub ends : ℤ → PlainJob → PlainJob
ends now job = logs (course (codes "finished")) (at now job)

-- its run was refused: the code is logged, which every level keeps
abbrev pub breaks : ℤ → List ℕ → PlainJob → PlainJob
breaks now code job = record job { updated = now; logs = job.logs ++ failure code ∷ [] }

-- its run was cut off, and begins anew when its turn comes
abbrev pub drops_assets : PlainJob → PlainJob
drops_assets job = record job { assets = [] }

-- ---- the table

-- what an event does to a job in a status
pub data Step : Type 0 where
  -- it never comes there
  never : Step
  -- it has no effect
  stays : Step
  -- the job has this status afterwards, with this change
  to : Status → (PlainJob → PlainJob) → Step

-- The table: the status, the event, whether the job has assets, and the step. Assets, logs, turn and what is to run
-- stay where a change does not name them.
abbrev pub step_of : Status → Event → Bool → Step
step_of Created (queue now turn ran) some = to Queued (draws now turn ran)
step_of Finished (queue now turn ran) some = to Queued (draws now turn ran)
step_of Error (queue now turn ran) some = to Queued (draws now turn ran)
step_of Canceled (queue now turn ran) some = to Queued (draws now turn ran)
step_of Queued (queue now turn ran) some = stays
step_of Running (queue now turn ran) some = stays
step_of Queued (cancel now) some = to Created (at now)
step_of Running (cancel now) true = to Canceled (stops now)
step_of Running (cancel now) false = to Created (stops now)
step_of Created (cancel now) some = stays
step_of Finished (cancel now) some = stays
step_of Error (cancel now) some = stays
step_of Canceled (cancel now) some = stays
-- only where no other job runs (`MayCome`)
step_of Queued (start now) some = to Running (begins now)
step_of Running (asset now new) some = to Running (gains now new)
step_of Running (finish now) some = to Finished (ends now)
step_of Running (fail now code) some = to Error (breaks now code)
step_of Running reopen some = to Queued drops_assets
-- a reopening leaves every other status
step_of Created reopen some = stays
step_of Queued reopen some = stays
step_of Canceled reopen some = stays
step_of Finished reopen some = stays
step_of Error reopen some = stays
step_of status event some = never

-- ---- a job and what happens to it

abbrev pub has_assets : PlainJob → Bool
has_assets job = elim job.assets [ [] ↦ false | a ∷ rest ↦ true ]

abbrev pub step_at : PlainJob → Event → Step
step_at job event = step_of job.status event (has_assets job)

-- the event changes something
abbrev pub has_effect : Step → Bool
has_effect never = false
has_effect stays = false
has_effect (to status change) = true

-- the event may come
abbrev pub may_come : Step → Bool
may_come never = false
may_come stays = true
may_come (to status change) = true

abbrev pub with_status : Status → PlainJob → PlainJob
with_status status job = record job { status = status }

-- the job afterwards
abbrev pub after : Step → PlainJob → PlainJob
after never job = job
after stays job = job
after (to status change) job = with_status status (change job)

abbrev pub moved : Event → PlainJob → PlainJob
moved event job = after (step_at job event) job

abbrev pub is_busy : Status → Bool
is_busy Created = false
is_busy Queued = true
is_busy Running = true
is_busy Canceled = false
is_busy Finished = false
is_busy Error = false

abbrev pub is_queued : Status → Bool
is_queued Created = false
is_queued Queued = true
is_queued Running = false
is_queued Canceled = false
is_queued Finished = false
is_queued Error = false

abbrev pub is_running : Status → Bool
is_running Created = false
is_running Queued = false
is_running Running = true
is_running Canceled = false
is_running Finished = false
is_running Error = false
