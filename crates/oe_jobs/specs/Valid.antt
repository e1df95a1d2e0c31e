-- The rules that every job book keeps, and what a command or an event may bring.
use Rattle.std.specs.Prelude.{◌≡◌, ◌≢◌, ℕ, ◌+◌, ◌<◌, ◌≤◌, Bool, true, false, List, [], ◌∷◌, ◌++◌, length, count_by, map, Option, IfSome, IsSome, is_some, ⊤}
use Rattle.std.specs.List.{list_any, AllByRecursion}
use Rattle.serde_json.specs.Data.{Data}
use Rattle.serde_json.specs.Written.{compact_text, has_float}
use Rattle.oe_dims.specs.Instant.{IsInstant}
use Rattle.oe_graph.specs.Form.{IsReading, StandsIn}
use Rattle.oe_graph.specs.Parameters.{are_distinct}
use Rattle.oe_graph.specs.Read.{IsFaultless, ReadsStored}
use Rattle.oe_graph.specs.Tree.{PlainStored}
use Rattle.oe_jobs.specs.Changes.{is_owned}
use Rattle.oe_jobs.specs.Machine.{is_busy, is_running}
use Rattle.oe_jobs.specs.Plain.{PlainBook, PlainCommand, PlainJob, PlainOwned, PlainRan, create, patch, delete, queue, cancel, store, forget}
use Rattle.oe_jobs.specs.Verdicts.{is_job_of, is_process_of, job_id, last_next, most_jobs, most_processes}
use Rattle.oe_jobs.specs.declared.event.JobEvent.{JobEvent}
use Rattle.oe_jobs.specs.declared.event.JobEvent.TheVariants.{Start, Asset, Finish, Fail}
use Rattle.oe_jobs.specs.declared.job.Asset as assets
use Rattle.oe_jobs.specs.declared.job.LogEntry.{LogEntry}
use Rattle.oe_jobs.specs.declared.level.Level.TheVariants as levels
use Rattle.oe_jobs.specs.declared.status.Status.{Status}
use Rattle.oe_jobs.specs.declared.status.Status.TheVariants.{Created, Queued, Running, Canceled, Finished, Error}

-- most bytes of a process, of a title or description, and of an asset
abbrev pub most_process : ℕ
most_process = 65536

abbrev pub most_words : ℕ
most_words = 4096

abbrev pub most_asset : ℕ
most_asset = 1048576

-- ---- texts

-- The process of a job: the compact text of a JSON object with whole numbers, which is a graph without a fault of its
-- form. What is no object has such a fault.
pub record IsProcessText (text : List ℕ) : Type 0 where
  pub value : Data
  pub is_read : IsReading text value
  pub compact : text ≡ compact_text value
  pub whole : has_float value ≡ false
  pub faultless : IsFaultless (StandsIn value)
  pub short : length text ≤ most_process

-- a stored process: what its text is under its id
pub record IsStored (process : PlainStored) : Type 0 where
  pub reads : ReadsStored process.id process.text process
  pub short : length process.text ≤ most_process

-- a title or a description
abbrev pub AreWords : Option (List ℕ) → Type 0
AreWords text = IfSome text (λ t. length t ≤ most_words)

abbrev pub IsAsset : assets.Asset → Type 0
IsAsset made = length made.text ≤ most_asset

-- ---- jobs

-- the ids of what a job runs
abbrev pub stored_ids : List PlainStored → List (List ℕ)
stored_ids stored = map (λ (p : PlainStored). p.id) stored

pub record IsRan (ran : PlainRan) : Type 0 where
  pub process : IsProcessText ran.process
  pub stored : AllByRecursion IsStored ran.stored
  pub ids_differ : are_distinct (stored_ids ran.stored) ≡ true
  pub few : length ran.stored ≤ most_processes

-- the last entry is at level error and has a code: the code of the job's failure
pub record EndsInError (logs : List LogEntry) : Type 0 where
  pub before : List LogEntry
  pub last : LogEntry
  pub is_last : logs ≡ before ++ last ∷ []
  pub at_error : last.level ≡ levels.Error
  pub coded : IsSome last.code

-- what a status asks of the logs: of a failed job the code
abbrev pub LogsFit : Status → List LogEntry → Type 0
LogsFit Created logs = ⊤
LogsFit Queued logs = ⊤
LogsFit Running logs = ⊤
LogsFit Canceled logs = ⊤
LogsFit Finished logs = ⊤
LogsFit Error logs = EndsInError logs

-- a job of a book whose next number is this
pub record IsJob (next : ℕ) (job : PlainJob) : Type 0 where
  pub process : IsProcessText job.process
  pub title : AreWords job.title
  pub description : AreWords job.description
  pub created : IsInstant job.created
  pub updated : IsInstant job.updated
  pub ran : IfSome job.ran IsRan
  pub assets : AllByRecursion IsAsset job.assets
  pub logs : LogsFit job.status job.logs
  -- one that is queued or running has what it runs, and a turn that was drawn
  pub runs : is_busy job.status ≡ true → is_some job.ran ≡ true
  pub drew : is_busy job.status ≡ true → job.turn < next

-- ---- the book

-- the jobs have ids of rising numbers, from a lowest one to below a next one
abbrev pub AreNumbered : ℕ → List PlainJob → ℕ → Type 0
AreNumbered low [] next = low ≤ next
AreNumbered low (job ∷ jobs) next =
    (number : ℕ) × (job.id ≡ job_id number) × (low ≤ number) × (number < next) × AreNumbered (number + 1) jobs next

-- two jobs that do not run at once, and whose turns differ where both are queued or running
pub record AreApart (job other : PlainJob) : Type 0 where
  pub one_runs : is_running job.status ≡ true → is_running other.status ≡ false
  pub turns_differ : is_busy job.status ≡ true → is_busy other.status ≡ true → job.turn ≢ other.turn

-- any two jobs are apart, so at most one runs
abbrev pub AllApart : List PlainJob → Type 0
AllApart [] = ⊤
AllApart (job ∷ jobs) = AllByRecursion (AreApart job) jobs × AllApart jobs

-- no two stored processes of one user have one id
abbrev pub OwnedDiffer : List PlainOwned → Type 0
OwnedDiffer [] = ⊤
OwnedDiffer (owned ∷ processes) =
    (list_any (is_owned owned.user owned.process.id) processes ≡ false) × OwnedDiffer processes

pub record IsBook (book : PlainBook) : Type 0 where
  pub counted : 1 ≤ book.next
  pub bounded : book.next ≤ last_next
  pub numbered : AreNumbered 1 book.jobs book.next
  pub apart : AllApart book.jobs
  pub jobs : AllByRecursion (IsJob book.next) book.jobs
  pub few_jobs : (user : List ℕ) → count_by (is_job_of user) book.jobs ≤ most_jobs
  pub processes : AllByRecursion (λ (owned : PlainOwned). IsStored owned.process) book.processes
  pub owned_differ : OwnedDiffer book.processes
  pub few_processes : (user : List ℕ) → count_by (is_process_of user) book.processes ≤ most_processes

-- ---- what a command and an event bring

abbrev pub IsCommand : PlainCommand → Type 0
IsCommand (create title description process level) = AreWords title × AreWords description × IsProcessText process
IsCommand (patch id title description process level) =
    IfSome title AreWords × IfSome description AreWords × IfSome process IsProcessText
IsCommand (delete id) = ⊤
IsCommand (queue id) = ⊤
IsCommand (cancel id) = ⊤
IsCommand (store process) = IsStored process
IsCommand (forget id) = ⊤

abbrev pub IsEvent : JobEvent → Type 0
IsEvent Start = ⊤
IsEvent (Asset new) = IsAsset new
IsEvent Finish = ⊤
IsEvent (Fail code) = ⊤
