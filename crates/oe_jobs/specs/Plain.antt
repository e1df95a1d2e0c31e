-- What contracts compare of a job book: its texts, numbers and lists, and no allocator or capacity.
use Rattle.std.specs.Prelude.{ℕ, ℤ, List, [], map, Option}
use Rattle.std.specs.Option.{option_map}
use Rattle.oe_graph.specs.Plain.{plain_stored}
use Rattle.oe_graph.specs.Tree.{PlainStored}
use Rattle.oe_jobs.specs.declared.book.Book.{Book}
use Rattle.oe_jobs.specs.declared.book.Owned.{Owned}
use Rattle.oe_jobs.specs.declared.change.Change.{Change}
use Rattle.oe_jobs.specs.declared.change.Change.TheVariants.{PutJob, AddAsset, DropJob, PutProcess, DropProcess}
use Rattle.oe_jobs.specs.declared.command.Command.{Command}
use Rattle.oe_jobs.specs.declared.command.Command.TheVariants as command
use Rattle.oe_jobs.specs.declared.command.Outcome.{Outcome}
use Rattle.oe_jobs.specs.declared.command.Verdict.{Verdict}
use Rattle.oe_jobs.specs.declared.job.Asset.{Asset}
use Rattle.oe_jobs.specs.declared.job.Job.{Job}
use Rattle.oe_jobs.specs.declared.job.LogEntry.{LogEntry}
use Rattle.oe_jobs.specs.declared.job.Ran.{Ran}
use Rattle.oe_jobs.specs.declared.level.Level.{Level}
use Rattle.oe_jobs.specs.declared.status.Status.{Status}

-- what a job runs: its process, and the stored processes of its user, as they were when it was queued
pub record PlainRan : Type 0 where
  pub process : List ℕ
  pub stored : List PlainStored

-- a batch job (openEO API, batch jobs)
pub record PlainJob : Type 0 where
  pub id : List ℕ
  pub user : List ℕ
  pub title : Option (List ℕ)
  pub description : Option (List ℕ)
  -- the compact JSON text of its process
  pub process : List ℕ
  pub status : Status
  -- the least severe level of the entries that its logs keep
  pub level : Level
  -- moments, in seconds since 1970-01-01T00:00:00Z
  pub created : ℤ
  pub updated : ℤ
  -- what it drew when it was queued last: of the queued jobs the one of least turn starts first
  pub turn : ℕ
  pub ran : Option PlainRan
  pub logs : List LogEntry
  pub assets : List Asset

-- a stored process of a user
pub record PlainOwned : Type 0 where
  pub user : List ℕ
  pub process : PlainStored

-- a job book: the number of the next job or turn, all jobs in order of creation, and the stored processes of all users
pub record PlainBook : Type 0 where
  pub next : ℕ
  pub jobs : List PlainJob
  pub processes : List PlainOwned

-- without jobs and stored processes: the first job draws the number 1
abbrev pub empty_book : PlainBook
empty_book = record { next = 1; jobs = []; processes = [] }

-- what changes in a book
pub data PlainChange : Type 0 where
  -- the job, and the next number
  put_job : PlainJob → ℕ → PlainChange
  -- the id of the job, the asset, the log entry where its level keeps one, and the moment
  add_asset : List ℕ → Asset → Option LogEntry → ℤ → PlainChange
  drop_job : List ℕ → PlainChange
  put_process : PlainOwned → PlainChange
  -- the user and the id of the process
  drop_process : List ℕ → List ℕ → PlainChange

-- what a user asks for
pub data PlainCommand : Type 0 where
  -- title, description, process and level
  create : Option (List ℕ) → Option (List ℕ) → List ℕ → Level → PlainCommand
  -- the id of the job, and each of these where it is to change
  patch : List ℕ → Option (Option (List ℕ)) → Option (Option (List ℕ)) → Option (List ℕ) → Option Level → PlainCommand
  delete : List ℕ → PlainCommand
  queue : List ℕ → PlainCommand
  cancel : List ℕ → PlainCommand
  store : PlainStored → PlainCommand
  forget : List ℕ → PlainCommand

-- what a command changes, if anything, and what is answered
pub record PlainVerdict : Type 0 where
  pub change : Option PlainChange
  pub outcome : Outcome

-- ---- the plain value of each type of the code

abbrev pub plain_ran : Ran → PlainRan
plain_ran r = record { process = r.process; stored = map plain_stored r.stored.items }

abbrev pub plain_job : Job → PlainJob
plain_job j = record {
  id = j.id;
  user = j.user;
  title = j.title;
  description = j.description;
  process = j.process;
  status = j.status;
  level = j.level;
  created = j.created;
  updated = j.updated;
  turn = j.turn;
  ran = option_map plain_ran j.ran;
  logs = j.logs.items;
  assets = j.assets.items;
}

abbrev pub plain_owned : Owned → PlainOwned
plain_owned o = record { user = o.user; process = plain_stored o.process }

abbrev pub plain_book : Book → PlainBook
plain_book b = record {
  next = b.next;
  jobs = map plain_job b.jobs.items;
  processes = map plain_owned b.processes.items;
}

abbrev pub plain_change : Change → PlainChange
plain_change (PutJob job next) = put_job (plain_job job) next
plain_change (AddAsset job asset log updated) = add_asset job asset log updated
plain_change (DropJob id) = drop_job id
plain_change (PutProcess owned) = put_process (plain_owned owned)
plain_change (DropProcess user id) = drop_process user id

abbrev pub plain_command : Command → PlainCommand
plain_command (command.Create title description process level) = create title description process level
plain_command (command.Patch id title description process level) = patch id title description process level
plain_command (command.Delete id) = delete id
plain_command (command.Queue id) = queue id
plain_command (command.Cancel id) = cancel id
plain_command (command.Store process) = store (plain_stored process)
plain_command (command.Forget id) = forget id

abbrev pub plain_verdict : Verdict → PlainVerdict
plain_verdict v = record { change = option_map plain_change v.change; outcome = v.outcome }
