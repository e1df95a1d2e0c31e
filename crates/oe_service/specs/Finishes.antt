-- How long a job runs, along which statuses jobs move, and what finished jobs have.
use Rattle.std.specs.Prelude.{◌≡◌, ◌⊎◌, ◌≤◌, ⊤, Bool, true, false, ℕ, ℤ, ◌+◌, ◌*◌, List, [], ◌∷◌, length, count_by, Some}
use Rattle.std.specs.List.{AllByRecursion}
use Rattle.oe_jobs.specs.Events.{job_named, running_job}
use Rattle.oe_jobs.specs.Machine.{Event as Step_event, step_at, to}
use Rattle.oe_jobs.specs.Plain.{PlainBook, PlainJob, PlainRan}
use Rattle.oe_jobs.specs.Valid.{IsBook}
use Rattle.oe_jobs.specs.Verdicts.{job_id}
use Rattle.oe_jobs.specs.declared.job.Asset.{Asset}
use Rattle.oe_jobs.specs.declared.status.Status.{Status}
use Rattle.oe_jobs.specs.declared.status.Status.TheVariants.{Created, Finished}
use Rattle.oe_service.specs.Runs.{name_at, ran_of}
use Rattle.oe_service.specs.States.{Due, store, Event, command, no_command, tick, refusal, reopen, Setting, State, after, at_book, due, next}

-- ---- how long a job runs

-- the least number of rounds of so many chunks that do all of them
pub record IsRoundCount (chunks step rounds : ℕ) : Type 0 where
  pub all : chunks ≤ rounds * step
  pub least : (fewer : ℕ) → chunks ≤ fewer * step → rounds ≤ fewer

-- the ticks that so many assets of a job take, of which the first has an index: for each of them one that plans it, its
-- rounds, and one that stores it
pub data AssetTicks (setting : Setting) (ran : PlainRan) : ℕ → ℕ → ℕ → Type 0 where
  no_asset : {k : ℕ} → AssetTicks setting ran k 0 0
  one_asset : {k count rounds ticks : ℕ} → IsRoundCount (setting.chunks ran k) (2 * setting.workers) rounds
      → AssetTicks setting ran (k + 1) count ticks → AssetTicks setting ran k (count + 1) (2 + rounds + ticks)

-- a tick that is not refused
abbrev pub is_tick : Event → Bool
is_tick (command user asked now) = false
is_tick no_command = false
is_tick (tick now text) = true
is_tick (refusal now reason) = false
is_tick reopen = false

-- the job of an id runs
pub record IsRunning (id : List ℕ) (book : PlainBook) : Type 0 where
  pub job : PlainJob
  pub runs : running_job book ≡ Some job
  pub same : job.id ≡ id

-- An event does not interrupt the run of the job of an id: it is no refusal of the run, no opening of the book, and no
-- command that ends the job. A command comes to a valid book, as every call leaves it.
abbrev pub DoesNotInterrupt : Setting → List ℕ → State → Event → Type 0
DoesNotInterrupt setting id s (command user asked now) =
    IsBook s.book × IsRunning id (next setting (command user asked now) s).book
DoesNotInterrupt setting id s no_command = ⊤
DoesNotInterrupt setting id s (tick now text) = ⊤
DoesNotInterrupt setting id s (refusal now reason) = ⊥
DoesNotInterrupt setting id s reopen = ⊥

-- none of these events, one after the other, interrupts it
abbrev pub DoNotInterrupt : Setting → List ℕ → List Event → State → Type 0
DoNotInterrupt setting id [] s = ⊤
DoNotInterrupt setting id (e ∷ es) s = DoesNotInterrupt setting id s e × DoNotInterrupt setting id es (next setting e s)

-- the job of an id is finished, with all its assets
pub record IsFinishedIn (setting : Setting) (id : List ℕ) (book : PlainBook) : Type 0 where
  pub job : PlainJob
  pub named : job_named id book ≡ Some job
  pub finished : job.status ≡ Finished
  pub whole : length job.assets ≡ length (setting.ids (ran_of job))

-- Of these events so many at most are ticks: the job of an id runs after them. They are exactly so many: the next tick
-- finishes it.
pub record FinishesAfter (setting : Setting) (s : State) (id : List ℕ) (ticks : ℕ) (es : List Event) : Type 0 where
  pub runs : count_by is_tick es ≤ ticks → IsRunning id (after setting es s).book
  pub finishes : count_by is_tick es ≡ ticks → (now : ℤ) (text : List ℕ)
      → IsFinishedIn setting id (next setting (tick now text) (after setting es s)).book

-- A job that has started is finished after exactly the ticks of its assets and one more, whatever else comes between
-- them that does not interrupt its run.
abbrev pub JobsFinishInTime : Type 0
JobsFinishInTime =
    (setting : Setting) (book : PlainBook) (job : PlainJob) (ticks : ℕ) (es : List Event)
    → IsBook book → running_job book ≡ Some job → job.assets ≡ []
    → AssetTicks setting (ran_of job) 0 (length (setting.ids (ran_of job))) ticks
    → DoNotInterrupt setting job.id es (at_book book)
    → FinishesAfter setting (at_book book) job.id ticks es

-- ---- along which statuses jobs move

-- a line of the status machine leads from a job to this status
abbrev pub MovesTo : PlainJob → Status → Type 0
MovesTo job status = (event : Step_event) × (change : PlainJob → PlainJob) × (step_at job event ≡ to status change)

-- a job was created in this book
pub record IsCreatedIn (book : PlainBook) (job : PlainJob) : Type 0 where
  pub id : job.id ≡ job_id book.next
  pub created : job.status ≡ Created

-- the job was in this book, with its status or one from which a line leads there
pub record CameFrom (book : PlainBook) (job : PlainJob) : Type 0 where
  pub old : PlainJob
  pub named : job_named job.id book ≡ Some old
  pub moved : (job.status ≡ old.status) ⊎ MovesTo old job.status

-- Whatever comes, the status of each job moves along a line of the status machine or stays, and new jobs are created.
abbrev pub StatusesMoveAlong : Type 0
StatusesMoveAlong =
    (setting : Setting) (s : State) (e : Event) → IsBook s.book
    → AllByRecursion (λ (job : PlainJob). IsCreatedIn s.book job ⊎ CameFrom s.book job) (next setting e s).book.jobs

-- ---- what finished jobs have

-- the assets from an index on are named after these nodes, and have these texts of what a job runs
abbrev pub AreTexts : (PlainRan → ℕ → List ℕ) → List (List ℕ) → PlainRan → ℕ → List Asset → Type 0
AreTexts texts ids ran k [] = ⊤
AreTexts texts ids ran k (made ∷ rest) =
    (made.name ≡ name_at ids k) × (made.text ≡ texts ran k) × AreTexts texts ids ran (k + 1) rest

-- an event that stores an asset brings its text
abbrev pub BringsText : (PlainRan → ℕ → List ℕ) → Due → Event → Type 0
BringsText texts (store job k) (tick now text) = text ≡ texts (ran_of job) k
BringsText texts due e = ⊤

-- each event comes to a valid book, as every call leaves it, and those that store an asset bring its text
abbrev pub BringTexts : (PlainRan → ℕ → List ℕ) → Setting → List Event → State → Type 0
BringTexts texts setting [] s = ⊤
BringTexts texts setting (e ∷ es) s =
    IsBook s.book × BringsText texts (due setting s) e × BringTexts texts setting es (next setting e s)

-- a job was finished in the first book already, with the same assets, and was not queued since
pub record WasFinished (first : PlainBook) (job : PlainJob) : Type 0 where
  pub old : PlainJob
  pub named : job_named job.id first ≡ Some old
  pub finished : old.status ≡ Finished
  pub same : old.assets ≡ job.assets
  pub turn : old.turn ≡ job.turn

-- it has all its assets, with their texts
pub record HasAllTexts (texts : PlainRan → ℕ → List ℕ) (setting : Setting) (job : PlainJob) : Type 0 where
  pub are : AreTexts texts (setting.ids (ran_of job)) (ran_of job) 0 job.assets
  pub whole : length job.assets ≡ length (setting.ids (ran_of job))

-- After a book was opened and any events came, of which those that stored an asset brought its text, each job that is
-- finished was so before or has the texts of all its assets.
abbrev pub FinishedJobsHaveTexts : Type 0
FinishedJobsHaveTexts =
    (texts : PlainRan → ℕ → List ℕ) (setting : Setting) (first : PlainBook) (es : List Event)
    → IsBook first → BringTexts texts setting es (next setting reopen (at_book first))
    → AllByRecursion (λ (job : PlainJob). job.status ≡ Finished → WasFinished first job ⊎ HasAllTexts texts setting job)
    (after setting es (next setting reopen (at_book first))).book.jobs
