-- What a service keeps between its calls.
use Rattle.std.specs.Prelude.{◌≡◌, ◌≤◌, ◌<◌, ⊤, ℕ, ◌+◌, ◌*◌, List, [], length, Option, Some, None, IfSome}
use Rattle.std.specs.Option.{option_map, option_map_or}
use Rattle.oe_steps.specs.Collections.{AreRead}
use Rattle.oe_engine.specs.Going.{ChangesOwnRecords, IsGoing, records_end}
use Rattle.oe_engine.specs.Runs.{RunOf, chunks_in_round, load_count}
use Rattle.oe_engine.specs.Evaluations.{IsPlanOf}
use Rattle.oe_jobs.specs.Events.{running_job}
use Rattle.oe_jobs.specs.Plain.{PlainBook, PlainJob, PlainRan, plain_book}
use Rattle.oe_jobs.specs.Valid.{IsBook, IsRan}
use Rattle.oe_plan.specs.Figures.{largest_window}
use Rattle.oe_plan.specs.Ranges.{IsWithinRanges}
use Rattle.oe_sources.specs.Catalogue.{Row, cells_asked}
use Rattle.oe_window.specs.declared.grid.ChunkSize.{ChunkSize}
use Rattle.oe_service.specs.Runs.{asset_graph, ids_of_ran, ran_of}
use Rattle.oe_service.specs.States.{State, count_assets}
use Rattle.oe_service.specs.declared.service.Service.{Service}

-- the state of a service: its book, and how far its run is
abbrev pub state : PlainBook → Option RunOf → State
state book run = record { book = book; done = option_map (λ (r : RunOf). r.done) run }

abbrev pub state_of : Service → State
state_of s = state (plain_book s.book) s.run

-- ---- what is valid

-- what a job runs is there, and valid
pub record HasRan (job : PlainJob) : Type 0 where
  pub ran : PlainRan
  pub ran_is : job.ran ≡ Some ran
  pub valid : IsRan ran

-- its next asset is missing
abbrev pub MissesAsset : PlainJob → Type 0
MissesAsset job = count_assets job < length (ids_of_ran (ran_of job))

-- a run makes the next asset of a job, and its records are at the front of the spool
pub record IsRunOf (size : ChunkSize) (workers : ℕ) (job : PlainJob) (r : RunOf) : Type 0 where
  pub plan : IsPlanOf (asset_graph r.plan.graph.rows (ran_of job) (count_assets job)) size workers r.plan
  pub base : r.base ≡ 0
  pub missing : MissesAsset job

-- a run is under way only where a job runs, and makes its next asset
abbrev pub FitsJob : ChunkSize → ℕ → Option PlainJob → Option RunOf → Type 0
FitsJob size workers job None = ⊤
FitsJob size workers None (Some r) = ⊥
FitsJob size workers (Some job) (Some r) = IsRunOf size workers job r

-- the ids of the nodes that make the assets of a job, none where there is none
abbrev pub ids_for : Option PlainJob → List (List ℕ)
ids_for job = option_map_or (λ (j : PlainJob). ids_of_ran (ran_of j)) job []

-- its book is valid, its sizes are in their ranges, and it has the ids and the run of the job that runs
pub record IsService (s : Service) : Type 0 where
  pub book : IsBook (plain_book s.book)
  pub ranges : IsWithinRanges s.size s.workers
  pub ids : s.ids.items ≡ ids_for (running_job (plain_book s.book))
  pub run : FitsJob s.size s.workers (running_job (plain_book s.book)) s.run

-- a service keeps the sides of its chunks and its workers
pub record HasSizesOf (before after : Service) : Type 0 where
  pub size : after.size ≡ before.size
  pub workers : after.workers ≡ before.workers

-- no job runs, and nothing is kept of a run
pub record IsFree (s : Service) : Type 0 where
  pub running : running_job (plain_book s.book) ≡ None
  pub ids : s.ids.items ≡ []
  pub run : s.run ≡ None

-- where the records of the run end, of which one may be under way: the front of the spool where none is
abbrev pub records_end_of : Option RunOf → ℕ
records_end_of run = option_map_or records_end run 0

-- ---- what the run relies on

-- The catalogue and the spool are as its run left them, where one is under way: what it loads is mounted, and records of
-- all that is done stand in the spool.
abbrev pub GoesOn : Option RunOf → List Row → Option (List ℕ) → Type 0
GoesOn run rows store = IfSome run (λ r. IsGoing r rows store)

-- ---- what a tick reads and writes

-- Without a run it reads nothing and leaves the spool as it was. With one it asks for one largest window for each load
-- of each chunk of a round at most, and changes records of the run alone.
abbrev pub StaysWithin : Option RunOf → List Row → List Row → Option (List ℕ) → Option (List ℕ) → Type 0
StaysWithin None rows rows_after store store_after = (rows_after ≡ rows) × (store_after ≡ store)
StaysWithin (Some r) rows rows_after store store_after =
    AreRead rows rows_after
    × (cells_asked rows_after
    ≤ cells_asked rows + chunks_in_round r * (load_count r.plan * largest_window r.plan.graph r.plan.size))
    × ChangesOwnRecords r store store_after
