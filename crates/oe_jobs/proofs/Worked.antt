-- Worked values, from the openEO API's batch jobs and by hand.
use Rattle.std.proofs.Common.{◌≡◌, ℕ, ◌∷◌, [], List, true, false, Some, None, codes, pos, refl}
use Rattle.std.specs.Fmt.{digits}
use Rattle.oe_graph.specs.Tree.{no_nodes}
use Rattle.oe_jobs.specs.Changes.{changed, with_process}
use Rattle.oe_jobs.specs.Events.{job_step, reopen}
use Rattle.oe_jobs.specs.Machine as machine
use Rattle.oe_jobs.specs.Machine.{keeps, moved, may_come, has_effect, step_at, course, failure}
use Rattle.oe_jobs.specs.Plain.{PlainBook, PlainJob, PlainOwned, PlainRan, put_job, drop_job, create, patch, delete, queue, forget}
use Rattle.oe_jobs.specs.Verdicts.{decide, job_id, refused, done, created}
use Rattle.oe_jobs.specs.declared.command.JobFault.TheVariants.{JobNotFound, JobLocked, JobLimit, ProcessNotFound}
use Rattle.oe_jobs.specs.declared.command.Outcome.TheVariants as outcome
use Rattle.oe_jobs.specs.declared.event.JobEvent.TheVariants as event
use Rattle.oe_jobs.specs.declared.job.Asset.{Asset}
use Rattle.oe_jobs.specs.declared.job.LogEntry.{LogEntry}
use Rattle.oe_jobs.specs.declared.level.Level.{Level}
use Rattle.oe_jobs.specs.declared.level.Level.TheVariants as levels
use Rattle.oe_jobs.specs.declared.status.Status.{Status}
use Rattle.oe_jobs.specs.declared.status.Status.TheVariants.{Created, Queued, Running, Canceled, Finished, Error}

-- the job j-3 of the user u: created at 10, changed at 20, with the turn 3 and an entry `old`
abbrev old : List LogEntry
old = course (codes "old") ∷ []

abbrev sample : Status → Level → List Asset → PlainJob
sample status level assets = record {
  id = codes "j-3";
  user = codes "u";
  title = None;
  description = None;
  process = codes "{}";
  status = status;
  level = level;
  created = pos 10;
  updated = pos 20;
  turn = 3;
  ran = None;
  logs = old;
  assets = assets;
}

abbrev file : List ℕ → Asset
file name = record { name = name; text = codes "{}" }

abbrev one : List Asset
one = file (codes "a.json") ∷ []

abbrev nothing : PlainRan
nothing = record { process = codes "{}"; stored = [] }

-- ---- levels

error_kept : keeps levels.Error levels.Error ≡ true
error_kept = refl

warning_not_kept : keeps levels.Error levels.Warning ≡ false
warning_not_kept = refl

info_kept : keeps levels.Info levels.Info ≡ true
info_kept = refl

debug_not_kept : keeps levels.Info levels.Debug ≡ false
debug_not_kept = refl

-- ---- the table: a line of each kind

created_queues : moved (machine.queue (pos 50) 9 nothing) (sample Created levels.Info [])
    ≡ record (sample Queued levels.Info []) { updated = pos 50; turn = 9; ran = Some nothing }
created_queues = refl

-- a job that is queued again keeps its assets and logs until it starts
finished_queues : moved (machine.queue (pos 50) 9 nothing) (sample Finished levels.Info one)
    ≡ record (sample Queued levels.Info one) { updated = pos 50; turn = 9; ran = Some nothing }
finished_queues = refl

queued_stays : moved (machine.queue (pos 50) 9 nothing) (sample Queued levels.Info one) ≡ sample Queued levels.Info one
queued_stays = refl

running_stays : has_effect (step_at (sample Running levels.Info one) (machine.queue (pos 50) 9 nothing)) ≡ false
running_stays = refl

queued_cancels : moved (machine.cancel (pos 50)) (sample Queued levels.Info one)
    ≡ record (sample Created levels.Info one) { updated = pos 50 }
queued_cancels = refl

running_cancels : moved (machine.cancel (pos 50)) (sample Running levels.Info one)
    ≡ record (sample Canceled levels.Info one) { updated = pos 50; logs = course (codes "old") ∷ course (codes "canceled") ∷ [] }
running_cancels = refl

running_cancels_without_assets : moved (machine.cancel (pos 50)) (sample Running levels.Info [])
    ≡ record (sample Created levels.Info []) { updated = pos 50; logs = course (codes "old") ∷ course (codes "canceled") ∷ [] }
running_cancels_without_assets = refl

running_cancels_at_warning : moved (machine.cancel (pos 50)) (sample Running levels.Warning one)
    ≡ record (sample Canceled levels.Warning one) { updated = pos 50 }
running_cancels_at_warning = refl

finished_cancels : has_effect (step_at (sample Finished levels.Info one) (machine.cancel (pos 50))) ≡ false
finished_cancels = refl

queued_starts : moved (machine.start (pos 50)) (sample Queued levels.Info one)
    ≡ record (sample Running levels.Info []) { updated = pos 50; logs = course (codes "started") ∷ [] }
queued_starts = refl

queued_starts_at_error : moved (machine.start (pos 50)) (sample Queued levels.Error one)
    ≡ record (sample Running levels.Error []) { updated = pos 50; logs = [] }
queued_starts_at_error = refl

created_never_starts : may_come (step_at (sample Created levels.Info []) (machine.start (pos 50))) ≡ false
created_never_starts = refl

running_adds : moved (machine.asset (pos 50) (file (codes "b.json"))) (sample Running levels.Info one)
    ≡ record (sample Running levels.Info (file (codes "a.json") ∷ file (codes "b.json") ∷ [])) {
      updated = pos 50;
      logs = course (codes "old") ∷ course (codes "asset b.json") ∷ [];
    }
running_adds = refl

running_finishes : moved (machine.finish (pos 50)) (sample Running levels.Debug one)
    ≡ record (sample Finished levels.Debug one) { updated = pos 50; logs = course (codes "old") ∷ course (codes "finished") ∷ [] }
running_finishes = refl

running_fails : moved (machine.fail (pos 50) (codes "SpoolFault")) (sample Running levels.Error one)
    ≡ record (sample Error levels.Error one) { updated = pos 50; logs = course (codes "old") ∷ failure (codes "SpoolFault") ∷ [] }
running_fails = refl

-- a reopening has no moment, and keeps the turn and the logs
running_reopens : moved machine.reopen (sample Running levels.Info one) ≡ sample Queued levels.Info []
running_reopens = refl

finished_stays_reopened : moved machine.reopen (sample Finished levels.Info one) ≡ sample Finished levels.Info one
finished_stays_reopened = refl

-- ---- books

abbrev book : ℕ → Status → PlainBook
book next status = record { next = next; jobs = sample status levels.Info [] ∷ []; processes = [] }

seventeenth : job_id 17 ≡ codes "j-17"
unfolding digits
seventeenth = refl

creates : decide (book 9 Created) (codes "v") (create None None (codes "{}") levels.Info) (pos 50)
    ≡ record {
      change = Some (put_job (created (book 9 Created) (codes "v") None None (codes "{}") levels.Info (pos 50)) 10);
      outcome = outcome.Created (codes "j-9");
    }
unfolding digits
creates = refl

no_number_left : decide (book 18446744073709551615 Created) (codes "u") (create None None (codes "{}") levels.Info) (pos 50)
    ≡ refused JobLimit
no_number_left = refl

queues : decide (book 9 Created) (codes "u") (queue (codes "j-3")) (pos 50)
    ≡ record {
      change = Some (put_job (record (sample Queued levels.Info []) { updated = pos 50; turn = 9; ran = Some nothing }) 10);
      outcome = outcome.Queued;
    }
queues = refl

another_user : decide (book 9 Created) (codes "v") (queue (codes "j-3")) (pos 50) ≡ refused JobNotFound
another_user = refl

locked : decide (book 9 Queued) (codes "u") (patch (codes "j-3") None None None None) (pos 50) ≡ refused JobLocked
locked = refl

-- a patch of nothing is a change
patches : decide (book 9 Error) (codes "u") (patch (codes "j-3") None None None None) (pos 50)
    ≡ done (put_job (record (sample Error levels.Info []) { updated = pos 50 }) 9)
patches = refl

deletes : decide (book 9 Running) (codes "u") (delete (codes "j-3")) (pos 50) ≡ done (drop_job (codes "j-3"))
deletes = refl

forgets_nothing : decide (book 9 Running) (codes "u") (forget (codes "p")) (pos 50) ≡ refused ProcessNotFound
forgets_nothing = refl

reopens : reopen (book 9 Running) ≡ Some (put_job (sample Queued levels.Info []) 9)
reopens = refl

reopens_nothing : reopen (book 9 Queued) ≡ None
reopens_nothing = refl

-- an asset where it stands is the line of the table
adds_in_place : changed (book 9 Running) (job_step (book 9 Running) (sample Running levels.Info []) (event.Asset (file (codes "a.json"))) (pos 50))
    ≡ changed (book 9 Running) (put_job (moved (machine.asset (pos 50) (file (codes "a.json"))) (sample Running levels.Info [])) 9)
adds_in_place = refl

drops : changed (book 9 Running) (drop_job (codes "j-3")) ≡ record { next = 9; jobs = []; processes = [] }
drops = refl

drops_no_other : changed (book 9 Running) (drop_job (codes "j-4")) ≡ book 9 Running
drops_no_other = refl

-- ---- stored processes

abbrev owned : List ℕ → List ℕ → PlainOwned
owned user id = record {
  user = user;
  process = record { id = id; parameters = []; graph = record { nodes = no_nodes; result = 0 }; text = [] };
}

between : with_process (owned (codes "u") (codes "b")) (owned (codes "t") (codes "z") ∷ owned (codes "u") (codes "a") ∷ owned (codes "u") (codes "c") ∷ [])
    ≡ owned (codes "t") (codes "z") ∷ owned (codes "u") (codes "a") ∷ owned (codes "u") (codes "b") ∷ owned (codes "u") (codes "c") ∷ []
between = refl

at_the_end : with_process (owned (codes "v") (codes "a")) (owned (codes "u") (codes "b") ∷ [])
    ≡ owned (codes "u") (codes "b") ∷ owned (codes "v") (codes "a") ∷ []
at_the_end = refl
