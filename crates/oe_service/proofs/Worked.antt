-- Worked values: ticks by hand, over the status table of the openEO API's batch jobs.
use Rattle.std.proofs.Common.{◌≡◌, ℕ, ℤ, ◌∷◌, [], ◌++◌, List, Some, None, codes, pos, refl}
use Rattle.std.specs.Prelude.{count_by, replicate}
use Rattle.oe_jobs.specs.Machine.{course, failure}
use Rattle.oe_jobs.specs.Plain.{PlainBook, PlainJob, PlainRan, cancel, delete, queue}
use Rattle.oe_jobs.specs.declared.job.Asset.{Asset}
use Rattle.oe_jobs.specs.declared.job.LogEntry.{LogEntry}
use Rattle.oe_jobs.specs.declared.level.Level.TheVariants as levels
use Rattle.oe_jobs.specs.declared.status.Status.{Status}
use Rattle.oe_jobs.specs.declared.status.Status.TheVariants.{Queued, Running, Canceled, Finished, Error}
use Rattle.oe_service.specs.Finishes.{is_tick}
use Rattle.oe_service.specs.States.{Event, command, no_command, tick, refusal, reopen, Setting, State, after, at_book}
use Rattle.oe_service.specs.declared.refusal.RunRefusal.TheVariants.{NumberOverflow}

-- the job j-1 of the user u, which was created at 1 and drew the turn 2 when it was queued
abbrev ran : PlainRan
ran = record { process = codes "{}"; stored = [] }

abbrev job : Status → ℤ → List LogEntry → List Asset → PlainJob
job status updated logs assets = record {
  id = codes "j-1";
  user = codes "u";
  title = None;
  description = None;
  process = codes "{}";
  status = status;
  level = levels.Info;
  created = pos 1;
  updated = updated;
  turn = 2;
  ran = Some ran;
  logs = logs;
  assets = assets;
}

abbrev book : PlainJob → PlainBook
book j = record { next = 3; jobs = j ∷ []; processes = [] }

abbrev queued : State
queued = at_book (book (job Queued (pos 2) [] []))

abbrev file : List ℕ → Asset
file name = record { name = name; text = codes "T" }

abbrev at : ℕ → Event
at n = tick (pos n) (codes "T")

-- a graph of one node a, whose result has one chunk; and one of two nodes p and q with five chunks each
abbrev one : Setting
one = record { ids = λ r. codes "a" ∷ []; chunks = λ r k. 1; workers = 1 }

abbrev two : Setting
two = record { ids = λ r. codes "p" ∷ codes "q" ∷ []; chunks = λ r k. 5; workers = 1 }

-- ---- one asset of one chunk: start, plan, one round, its text, the end; and then nothing

abbrev all_logs : List LogEntry
all_logs = course (codes "started") ∷ course (codes "asset a.json") ∷ course (codes "finished") ∷ []

started : after one (at 3 ∷ []) queued ≡ at_book (book (job Running (pos 3) (course (codes "started") ∷ []) []))
started = refl

planned : (after one (at 3 ∷ at 4 ∷ []) queued).done ≡ Some 0
planned = refl

a_round : (after one (at 3 ∷ at 4 ∷ at 5 ∷ []) queued).done ≡ Some 1
a_round = refl

in_five : after one (at 3 ∷ at 4 ∷ at 5 ∷ at 6 ∷ at 7 ∷ []) queued
    ≡ at_book (book (job Finished (pos 7) all_logs (file (codes "a.json") ∷ [])))
in_five = refl

nothing_more : after one (at 8 ∷ []) (at_book (book (job Finished (pos 7) all_logs [])))
    ≡ at_book (book (job Finished (pos 7) all_logs []))
nothing_more = refl

-- a result out of range is found where its text is due
overflow : after one (at 3 ∷ at 4 ∷ at 5 ∷ refusal (pos 6) NumberOverflow ∷ []) queued
    ≡ at_book (book (job Error (pos 6) (course (codes "started") ∷ failure (codes "NumberOverflow") ∷ []) []))
overflow = refl

-- ---- two assets of five chunks, two a round: eleven ticks after the start

abbrev ticks : ℕ → List Event
ticks n = replicate n (at 9)

three_rounds : (after two (ticks 3) queued).done ≡ Some 2
three_rounds = refl

last_round : (after two (ticks 5) queued).done ≡ Some 5
last_round = refl

still_runs : (after two (ticks 11) queued).done ≡ None
still_runs = refl

in_twelve : after two (ticks 12) queued
    ≡ at_book (book (job Finished (pos 9) (course (codes "started") ∷ course (codes "asset p.json")
    ∷ course (codes "asset q.json") ∷ course (codes "finished") ∷ []) (file (codes "p.json") ∷ file (codes "q.json") ∷ [])))
in_twelve = refl

-- requests that do not end the job come between them: one that is refused, a cancel by another user, who has no such
-- job, and a queue, which a job that runs ignores
in_twelve_still : after two (ticks 5 ++ no_command ∷ command (codes "v") (cancel (codes "j-1")) (pos 10) ∷ []
    ++ ticks 3 ++ command (codes "u") (queue (codes "j-1")) (pos 11) ∷ [] ++ ticks 4) queued
    ≡ at_book (book (job Finished (pos 9) (course (codes "started") ∷ course (codes "asset p.json")
    ∷ course (codes "asset q.json") ∷ course (codes "finished") ∷ []) (file (codes "p.json") ∷ file (codes "q.json") ∷ [])))
in_twelve_still = refl

-- a request is no tick, nor is one that is refused
two_ticks : count_by is_tick (at 3 ∷ no_command ∷ refusal (pos 4) NumberOverflow ∷ at 5 ∷ reopen ∷ []) ≡ 2
two_ticks = refl

-- canceled where one asset is stored: its run ends, and the asset stays
abbrev canceled : State
canceled = after two (ticks 6 ++ command (codes "u") (cancel (codes "j-1")) (pos 10) ∷ []) queued

cancel_keeps : canceled
    ≡ at_book (book (job Canceled (pos 10) (course (codes "started") ∷ course (codes "asset p.json")
    ∷ course (codes "canceled") ∷ []) (file (codes "p.json") ∷ [])))
cancel_keeps = refl

-- canceled while its first asset is made: no run is under way
cancel_ends : (after two (ticks 3 ++ command (codes "u") (cancel (codes "j-1")) (pos 10) ∷ []) queued).done ≡ None
cancel_ends = refl

-- deleted
delete_ends : after two (ticks 3 ++ command (codes "u") (delete (codes "j-1")) (pos 10) ∷ []) queued
    ≡ at_book (record { next = 3; jobs = []; processes = [] })
delete_ends = refl

-- ---- the program ends while the job runs: it is queued with its old turn and without assets

reopened_mid : after two (ticks 7 ++ reopen ∷ []) queued
    ≡ at_book (book (job Queued (pos 9) (course (codes "started") ∷ course (codes "asset p.json") ∷ []) []))
reopened_mid = refl
