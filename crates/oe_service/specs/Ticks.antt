-- What a tick promises: it is an event that may come then, or none, and begins at most one commit.
use Rattle.std.specs.Prelude.{◌≡◌, ◌≢◌, ⊤, ℕ, ℤ, Bool, true, false, Option, Result, Ok, Err, if◌then◌else◌}
use Rattle.oe_jobs.specs.Events.{has_busy_job}
use Rattle.oe_jobs.specs.Kept.{Kept}
use Rattle.oe_jobs.specs.Plain.{PlainBook}
use Rattle.oe_jobs.specs.declared.keeper.KeeperFail.{KeeperFail}
use Rattle.oe_jobs.specs.declared.keeper.KeeperFail.TheVariants as fail
use Rattle.oe_outside.specs.Faults.{NeverFalls}
use Rattle.oe_sources.specs.CatalogueDims.{dims_of}
use Rattle.oe_window.specs.declared.grid.ChunkSize.{ChunkSize}
use Rattle.oe_service.specs.Calls.{CommitsOne, Failed, GoesByEvent}
use Rattle.oe_service.specs.Causes.{ChangesBook, IsOfTick, Outside}
use Rattle.oe_service.specs.States.{Event, Setting, State, at_book, due, next, setting_of}
use Rattle.oe_service.specs.declared.answer.Ticked.{Ticked}
use Rattle.oe_service.specs.declared.answer.Ticked.TheVariants as ticked

-- the answer of a tick, by that of its commit
abbrev pub answer_of : Result (Unit {0}) KeeperFail → Ticked
answer_of (Ok done) = ticked.Moved
answer_of (Err fail.Failed) = ticked.KeeperFailed
answer_of (Err fail.OutOfMemory) = ticked.OutOfMemory

-- a tick that did not answer a refusal is an event
abbrev pub is_event : Ticked → Bool
is_event ticked.Idle = true
is_event ticked.Moved = true
is_event ticked.KeeperFailed = false
is_event ticked.OutOfMemory = false

-- the cause of an answer, of a tick that makes this book of a book; out of memory has none
abbrev pub TickEnds : PlainBook → PlainBook → Outside → Outside → Bool → Ticked → Type 0
TickEnds book made before after has_failed ticked.Idle = has_busy_job book ≡ false
TickEnds book made before after has_failed ticked.Moved = has_busy_job book ≡ true
TickEnds book made before after has_failed ticked.KeeperFailed =
    Failed made before.kept after.kept before.keeper_faults after.keeper_faults has_failed
TickEnds book made before after has_failed ticked.OutOfMemory = ⊤

module _ (size : ChunkSize) (workers : ℕ) (before after : Outside) where
  -- the runs of jobs over the collections as they are
  abbrev setting : Setting
  setting = setting_of (dims_of before.rows) size workers

  -- A tick at a moment. So where no fault counter rose its event is the tick, or a refusal that is out of memory, of a
  -- damaged position, or one that comes exactly where its cause stands. It is no event only where its event changes the
  -- book: so `Idle` comes exactly where no job is queued or runs.
  pub record Ticks (now : ℤ) (s s_after : State) (has_failed : Bool) (result : Ticked) : Type 0 where
    pub event : Event
    pub of_tick : IsOfTick size workers before after (due setting s) now event
    pub goes : GoesByEvent setting event (is_event result) s s_after before.kept after.kept
    pub ends : TickEnds s.book (next setting event s).book before after has_failed result
    pub changes : is_event result ≡ false → ChangesBook (due setting s) event
    -- where its event changes no book, what the keeper has and its fault counter stay as they were
    pub idle : ¬ ChangesBook (due setting s) event
        → (after.kept ≡ before.kept) × (after.keeper_faults ≡ before.keeper_faults)
    -- out of memory begins no commit
    pub unbegun : result ≡ ticked.OutOfMemory → after.kept ≡ before.kept
    pub spool_count : NeverFalls before.spool_faults after.spool_faults
    pub keeper_count : NeverFalls before.keeper_faults after.keeper_faults

-- ---- ticks that change the book

-- A tick commits this book, with which no run is under way any more, or leaves the state. Out of memory begins no
-- commit.
pub record Commits (made : PlainBook) (s s_after : State) (kept kept_after : Option Kept) (faults faults_after : ℕ)
    (has_failed : Bool) (result : Ticked) : Type 0 where
  pub state : s_after ≡ (if is_event result then at_book made else s)
  pub commits : CommitsOne kept made kept_after
  pub unbegun : result ≡ ticked.OutOfMemory → kept_after ≡ kept
  pub failed : result ≡ ticked.KeeperFailed → Failed made kept kept_after faults faults_after has_failed
  pub worked : result ≢ ticked.Idle
  pub count : NeverFalls faults faults_after
