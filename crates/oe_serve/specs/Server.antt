-- The server: a book that is opened, and turns.
use Rattle.std.specs.Prelude.{◌≡◌, ◌⊎◌, ⊤, ◌<◌, ◌≤◌, ℕ, suc, ℤ, Bool, true, false, List, [], length, Option, None, IfSome, Result, Ok, Err, IsErrOf}
use Rattle.oe_jobs.specs.Events.{has_busy_job, running_job}
use Rattle.oe_jobs.specs.Kept.{Kept}
use Rattle.oe_jobs.specs.Plain.{PlainBook}
use Rattle.oe_outside.specs.Doors.{VisibleDoor}
use Rattle.oe_outside.specs.Faults.{NeverFalls, Rose}
use Rattle.oe_service.specs.Calls.{CommitsOne, IsKept}
use Rattle.oe_service.specs.Causes.{Outside}
use Rattle.oe_service.specs.States.{Event, Setting, State, at_book, command, next, no_command, refusal, reopen, reopened, setting_of, tick}
use Rattle.oe_service.specs.declared.answer.Ticked.{Ticked}
use Rattle.oe_service.specs.declared.answer.Ticked.TheVariants as ticked
use Rattle.oe_service.specs.declared.open.OpenBookFail.{OpenBookFail}
use Rattle.oe_service.specs.declared.open.OpenBookFail.TheVariants as opening
use Rattle.oe_service.specs.declared.service.Service.{Service}
use Rattle.oe_routes.specs.declared.site.Site.{Site}
use Rattle.oe_sources.specs.Catalogue.{Row}
use Rattle.oe_sources.specs.CatalogueDims.{dims_of}
use Rattle.oe_serve.specs.Links.{LinkOf}
use Rattle.oe_serve.specs.Serves.{ServerOf, server_for, server_of, setting_for}
use Rattle.oe_serve.specs.Turns.{AllTicked, DoorOf, EndsAt, IsAsked, Situation, StaysSound, Turn, Turned, situation, situation_of}
use Rattle.oe_serve.specs.declared.command.ServeCommand.{ServeCommand}
use Rattle.oe_serve.specs.declared.turns.ServeFail.{ServeFail}
use Rattle.oe_serve.specs.declared.turns.ServeFail.TheVariants.{KeeperFault, LinkFault, OutOfMemory}

-- ---- the opening

abbrev pub of_opening : OpenBookFail → ServeFail
of_opening opening.KeeperFailed = KeeperFault
of_opening opening.OutOfMemory = OutOfMemory

-- The book is opened: a job that ran is queued again, which is committed before it is made. No job runs then.
pub record Opens (before : Outside) (first : Situation) : Type 0 where
  pub state_is : IfSome before.kept (λ (k : Kept). first.state ≡ at_book (reopened k.book))
  pub commits : IfSome before.kept (λ (k : Kept). CommitsOne before.kept (reopened k.book) first.outside.kept)
  pub hidden : before.kept ≡ None → first.outside.kept ≡ None
  pub kept : IsKept first.outside.kept first.state.book
  pub none_runs : running_job first.state.book ≡ None
  pub none_done : first.state.done ≡ None
  pub rows : first.outside.rows ≡ before.rows
  pub spool : first.outside.spool ≡ before.spool
  pub spool_count : first.outside.spool_faults ≡ before.spool_faults
  pub keeper_count : NeverFalls before.keeper_faults first.outside.keeper_faults

-- ---- what a fault of the keeper is

-- an event that no request brings
abbrev pub IsOwn : Event → Type 0
IsOwn (command user asked now) = ⊥
IsOwn no_command = ⊥
IsOwn (tick now text) = ⊤
IsOwn (refusal now reason) = ⊤
IsOwn reopen = ⊤

-- the book that such an event makes of one that is kept, with a run under way or none
pub record IsMadeByOwn (setting : Setting) (book made : PlainBook) : Type 0 where
  pub event : Event
  pub own : IsOwn event
  pub done : Option ℕ
  pub made_is : made ≡ (next setting event (record { book = book; done = done })).book

-- The keeper's fault counter rose in its last call, which failed. That was the commit of a tick or of the reopening,
-- which makes its book of the one that is kept, where these are visible.
pub record CommitFails (setting : Setting) (faults : ℕ) (after : Outside) (has_failed : Bool) : Type 0 where
  pub rose : Rose faults after.keeper_faults
  pub last : has_failed ≡ true
  pub own : IfSome after.kept (λ (k : Kept). IsMadeByOwn setting k.book k.made)

-- no commit was begun
abbrev pub BeginsNone : Outside → Outside → Type 0
BeginsNone before after = after.kept ≡ before.kept

-- The keeper's fault counter rose in its last call, which failed: it was the loading of the book, or such a commit.
pub record KeeperFails (setting : Setting) (before after : Outside) (has_failed : Bool) : Type 0 where
  pub rose : Rose before.keeper_faults after.keeper_faults
  pub last : has_failed ≡ true
  pub own : BeginsNone before after ⊎ IfSome after.kept (λ (k : Kept). IsMadeByOwn setting k.book k.made)

-- ---- how turns end

-- Before all turns were made the door closed: no connection was to come, and no job to be done. The door was asked once
-- more than turns were made.
pub record Closes {C : Type 0} (turns : ℕ) (made : List (Turn C)) (door door_after : DoorOf C) (book : PlainBook)
    : Type 0 where
  pub fewer : length made < turns
  pub asked : IsAsked (suc (length made)) door.visible door_after.visible
  pub at_end : IfSome door_after.visible (λ (d : VisibleDoor C). d.coming ≡ [])
  pub is_free : IfSome door.visible (λ (_ : VisibleDoor C). has_busy_job book ≡ false)

-- all turns were made, and the door was asked once in each
pub record MakesAll {C : Type 0} (turns : ℕ) (made : List (Turn C)) (door door_after : DoorOf C) : Type 0 where
  pub all : length made ≡ turns
  pub asked : IsAsked (length made) door.visible door_after.visible

-- All turns were made, or the door closed. No tick was refused, and the door has not failed.
pub record EndsWell {C : Type 0} (turns : ℕ) (made : List (Turn C)) (door door_after : DoorOf C) (book : PlainBook)
    : Type 0 where
  pub ends : MakesAll turns made door door_after ⊎ Closes turns made door door_after book
  pub ticked : AllTicked made
  pub sound : StaysSound door door_after

-- The tick of the last turn was refused. The door was asked once in each, and has not failed.
pub record EndsInTick {C : Type 0} (turns : ℕ) (answer : Ticked) (made : List (Turn C)) (door door_after : DoorOf C)
    : Type 0 where
  pub ends : EndsAt answer made
  pub most : length made ≤ turns
  pub asked : IsAsked (length made) door.visible door_after.visible
  pub sound : StaysSound door door_after

-- the door failed when it was asked once more
pub record EndsAtDoor {C : Type 0} (turns : ℕ) (made : List (Turn C)) (door door_after : DoorOf C) : Type 0 where
  pub rose : Rose door.faults door_after.faults
  pub fewer : length made < turns
  pub asked : IsAsked (suc (length made)) door.visible door_after.visible
  pub ticked : AllTicked made

module _ {C : Type 0} (setting : Setting) (turns : ℕ) (first last : Situation) (door door_after : DoorOf C) where
  -- the cause of an ending after these turns
  abbrev pub EndsWith : List (Turn C) → Result (Unit {0}) ServeFail → Type 0
  EndsWith made (Ok done) = EndsWell turns made door door_after last.state.book
  EndsWith made (Err KeeperFault) =
      EndsInTick turns ticked.KeeperFailed made door door_after
      × CommitFails setting first.outside.keeper_faults last.outside last.has_failed
  EndsWith made (Err LinkFault) = EndsAtDoor turns made door door_after
  EndsWith made (Err OutOfMemory) = EndsInTick turns ticked.OutOfMemory made door door_after

-- turns are made from a situation on, and end so
pub record MakesTurns {C : Type 0} (link : C → LinkOf) (server : ServerOf) (setting : Setting) (turns : ℕ)
    (moment : Option ℤ) (first last : Situation) (door door_after : DoorOf C) (result : Result (Unit {0}) ServeFail)
    : Type 0 where
  pub turned : Turned link server setting moment first last door door_after
  pub ends : EndsWith setting turns first last door door_after turned.made result

-- ---- how the server ends

module _ {C : Type 0} (link : C → LinkOf) (server : ServerOf) (turns : ℕ) (before after : Outside)
    (door door_after : DoorOf C) (moment : Option ℤ) (has_failed : Bool) where
  -- what is known of the runs of jobs over the collections
  abbrev setting : Setting
  setting = setting_of (dims_of before.rows) server.size server.workers

  -- the book is opened, and turns are made
  pub record TakesTurns (result : Result (Unit {0}) ServeFail) : Type 0 where
    pub first : Situation
    pub last : State
    pub opens : Opens before first
    pub makes : MakesTurns link server setting turns moment first (situation last after has_failed) door door_after
        result

  -- why the book is not opened
  abbrev pub ClosedBy : Result (Unit {0}) ServeFail → Type 0
  ClosedBy (Ok done) = ⊥
  ClosedBy (Err KeeperFault) = KeeperFails setting before after has_failed
  ClosedBy (Err LinkFault) = ⊥
  ClosedBy (Err OutOfMemory) = ⊤

  -- the book is not opened: no turn is made, and the book that is kept stays
  pub record StaysClosed (result : Result (Unit {0}) ServeFail) : Type 0 where
    pub fails : ClosedBy result
    pub kept : IfSome before.kept (λ (k : Kept). IsKept after.kept k.book)
    pub commits : IfSome before.kept (λ (k : Kept). CommitsOne before.kept (reopened k.book) after.kept)
    pub rows : after.rows ≡ before.rows
    pub spool : after.spool ≡ before.spool
    pub spool_count : after.spool_faults ≡ before.spool_faults
    pub door_is : door_after ≡ door

  -- The server ends.
  abbrev pub ServerEnds : Result (Unit {0}) ServeFail → Type 0
  ServerEnds result = TakesTurns result ⊎ StaysClosed result

-- The same over the whole call, for whoever ends a program by it: the keeper's failure ends the server only where its
-- last call failed so, whatever became of connections.
abbrev pub IsKeeperFault : ServerOf → Outside → Outside → Bool → Result (Unit {0}) ServeFail → Type 0
IsKeeperFault server before after has_failed result =
    IsErrOf result KeeperFault
    → KeeperFails (setting_of (dims_of before.rows) server.size server.workers) before after has_failed

-- ---- of the objects that a server is lent: connections of type C at a door of type D, a spool of type P and a keeper
-- of type K, by what is outside with these and whether the last call of the keeper failed

module _ {C D P K : Type 0} (link : C → LinkOf) (seen : D → DoorOf C) (out : List Row → P → K → Outside)
    (has_failed : K → Bool) where
  -- turns are made, and end so
  abbrev pub MakesTurnsOver : Site → ℕ → Option ℤ → Service → Service → List Row → P → K → D → List Row → P → K → D
      → Result (Unit {0}) ServeFail → Type 0
  MakesTurnsOver site times moment s s_after rows spool keeper door rows_after spool_after keeper_after door_after end =
      MakesTurns link (server_for site s) (setting_for rows s) times moment
      (situation_of out has_failed s rows spool keeper)
      (situation_of out has_failed s_after rows_after spool_after keeper_after) (seen door) (seen door_after) end

  -- the server that was asked for ends
  abbrev pub ServerEndsOver : Site → ServeCommand → Option ℤ → List Row → P → K → D → List Row → P → K → D
      → Result (Unit {0}) ServeFail → Type 0
  ServerEndsOver site asked moment rows spool keeper door rows_after spool_after keeper_after door_after ended =
      ServerEnds link (server_of site asked.size asked.workers) asked.turns (out rows spool keeper)
      (out rows_after spool_after keeper_after) (seen door) (seen door_after) moment (has_failed keeper_after) ended

-- a failure of the keeper that ends it is one of its last call
abbrev pub IsKeeperFaultOver : {P K : Type 0} → (List Row → P → K → Outside) → (K → Bool) → Site → ServeCommand
    → List Row → P → K → List Row → P → K → Result (Unit {0}) ServeFail → Type 0
IsKeeperFaultOver out has_failed site asked rows spool keeper rows_after spool_after keeper_after ended =
    IsKeeperFault (server_of site asked.size asked.workers) (out rows spool keeper)
    (out rows_after spool_after keeper_after) (has_failed keeper_after) ended
