-- What the steps of a turn promise.
use Rattle.std.specs.Prelude.{◌≡◌, ℕ, ℤ, Bool, true, false, List, [], ◌∷◌, length, Option, IfSome, Result, Ok, Err}
use Rattle.oe_jobs.specs.Events.{has_busy_job}
use Rattle.oe_jobs.specs.Plain.{plain_book}
use Rattle.oe_outside.specs.Doors.{ShowsDone, VisibleDoor}
use Rattle.oe_outside.specs.Faults.{NeverFalls, Rose}
use Rattle.oe_service.specs.Calls.{IsKept}
use Rattle.oe_service.specs.Causes.{Outside}
use Rattle.oe_service.specs.GoesOn.{GoesOn, HasSizesOf, IsService, state_of}
use Rattle.oe_service.specs.States.{Event, Setting}
use Rattle.oe_service.specs.Steps.{TicksService}
use Rattle.oe_service.specs.declared.answer.Ticked.{Ticked}
use Rattle.oe_service.specs.declared.answer.Ticked.TheVariants as ticked
use Rattle.oe_service.specs.declared.service.Service.{Service}
use Rattle.oe_routes.specs.declared.site.Site.{Site}
use Rattle.oe_sources.specs.Catalogue.{Row}
use Rattle.oe_serve.specs.Links.{LinkOf}
use Rattle.oe_serve.specs.Serves.{ServerOf, ServesService, server_for}
use Rattle.oe_serve.specs.Turns.{AllTicked, DoorOf, IsAsked, IsTurn, Passes, Situation, StaysSound, StaysVisible, Turn, Turned, situation}
use Rattle.oe_serve.specs.declared.served.Served.{Served}
use Rattle.oe_serve.specs.declared.turns.ServeFail.{ServeFail}
use Rattle.oe_serve.specs.declared.turns.ServeFail.TheVariants.{KeeperFault, LinkFault, OutOfMemory}

-- a connection is served at a moment, and given back to its door
pub record MeetsOne {C : Type 0} (link : C → LinkOf) (server : ServerOf) (now : ℤ) (conn : C) (s s_after : Service)
    (before after : Outside) (door door_after : DoorOf C) (has_failed : Bool) : Type 0 where
  pub given : C
  pub result : Served
  pub serves : ServesService server now s s_after before after (link conn) (link given) has_failed result
  pub given_back : ShowsDone door.visible given door_after.visible
  pub faults : door_after.faults ≡ door.faults
  pub dial_faults : door_after.dial_faults ≡ door.dial_faults

-- whether the door is asked again after a tick with this answer
abbrev pub ended_by : Ticked → Result Bool ServeFail
ended_by ticked.Idle = Ok true
ended_by ticked.Moved = Ok true
ended_by ticked.KeeperFailed = Err KeeperFault
ended_by ticked.OutOfMemory = Err OutOfMemory

-- one tick is made at a moment, which answers so
pub record TicksOnce (before after : Outside) (now : ℤ) (s s_after : Service) (has_failed : Bool)
    (result : Result Bool ServeFail) : Type 0 where
  pub answer : Ticked
  pub ticks : TicksService before after now s s_after has_failed answer
  pub result_is : result ≡ ended_by answer

-- ---- one turn

module _ {C : Type 0} (link : C → LinkOf) (server : ServerOf) (moment : Option ℤ) (before after : Situation)
    (door door_after : DoorOf C) where
  -- the door was asked once, and a turn was made, whose tick answers so
  pub record TakesTurn (result : Result Bool ServeFail) : Type 0 where
    pub turn : Turn C
    pub events : List Event
    pub is_turn : IsTurn link server turn before after events
    pub passes : Passes (turn ∷ []) door.visible door_after.visible
    pub asked : IsAsked 1 door.visible door_after.visible
    pub moment_is : IfSome moment (λ m. turn.now ≡ m)
    pub result_is : result ≡ ended_by turn.answer
    pub sound : StaysSound door door_after

  -- the door was asked once, and gave no connection, so that all stays
  pub record AsksInVain : Type 0 where
    pub same : after ≡ before
    pub passes : Passes [] door.visible door_after.visible
    pub asked : IsAsked 1 door.visible door_after.visible

  -- the door is closed: no connection is to come, and no job to be done
  pub record IsClosed : Type 0 where
    pub in_vain : AsksInVain
    pub at_end : IfSome door_after.visible (λ (d : VisibleDoor C). d.coming ≡ [])
    pub is_free : IfSome door.visible (λ (_ : VisibleDoor C). has_busy_job before.state.book ≡ false)
    pub sound : StaysSound door door_after

  abbrev pub EndsTurn : Result Bool ServeFail → Type 0
  EndsTurn (Ok true) = TakesTurn (Ok true)
  EndsTurn (Ok false) = IsClosed
  EndsTurn (Err KeeperFault) = TakesTurn (Err KeeperFault)
  EndsTurn (Err LinkFault) = AsksInVain × Rose door.faults door_after.faults
  EndsTurn (Err OutOfMemory) = TakesTurn (Err OutOfMemory)

-- One turn, and what holds again after it, whatever it answers.
pub record TurnsOnce {C : Type 0} (link : C → LinkOf) (server : ServerOf) (moment : Option ℤ) (s s_after : Service)
    (before after : Outside) (failed failed_after : Bool) (door door_after : DoorOf C) (result : Result Bool ServeFail)
    : Type 0 where
  pub service : IsService s_after
  pub sizes : HasSizesOf s s_after
  pub is_kept : IsKept after.kept (plain_book s_after.book)
  pub going : GoesOn s_after.run after.rows after.spool
  pub goes_on : StaysVisible before after
  pub never_dials : door_after.dial_faults ≡ door.dial_faults
  pub keeper_count : NeverFalls before.keeper_faults after.keeper_faults
  pub spool_count : NeverFalls before.spool_faults after.spool_faults
  pub door_count : NeverFalls door.faults door_after.faults
  pub ends : EndsTurn link server moment (situation (state_of s) before failed)
      (situation (state_of s_after) after failed_after) door door_after result

-- ---- of the objects that a turn is lent

-- one tick is made, of a spool of type P and a keeper of type K, by what is outside with these and whether the last
-- call of the keeper failed
abbrev pub TicksOnceOver : {P K : Type 0} → (List Row → P → K → Outside) → (K → Bool) → ℤ → Service → Service
    → List Row → P → K → List Row → P → K → Result Bool ServeFail → Type 0
TicksOnceOver out has_failed now s s_after rows spool keeper rows_after spool_after keeper_after result =
    TicksOnce (out rows spool keeper) (out rows_after spool_after keeper_after) now s s_after (has_failed keeper_after)
    result

-- of connections of type C at a door of type D as well
module _ {C D P K : Type 0} (link : C → LinkOf) (seen : D → DoorOf C) (out : List Row → P → K → Outside)
    (has_failed : K → Bool) where
  -- a connection is served, and given back
  abbrev pub MeetsOneOver : Site → ℤ → C → Service → Service → List Row → P → K → D → List Row → P → K → D → Type 0
  MeetsOneOver site now conn s s_after rows spool keeper door rows_after spool_after keeper_after door_after =
      MeetsOne link (server_for site s) now conn s s_after (out rows spool keeper)
      (out rows_after spool_after keeper_after) (seen door) (seen door_after) (has_failed keeper_after)

  -- one turn, whatever it answers
  abbrev pub TurnsOnceOver : Site → Option ℤ → Service → Service → List Row → P → K → D → List Row → P → K → D
      → Result Bool ServeFail → Type 0
  TurnsOnceOver site moment s s_after rows spool keeper door rows_after spool_after keeper_after door_after result =
      TurnsOnce link (server_for site s) moment s s_after (out rows spool keeper)
      (out rows_after spool_after keeper_after) (has_failed keeper) (has_failed keeper_after) (seen door)
      (seen door_after) result

-- ---- turns so far

-- so many turns were made: the door was asked once in each, none of their ticks was refused, and the door has not
-- failed
pub record SoFar {C : Type 0} (link : C → LinkOf) (server : ServerOf) (setting : Setting) (moment : Option ℤ)
    (first last : Situation) (door door_after : DoorOf C) (times : ℕ) : Type 0 where
  pub turned : Turned link server setting moment first last door door_after
  pub count : length turned.made ≡ times
  pub asked : IsAsked times door.visible door_after.visible
  pub ticked : AllTicked turned.made
  pub sound : StaysSound door door_after
