-- Turns of a server: the connections that came, what became of them, and the events that this was.
use Rattle.std.specs.Prelude.{◌≡◌, ℕ, zero, suc, ℤ, Bool, true, List, [], ◌∷◌, ◌++◌, map, Option, Some, None, IfSome, if◌then◌else◌}
use Rattle.std.specs.List.{All}
use Rattle.oe_engine.specs.Results.{IsVisible}
use Rattle.oe_steps.specs.Collections.{AreRead}
use Rattle.oe_jobs.specs.Events.{has_busy_job}
use Rattle.oe_outside.specs.Doors.{VisibleDoor}
use Rattle.oe_outside.specs.Faults.{NeverFalls, counted}
use Rattle.oe_service.specs.Calls.{IsKept}
use Rattle.oe_service.specs.Causes.{Outside}
use Rattle.oe_service.specs.GoesOn.{state_of}
use Rattle.oe_service.specs.States.{Event, Setting, State}
use Rattle.oe_service.specs.States.{after as after_events}
use Rattle.oe_service.specs.Ticks.{Ticks, is_event}
use Rattle.oe_service.specs.declared.answer.Ticked.{Ticked}
use Rattle.oe_service.specs.declared.service.Service.{Service}
use Rattle.oe_sources.specs.Catalogue.{Row}
use Rattle.oe_serve.specs.Links.{LinkOf}
use Rattle.oe_serve.specs.Serves.{ServerOf, Serves}
use Rattle.oe_serve.specs.declared.served.Served.{Served}

-- ---- what a turn does

-- a service, all that is outside of it, and whether the last call of the keeper failed
pub record Situation : Type 0 where
  pub state : State
  pub outside : Outside
  pub has_failed : Bool

abbrev pub situation : State → Outside → Bool → Situation
situation state outside has_failed = record { state = state; outside = outside; has_failed = has_failed }

-- of a service, and of what is outside of it with collections, a spool of type P and a keeper of type K
abbrev pub situation_of : {P K : Type 0} → (List Row → P → K → Outside) → (K → Bool) → Service → List Row → P → K
    → Situation
situation_of out has_failed s rows spool keeper = situation (state_of s) (out rows spool keeper) (has_failed keeper)

-- A turn: the connection that came, as it came and as it was given back, where one came; its moment; and the answer of
-- its tick.
pub record Turn (C : Type 0) : Type 0 where
  pub met : Option (C × C)
  pub now : ℤ
  pub answer : Ticked

-- an event, where it came about
abbrev pub event_if : Bool → Event → List Event
event_if comes e = if comes then e ∷ [] else []

-- the collections are only read, and a spool whose bytes are visible stays so
pub record StaysVisible (before after : Outside) : Type 0 where
  pub read : AreRead before.rows after.rows
  pub visible : IsVisible before.spool → IsVisible after.spool

module _ {C : Type 0} (link : C → LinkOf) (server : ServerOf) where
  -- a connection is served at a moment
  pub record IsMet (now : ℤ) (conn given : C) (before after : Situation) (events : List Event) : Type 0 where
    pub event : Event
    pub comes : Bool
    pub result : Served
    pub serves : Serves server now before.state after.state before.outside after.outside (link conn) (link given)
        after.has_failed event comes result
    pub goes_on : StaysVisible before.outside after.outside
    pub events_are : events ≡ event_if comes event

  -- the connection of a turn is served, where one came; none comes only where there is a job to be done
  abbrev pub IsMetIf : Option (C × C) → ℤ → Situation → Situation → List Event → Type 0
  IsMetIf None now before after events = (has_busy_job before.state.book ≡ true) × (after ≡ before) × (events ≡ [])
  IsMetIf (Some met) now before after events = IsMet now met.0 met.1 before after events

  -- one tick is made at a moment, with this answer, and the book is kept
  pub record IsTicked (now : ℤ) (answer : Ticked) (before after : Situation) (events : List Event) : Type 0 where
    pub ticks : Ticks server.size server.workers before.outside after.outside now before.state after.state
        after.has_failed answer
    pub kept : IsKept after.outside.kept after.state.book
    pub goes_on : StaysVisible before.outside after.outside
    pub events_are : events ≡ event_if (is_event answer) ticks.event

  -- A turn: its connection is served, where one came, and then one tick is made, at the same moment. Its events are
  -- that of the connection and then that of the tick, where they came about.
  pub record IsTurn (turn : Turn C) (before after : Situation) (events : List Event) : Type 0 where
    pub between : Situation
    pub served : List Event
    pub ticked : List Event
    pub meets : IsMetIf turn.met turn.now before between served
    pub ticks : IsTicked turn.now turn.answer between after ticked
    pub events_are : events ≡ served ++ ticked

-- Turns, one after the other, lead from one situation to another. Beside them stand their events, in their order.
pub data AreTurns {C : Type 0} (link : C → LinkOf) (server : ServerOf) (first : Situation)
    : List (Turn C) → List Event → Situation → Type 0 where
  none : AreTurns link server first [] [] first
  one_more : {turns : List (Turn C)} {events more : List Event} {s after : Situation}
      → AreTurns link server first turns events s → (turn : Turn C) → IsTurn link server turn s after more
      → AreTurns link server first (turns ++ turn ∷ []) (events ++ more) after

-- the ticks of all these turns were events: none was refused
abbrev pub AllTicked : {C : Type 0} → List (Turn C) → Type 0
AllTicked {C} turns = All (λ (turn : Turn C). is_event turn.answer ≡ true) turns

-- the tick of the last turn has this answer, and those of all turns before it were events
pub record EndsAt {C : Type 0} (answer : Ticked) (turns : List (Turn C)) : Type 0 where
  pub front : List (Turn C)
  pub last : Turn C
  pub turns_are : turns ≡ front ++ last ∷ []
  pub answer_is : last.answer ≡ answer
  pub ticked : AllTicked front

-- ---- the connections

-- the connection of one more turn, where one came, before these
abbrev pub met_first : {C : Type 0} → Option (C × C) → List (C × C) → List (C × C)
met_first None rest = rest
met_first (Some met) rest = met ∷ rest

abbrev pub met_in : {C : Type 0} → List (Turn C) → List (C × C)
met_in [] = []
met_in (turn ∷ turns) = met_first turn.met (met_in turns)

-- the connections that came, in their order, and these as they were given back
abbrev pub came_in : {C : Type 0} → List (Turn C) → List C
came_in turns = map (λ met. met.0) (met_in turns)

abbrev pub given_in : {C : Type 0} → List (Turn C) → List C
given_in turns = map (λ met. met.1) (met_in turns)

-- The connections that came are the first of those that were to come, and all were given back, in their order. None was
-- dialled.
pub record HasPassed {C : Type 0} (turns : List (Turn C)) (door after : VisibleDoor C) : Type 0 where
  pub came : door.coming ≡ came_in turns ++ after.coming
  pub given_back : after.given_back ≡ door.given_back ++ given_in turns
  pub out : after.out ≡ door.out
  pub to_dial : after.to_dial ≡ door.to_dial
  pub dials : after.dials ≡ door.dials
  pub last_dial : after.last_dial ≡ door.last_dial

-- the same of a door whose connections may be hidden
abbrev pub Passes : {C : Type 0} → List (Turn C) → Option (VisibleDoor C) → Option (VisibleDoor C) → Type 0
Passes turns None after = after ≡ None
Passes turns (Some door) None = ⊥
Passes turns (Some door) (Some after) = HasPassed turns door after

-- a counter after so many more, which stays at its last value
abbrev pub counted_times : ℕ → ℕ → ℕ
counted_times zero n = n
counted_times (suc k) n = counted (counted_times k n)

-- a door was asked for the next connection so many times, where that is visible
abbrev pub IsAsked : {C : Type 0} → ℕ → Option (VisibleDoor C) → Option (VisibleDoor C) → Type 0
IsAsked times None after = after ≡ None
IsAsked times (Some door) None = ⊥
IsAsked times (Some door) (Some after) = after.nexts ≡ counted_times times door.nexts

-- ---- the moments

-- each turn has the clock's one moment, where that is visible
abbrev pub HaveMoment : {C : Type 0} → Option ℤ → List (Turn C) → Type 0
HaveMoment {C} moment turns = IfSome moment (λ m. All (λ (turn : Turn C). turn.now ≡ m) turns)

-- ---- turns so far

-- what is seen of a door whose connections are of type C
pub record DoorOf (C : Type 0) : Type 0 where
  pub visible : Option (VisibleDoor C)
  pub faults : ℕ
  pub dial_faults : ℕ

-- of a door of type D
abbrev pub door_of : {D C : Type 0} → (D → Option (VisibleDoor C)) → (D → ℕ) → (D → ℕ) → D → DoorOf C
door_of visible faults dial_faults door =
    record { visible = visible door; faults = faults door; dial_faults = dial_faults door }

-- the fault counter of a door where no `next` failed: where the connections are visible it is as it was
abbrev pub StaysSound : {C : Type 0} → DoorOf C → DoorOf C → Type 0
StaysSound {C} door after = IfSome door.visible (λ (_ : VisibleDoor C). after.faults ≡ door.faults)

-- Turns lead from one situation to another, over a door. The state that they lead to is that of all events that came
-- about, in their order, and its book is kept. No fault counter falls.
pub record Turned {C : Type 0} (link : C → LinkOf) (server : ServerOf) (setting : Setting) (moment : Option ℤ)
    (first last : Situation) (door door_after : DoorOf C) : Type 0 where
  pub made : List (Turn C)
  pub events : List Event
  pub are_turns : AreTurns link server first made events last
  pub state_is : last.state ≡ after_events setting events first.state
  pub kept : IsKept last.outside.kept last.state.book
  pub goes_on : StaysVisible first.outside last.outside
  pub passes : Passes made door.visible door_after.visible
  pub never_dials : door_after.dial_faults ≡ door.dial_faults
  pub moments : HaveMoment moment made
  pub keeper_count : NeverFalls first.outside.keeper_faults last.outside.keeper_faults
  pub spool_count : NeverFalls first.outside.spool_faults last.outside.spool_faults
  pub door_count : NeverFalls door.faults door_after.faults
