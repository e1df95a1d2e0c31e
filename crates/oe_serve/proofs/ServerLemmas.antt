-- Turns, one after the other, and how they end.
use Rattle.std.proofs.Common.{◌≡◌, ℕ, suc, ◌≤◌, ℤ, Bool, true, false, List, [], ◌∷◌, ◌++◌, length, Option, Some, None, Result, Ok, Err, refl, sym, ap, ◌∙◌, subst, append-nil, inl, inr}
use Rattle.std.specs.Prelude.{IfSome, if◌then◌else◌}
use Rattle.std.proofs.lemmas.List.Elements.{All-nil}
use Rattle.oe_engine.proofs.LawLemmas.{stay_after_reads}
use Rattle.oe_jobs.specs.Events.{has_busy_job}
use Rattle.oe_jobs.specs.Kept.{Kept}
use Rattle.oe_jobs.specs.Plain.{PlainBook, plain_book}
use Rattle.oe_outside.proofs.Causes.{NeverFalls-refl, NeverFalls-trans, then-Rose}
use Rattle.oe_outside.specs.Doors.{VisibleDoor}
use Rattle.oe_outside.specs.Faults.{NeverFalls}
use Rattle.oe_service.specs.Calls.{FailsOne, IsKept}
use Rattle.oe_service.specs.Causes.{IsOfTick, Outside}
use Rattle.oe_service.specs.GoesOn.{state_of}
use Rattle.oe_service.specs.States.{Due, Event, Setting, State, command, next, no_command, refusal, reopen, setting_of, tick}
use Rattle.oe_service.specs.States.{after as after_events}
use Rattle.oe_service.specs.Ticks.{TickEnds, is_event}
use Rattle.oe_service.specs.declared.answer.Ticked.{Ticked}
use Rattle.oe_service.specs.declared.answer.Ticked.TheVariants as ticked
use Rattle.oe_service.specs.declared.service.Service.{Service}
use Rattle.oe_sources.specs.CatalogueDims.{dims_of}
use Rattle.oe_window.specs.declared.grid.ChunkSize.{ChunkSize}
use Rattle.oe_serve.specs.Links.{LinkOf}
use Rattle.oe_serve.specs.Serves.{ServerOf}
use Rattle.oe_serve.specs.Server.{CommitFails, EndsInTick, IsMadeByOwn, IsOwn, MakesTurns}
use Rattle.oe_serve.specs.Steps.{AsksInVain, SoFar, TakesTurn, TurnsOnce, ended_by}
use Rattle.oe_serve.specs.Turns.{AreTurns, DoorOf, IsAsked, IsMetIf, IsTicked, IsTurn, Passes, Situation, StaysSound, StaysVisible, Turn, Turned, event_if, none, one_more, situation}
use Rattle.oe_serve.specs.declared.turns.ServeFail.{ServeFail}
use Rattle.oe_serve.specs.declared.turns.ServeFail.TheVariants.{KeeperFault, LinkFault, OutOfMemory}
use Rattle.oe_serve.proofs.DoorLemmas.{asked_more, asked_none, moments_more, moments_none, one_longer, passes_more, passes_none, ticked_more}
use Rattle.oe_serve.proofs.TurnLemmas.{visible_both, visible_none}

-- ---- the events

after_append : (setting : Setting) (xs ys : List Event) (s : State)
    → after_events setting (xs ++ ys) s ≡ after_events setting ys (after_events setting xs s)
after_append setting [] ys s = refl
after_append setting (x ∷ xs) ys s = after_append setting xs ys (next setting x s)

after_one : (setting : Setting) (comes : Bool) (e : Event) (s : State)
    → (if comes then next setting e s else s) ≡ after_events setting (event_if comes e) s
after_one setting true e s = refl
after_one setting false e s = refl

-- what is known of the runs of jobs, by the collections as they are in a situation
abbrev setting_at : ServerOf → Situation → Setting
setting_at server s = setting_of (dims_of s.outside.rows) server.size server.workers

setting_stays : (server : ServerOf) (s t : Situation) → StaysVisible s.outside t.outside
    → setting_at server t ≡ setting_at server s
setting_stays server s t goes_on =
    ap (λ dims. setting_of dims server.size server.workers)
    (stay_after_reads.dims s.outside.rows t.outside.rows goes_on.read)

-- an event that a tick may be is no request's
own_of : (size : ChunkSize) (workers : ℕ) (before after : Outside) (due : Due) (now : ℤ) (e : Event)
    → IsOfTick size workers before after due now e → IsOwn e
own_of size workers before after due now (command user asked at) is = absurd is
own_of size workers before after due now no_command is = absurd is
own_of size workers before after due now (tick at text) is = tt
own_of size workers before after due now (refusal at reason) is = tt
own_of size workers before after due now reopen is = absurd is

-- a commit that failed makes the book of an own event of the book that is kept
own_by : (setting : Setting) (e : Event) (s : State) → IsOwn e → (kept kept_after : Option Kept) → IsKept kept s.book
    → FailsOne kept (next setting e s).book kept_after
    → IfSome kept_after (λ (k : Kept). IsMadeByOwn setting k.book k.made)
own_by setting e s own None kept_after is fails =
    subst (λ (o : Option Kept). IfSome o (λ (k : Kept). IsMadeByOwn setting k.book k.made)) (sym fails) tt
own_by setting e s own (Some k) None is fails = absurd fails
own_by setting e s own (Some k) (Some a) is (begun, made_is, book_is) = record {
  event = e;
  own = own;
  done = s.done;
  made_is = made_is ∙ ap (λ (b : PlainBook). (next setting e (record { book = b; done = s.done })).book) (sym (book_is ∙ is));
}

module _ {C : Type 0} (link : C → LinkOf) (server : ServerOf) where
  -- ---- one turn

  met_visible : (met : Option (C × C)) (now : ℤ) (before between : Situation) (served : List Event)
      → IsMetIf link server met now before between served → StaysVisible before.outside between.outside
  met_visible None now before between served m =
      subst (λ (s : Situation). StaysVisible before.outside s.outside) (sym m.1) (visible_none before.outside)
  met_visible (Some met) now before between served m = m.goes_on

  met_counts : (met : Option (C × C)) (now : ℤ) (before between : Situation) (served : List Event)
      → IsMetIf link server met now before between served
      → NeverFalls before.outside.keeper_faults between.outside.keeper_faults
  met_counts None now before between served m =
      subst (λ (s : Situation). NeverFalls before.outside.keeper_faults s.outside.keeper_faults) (sym m.1)
      (NeverFalls-refl before.outside.keeper_faults)
  met_counts (Some met) now before between served m = m.serves.keeper_count

  met_kept : (met : Option (C × C)) (now : ℤ) (before between : Situation) (served : List Event)
      → IsMetIf link server met now before between served → IsKept before.outside.kept before.state.book
      → IsKept between.outside.kept between.state.book
  met_kept None now before between served m is =
      subst (λ (s : Situation). IsKept s.outside.kept s.state.book) (sym m.1) is
  met_kept (Some met) now before between served m is = m.serves.kept

  met_state : (met : Option (C × C)) (now : ℤ) (before between : Situation) (served : List Event)
      → IsMetIf link server met now before between served
      → between.state ≡ after_events (setting_at server before) served before.state
  met_state None now before between served m =
      ap (λ (s : Situation). s.state) m.1
      ∙ sym (ap (λ es. after_events (setting_at server before) es before.state) m.2)
  met_state (Some met) now before between served m =
      m.serves.goes.state ∙ after_one (setting_at server before) m.comes m.event before.state
      ∙ sym (ap (λ es. after_events (setting_at server before) es before.state) m.events_are)

  tick_state : (now : ℤ) (answer : Ticked) (between after : Situation) (ticked : List Event)
      → IsTicked link server now answer between after ticked
      → after.state ≡ after_events (setting_at server between) ticked between.state
  tick_state now answer between after ticked t =
      t.ticks.goes.state ∙ after_one (setting_at server between) (is_event answer) t.ticks.event between.state
      ∙ sym (ap (λ es. after_events (setting_at server between) es between.state) t.events_are)

  turn_state : (turn : Turn C) (before after : Situation) (events : List Event)
      → IsTurn link server turn before after events
      → after.state ≡ after_events (setting_at server before) events before.state
  turn_state turn before after events t =
      let same = setting_stays server before t.between (met_visible turn.met turn.now before t.between t.served t.meets) in
      tick_state turn.now turn.answer t.between after t.ticked t.ticks
      ∙ ap (λ (z : Setting). after_events z t.ticked t.between.state) same
      ∙ ap (after_events (setting_at server before) t.ticked)
      (met_state turn.met turn.now before t.between t.served t.meets)
      ∙ sym (after_append (setting_at server before) t.served t.ticked before.state)
      ∙ sym (ap (λ es. after_events (setting_at server before) es before.state) t.events_are)

  -- where the keeper failed in its tick, that was the commit of the tick
  turn_fails : (turn : Turn C) (before after : Situation) (events : List Event) (t : IsTurn link server turn before after events)
      → turn.answer ≡ ticked.KeeperFailed → IsKept before.outside.kept before.state.book
      → CommitFails (setting_at server before) before.outside.keeper_faults after.outside after.has_failed
  turn_fails turn before after events t is kept =
      let m = t.meets in
      let same = setting_stays server before t.between (met_visible turn.met turn.now before t.between t.served t.meets) in
      let tick = t.ticks.ticks in
      let failed =
      subst (λ (a : Ticked). TickEnds t.between.state.book (next (setting_at server t.between) tick.event t.between.state).book t.between.outside after.outside after.has_failed a) is tick.ends
      in record {
        rose = then-Rose (met_counts turn.met turn.now before t.between t.served t.meets) failed.rose;
        last = failed.last;
        own = subst (λ (z : Setting). IfSome after.outside.kept (λ (k : Kept). IsMadeByOwn z k.book k.made)) same
            (own_by (setting_at server t.between) tick.event t.between.state
            (own_of server.size server.workers t.between.outside after.outside _ turn.now tick.event tick.of_tick)
            t.between.outside.kept after.outside.kept
            (met_kept turn.met turn.now before t.between t.served t.meets kept) failed.begun);
      }

  -- the same of turns before it
  fails_from : {moment : Option ℤ} {d0 d1 : DoorOf C} (first now after : Situation)
      → Turned link server (setting_at server first) moment first now d0 d1
      → CommitFails (setting_at server now) now.outside.keeper_faults after.outside after.has_failed
      → CommitFails (setting_at server first) first.outside.keeper_faults after.outside after.has_failed
  fails_from first now after turned fails = record {
    rose = then-Rose turned.keeper_count fails.rose;
    last = fails.last;
    own = subst (λ (z : Setting). IfSome after.outside.kept (λ (k : Kept). IsMadeByOwn z k.book k.made))
        (setting_stays server first now turned.goes_on) fails.own;
  }

  -- ---- one turn more

  module _ (moment : Option ℤ) (first : Situation) (d0 : DoorOf C) where
    -- no turn
    pub turned_none : IsKept first.outside.kept first.state.book
        → Turned link server (setting_at server first) moment first first d0 d0
    turned_none kept = record {
      made = [];
      events = [];
      are_turns = none;
      state_is = refl;
      kept = kept;
      goes_on = visible_none first.outside;
      passes = passes_none d0.visible;
      never_dials = refl;
      moments = moments_none C moment;
      keeper_count = NeverFalls-refl first.outside.keeper_faults;
      spool_count = NeverFalls-refl first.outside.spool_faults;
      door_count = NeverFalls-refl d0.faults;
    }

    module _ (now : Situation) (d1 : DoorOf C) (so_far : Turned link server (setting_at server first) moment first now d0 d1)
        (s_after : Service) (o_after : Outside) (failed_after : Bool) (d2 : DoorOf C) where
      abbrev later : Situation
      later = situation (state_of s_after) o_after failed_after

      -- the door gave no connection
      turned_same : AsksInVain link server moment now later d1 d2 → d2.dial_faults ≡ d1.dial_faults
          → NeverFalls d1.faults d2.faults → Turned link server (setting_at server first) moment first later d0 d2
      turned_same vain dials count = record {
        made = so_far.made;
        events = so_far.events;
        are_turns = subst (AreTurns link server first so_far.made so_far.events) (sym vain.same) so_far.are_turns;
        state_is = ap (λ (s : Situation). s.state) vain.same ∙ so_far.state_is;
        kept = subst (λ (s : Situation). IsKept s.outside.kept s.state.book) (sym vain.same) so_far.kept;
        goes_on = subst (λ (s : Situation). StaysVisible first.outside s.outside) (sym vain.same) so_far.goes_on;
        passes = subst (λ ts. Passes ts d0.visible d2.visible) (append-nil so_far.made)
            (passes_more so_far.made [] d0.visible d1.visible d2.visible so_far.passes vain.passes);
        never_dials = dials ∙ so_far.never_dials;
        moments = so_far.moments;
        keeper_count = subst (λ (s : Situation). NeverFalls first.outside.keeper_faults s.outside.keeper_faults) (sym vain.same)
            so_far.keeper_count;
        spool_count = subst (λ (s : Situation). NeverFalls first.outside.spool_faults s.outside.spool_faults) (sym vain.same)
            so_far.spool_count;
        door_count = NeverFalls-trans so_far.door_count count;
      }

      module _ (result : Result Bool ServeFail) (t : TakesTurn link server moment now later d1 d2 result)
          (is_kept : IsKept o_after.kept (plain_book s_after.book)) (goes_on : StaysVisible now.outside o_after)
          (dials : d2.dial_faults ≡ d1.dial_faults) (keeper : NeverFalls now.outside.keeper_faults o_after.keeper_faults)
          (spool : NeverFalls now.outside.spool_faults o_after.spool_faults) (doors : NeverFalls d1.faults d2.faults) where
        turned_more : Turned link server (setting_at server first) moment first later d0 d2
        turned_more = record {
          made = so_far.made ++ t.turn ∷ [];
          events = so_far.events ++ t.events;
          are_turns = one_more so_far.are_turns t.turn t.is_turn;
          state_is = turn_state t.turn now later t.events t.is_turn
              ∙ ap (λ (z : Setting). after_events z t.events now.state) (setting_stays server first now so_far.goes_on)
              ∙ ap (after_events (setting_at server first) t.events) so_far.state_is
              ∙ sym (after_append (setting_at server first) so_far.events t.events first.state);
          kept = is_kept;
          goes_on = visible_both first.outside now.outside o_after so_far.goes_on goes_on;
          passes = passes_more so_far.made (t.turn ∷ []) d0.visible d1.visible d2.visible so_far.passes t.passes;
          never_dials = dials ∙ so_far.never_dials;
          moments = moments_more moment so_far.made t.turn so_far.moments t.moment_is;
          keeper_count = NeverFalls-trans so_far.keeper_count keeper;
          spool_count = NeverFalls-trans so_far.spool_count spool;
          door_count = NeverFalls-trans so_far.door_count doors;
        }

  -- ---- how turns end

  -- the tick whose answer ends a turn so
  event_of : (answer : Ticked) → Ok true ≡ ended_by answer → is_event answer ≡ true
  event_of ticked.Idle is = refl
  event_of ticked.Moved is = refl
  event_of ticked.KeeperFailed is = absurd cc
  event_of ticked.OutOfMemory is = absurd cc

  keeper_of : (answer : Ticked) → Err KeeperFault ≡ ended_by answer → answer ≡ ticked.KeeperFailed
  keeper_of ticked.Idle is = absurd cc
  keeper_of ticked.Moved is = absurd cc
  keeper_of ticked.KeeperFailed is = refl
  keeper_of ticked.OutOfMemory is = absurd cc

  memory_of : (answer : Ticked) → Err OutOfMemory ≡ ended_by answer → answer ≡ ticked.OutOfMemory
  memory_of ticked.Idle is = absurd cc
  memory_of ticked.Moved is = absurd cc
  memory_of ticked.KeeperFailed is = absurd cc
  memory_of ticked.OutOfMemory is = refl

  -- what holds where a door's connections are visible
  shown_before : (turns : List (Turn C)) (v0 v1 : Option (VisibleDoor C)) → Passes turns v0 v1 → (P : Type 0)
      → IfSome v1 (λ (_ : VisibleDoor C). P) → IfSome v0 (λ (_ : VisibleDoor C). P)
  shown_before turns None v1 passes P holds = tt
  shown_before turns (Some u) None passes P holds = absurd passes
  shown_before turns (Some u) (Some v) passes P holds = holds

  shown_both : (v : Option (VisibleDoor C)) (P Q R : Type 0) → IfSome v (λ (_ : VisibleDoor C). P)
      → IfSome v (λ (_ : VisibleDoor C). Q) → (P → Q → R) → IfSome v (λ (_ : VisibleDoor C). R)
  shown_both None P Q R p q f = tt
  shown_both (Some v) P Q R p q f = f p q

  shown_refl : (v : Option (VisibleDoor C)) (n : ℕ) → IfSome v (λ (_ : VisibleDoor C). n ≡ n)
  shown_refl None n = tt
  shown_refl (Some v) n = refl

  sound_both : (turns : List (Turn C)) (d0 d1 d2 : DoorOf C) → Passes turns d0.visible d1.visible → StaysSound d0 d1
      → StaysSound d1 d2 → StaysSound d0 d2
  sound_both turns d0 d1 d2 passes one two =
      shown_both d0.visible (d1.faults ≡ d0.faults) (d2.faults ≡ d1.faults) (d2.faults ≡ d0.faults) one
      (shown_before turns d0.visible d1.visible passes (d2.faults ≡ d1.faults) two) (λ a b. b ∙ a)

  module _ (moment : Option ℤ) (first : Situation) (d0 : DoorOf C) where
    pub so_far_none : IsKept first.outside.kept first.state.book
        → SoFar link server (setting_at server first) moment first first d0 d0 0
    unfolding turned_none
    so_far_none kept = record {
      turned = turned_none moment first d0 kept;
      count = refl;
      asked = asked_none d0.visible;
      ticked = All-nil (λ (turn : Turn C). is_event turn.answer ≡ true);
      sound = shown_refl d0.visible d0.faults;
    }

    module _ (s s_after : Service) (o o_after : Outside) (failed failed_after : Bool) (d1 d2 : DoorOf C) (times : ℕ)
        (so_far : SoFar link server (setting_at server first) moment first (situation (state_of s) o failed) d0 d1 times) where
      abbrev now : Situation
      now = situation (state_of s) o failed

      abbrev after : Situation
      after = situation (state_of s_after) o_after failed_after

      module _ (result : Result Bool ServeFail)
          (t : TurnsOnce link server moment s s_after o o_after failed failed_after d1 d2 result) where
        with_turn : (taken : TakesTurn link server moment now after d1 d2 result)
            → Turned link server (setting_at server first) moment first after d0 d2
        with_turn taken =
            turned_more moment first d0 now d1 so_far.turned s_after o_after failed_after d2 result taken t.is_kept t.goes_on
            t.never_dials t.keeper_count t.spool_count t.door_count

        in_vain : AsksInVain link server moment now after d1 d2
            → Turned link server (setting_at server first) moment first after d0 d2
        in_vain vain =
            turned_same moment first d0 now d1 so_far.turned s_after o_after failed_after d2 vain t.never_dials t.door_count

        longer : (turn : Turn C) → length (so_far.turned.made ++ turn ∷ []) ≡ suc times
        longer turn = one_longer so_far.turned.made turn ∙ ap suc so_far.count

        asked_again : IsAsked 1 d1.visible d2.visible → IsAsked (suc times) d0.visible d2.visible
        asked_again once = asked_more times d0.visible d1.visible d2.visible so_far.asked once

        sound_again : StaysSound d1 d2 → StaysSound d0 d2
        sound_again sound = sound_both so_far.turned.made d0 d1 d2 so_far.turned.passes so_far.sound sound

        -- the tick of one turn more was refused
        ends_in_tick : (turns : ℕ) (answer : Ticked) (taken : TakesTurn link server moment now after d1 d2 result)
            → taken.turn.answer ≡ answer → suc times ≤ turns
            → EndsInTick turns answer (so_far.turned.made ++ taken.turn ∷ []) d0 d2
        ends_in_tick turns answer taken is most = record {
          ends = record {
            front = so_far.turned.made;
            last = taken.turn;
            turns_are = refl;
            answer_is = is;
            ticked = so_far.ticked;
          };
          most = subst (λ n. n ≤ turns) (sym (longer taken.turn)) most;
          asked = subst (λ n. IsAsked n d0.visible d2.visible) (sym (longer taken.turn)) (asked_again taken.asked);
          sound = sound_again taken.sound;
        }

      so_far_more : TurnsOnce link server moment s s_after o o_after failed failed_after d1 d2 (Ok true)
          → SoFar link server (setting_at server first) moment first after d0 d2 (suc times)
      unfolding with_turn turned_more
      so_far_more t =
          let taken = t.ends in record {
            turned = with_turn (Ok true) t taken;
            count = longer (Ok true) t taken.turn;
            asked = asked_again (Ok true) t taken.asked;
            ticked = ticked_more so_far.turned.made taken.turn so_far.ticked (event_of taken.turn.answer taken.result_is);
            sound = sound_again (Ok true) t taken.sound;
          }

      -- counted as the loop counts
      pub so_far_next : (n : ℕ) → n ≡ suc times
          → TurnsOnce link server moment s s_after o o_after failed failed_after d1 d2 (Ok true)
          → SoFar link server (setting_at server first) moment first after d0 d2 n
      so_far_next n is t =
          subst (λ (k : ℕ). SoFar link server (setting_at server first) moment first after d0 d2 k) (sym is) (so_far_more t)

      -- the door is closed
      pub ends_closed : (turns : ℕ) → suc times ≤ turns
          → TurnsOnce link server moment s s_after o o_after failed failed_after d1 d2 (Ok false)
          → MakesTurns link server (setting_at server first) turns moment first after d0 d2 (Ok tt)
      unfolding in_vain turned_same
      ends_closed turns fewer t =
          let closed = t.ends in
          let again = asked_again (Ok false) t closed.in_vain.asked in record {
            turned = in_vain (Ok false) t closed.in_vain;
            ends = record {
              ends = inr (record {
                fewer = subst (λ n. suc n ≤ turns) (sym so_far.count) fewer;
                asked = subst (λ n. IsAsked (suc n) d0.visible d2.visible) (sym so_far.count) again;
                at_end = closed.at_end;
                is_free = subst (λ (z : Situation). IfSome d0.visible (λ (_ : VisibleDoor C). has_busy_job z.state.book ≡ false))
                    (sym closed.in_vain.same)
                    (shown_before so_far.turned.made d0.visible d1.visible so_far.turned.passes
                    (has_busy_job now.state.book ≡ false) closed.is_free);
              });
              ticked = so_far.ticked;
              sound = sound_again (Ok false) t closed.sound;
            };
          }

      -- a tick was refused, or the door failed
      pub ends_failed : (turns : ℕ) → suc times ≤ turns → (fail : ServeFail)
          → TurnsOnce link server moment s s_after o o_after failed failed_after d1 d2 (Err fail)
          → MakesTurns link server (setting_at server first) turns moment first after d0 d2 (Err fail)
      unfolding with_turn turned_more in_vain turned_same
      ends_failed turns fewer KeeperFault t =
          let taken = t.ends in
          let is = keeper_of taken.turn.answer taken.result_is in
          let fails = turn_fails taken.turn now after taken.events taken.is_turn is so_far.turned.kept in record {
            turned = with_turn (Err KeeperFault) t taken;
            ends = (
              ends_in_tick (Err KeeperFault) t turns ticked.KeeperFailed taken is fewer,
              fails_from first now after so_far.turned fails,
            );
          }
      ends_failed turns fewer LinkFault t =
          let again = asked_again (Err LinkFault) t t.ends.0.asked in record {
            turned = in_vain (Err LinkFault) t t.ends.0;
            ends = record {
              rose = then-Rose so_far.turned.door_count t.ends.1;
              fewer = subst (λ n. suc n ≤ turns) (sym so_far.count) fewer;
              asked = subst (λ n. IsAsked (suc n) d0.visible d2.visible) (sym so_far.count) again;
              ticked = so_far.ticked;
            };
          }
      ends_failed turns fewer OutOfMemory t =
          let taken = t.ends in record {
            turned = with_turn (Err OutOfMemory) t taken;
            ends = ends_in_tick (Err OutOfMemory) t turns ticked.OutOfMemory taken (memory_of taken.turn.answer taken.result_is)
                fewer;
          }

    -- all turns were made
    pub ends_last : (last : Situation) (d1 : DoorOf C) (times turns : ℕ) → times ≡ turns
        → SoFar link server (setting_at server first) moment first last d0 d1 times
        → MakesTurns link server (setting_at server first) turns moment first last d0 d1 (Ok tt)
    ends_last last d1 times turns all so_far = record {
      turned = so_far.turned;
      ends = record {
        ends = inl (record {
          all = so_far.count ∙ all;
          asked = subst (λ n. IsAsked n d0.visible d1.visible) (sym so_far.count) so_far.asked;
        });
        ticked = so_far.ticked;
        sound = so_far.sound;
      };
    }
