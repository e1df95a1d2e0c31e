-- One turn of a server.
use Rattle.std.proofs.Common.{◌≡◌, ℕ, ℤ, Bool, true, false, List, [], ◌++◌, Option, Some, None, Result, Ok, Err, refl, sym, ◌∙◌, subst}
use Rattle.std.specs.Prelude.{IfSome}
use Rattle.oe_engine.proofs.LawLemmas.{stay_after_reads}
use Rattle.oe_steps.specs.Collections.{AreRead}
use Rattle.oe_jobs.specs.Events.{has_busy_job}
use Rattle.oe_jobs.specs.Plain.{plain_book}
use Rattle.oe_outside.proofs.Causes.{NeverFalls-refl, NeverFalls-trans}
use Rattle.oe_outside.specs.Doors.{HasNextCause, IsFailed, ShowsNext, VisibleDoor}
use Rattle.oe_outside.specs.Faults.{NeverFalls}
use Rattle.oe_outside.specs.declared.door.Next.{Next}
use Rattle.oe_outside.specs.declared.door.Next.TheVariants as door
use Rattle.oe_service.specs.Calls.{IsKept}
use Rattle.oe_service.specs.Causes.{Outside}
use Rattle.oe_service.specs.GoesOn.{GoesOn, IsService, StaysWithin, state_of}
use Rattle.oe_service.specs.States.{Event, State}
use Rattle.oe_service.specs.Steps.{TicksService}
use Rattle.oe_service.specs.Ticks.{Ticks, is_event}
use Rattle.oe_service.specs.declared.answer.Ticked.{Ticked}
use Rattle.oe_service.specs.declared.answer.Ticked.TheVariants as ticked
use Rattle.oe_service.specs.declared.service.Service.{Service}
use Rattle.oe_window.specs.declared.grid.ChunkSize.{ChunkSize}
use Rattle.oe_engine.specs.Runs.{RunOf}
use Rattle.oe_engine.specs.Results.{IsVisible}
use Rattle.oe_sources.specs.Catalogue.{Row}
use Rattle.oe_serve.specs.Links.{LinkOf}
use Rattle.oe_routes.specs.declared.site.Site.{Site}
use Rattle.oe_serve.specs.Serves.{ServerOf, server_of}
use Rattle.oe_serve.specs.Steps.{AsksInVain, EndsTurn, MeetsOne, TakesTurn, TicksOnce, TurnsOnce, ended_by}
use Rattle.oe_serve.specs.Turns.{DoorOf, IsMet, IsTicked, Situation, StaysSound, StaysVisible, event_if, situation}
use Rattle.oe_serve.specs.declared.turns.ServeFail.{ServeFail}
use Rattle.oe_serve.specs.declared.turns.ServeFail.TheVariants.{LinkFault}
use Rattle.oe_serve.proofs.DoorLemmas.{asked_no_one, asked_one, closed_end, closed_free, passes_alone, passes_no_one, passes_one}

-- ---- what holds again after a tick

read_of : (run : Option RunOf) (rows rows_after : List Row) (store store_after : Option (List ℕ))
    → StaysWithin run rows rows_after store store_after → AreRead rows rows_after
read_of None rows rows_after store store_after within =
    subst (λ (r : List Row). AreRead rows r) (sym within.0) (stay_after_reads.none rows)
read_of (Some r) rows rows_after store store_after within = within.0

shown_of : (run : Option RunOf) (rows rows_after : List Row) (store store_after : Option (List ℕ))
    → StaysWithin run rows rows_after store store_after → IsVisible store → IsVisible store_after
shown_of None rows rows_after store store_after within shown = subst IsVisible (sym within.1) shown
shown_of (Some r) rows rows_after None store_after within shown = absurd shown
shown_of (Some r) rows rows_after (Some bytes) None within shown = absurd within.2
shown_of (Some r) rows rows_after (Some bytes) (Some bytes_after) within shown = tt

pub visible_none : (o : Outside) → StaysVisible o o
visible_none o = record { read = stay_after_reads.none o.rows; visible = λ shown. shown }

pub visible_both : (a b c : Outside) → StaysVisible a b → StaysVisible b c → StaysVisible a c
visible_both a b c p q = record {
  read = stay_after_reads.both a.rows b.rows c.rows p.read q.read;
  visible = λ shown. q.visible (p.visible shown);
}

visible_tick : (before after : Outside) (run : Option RunOf)
    → StaysWithin run before.rows after.rows before.spool after.spool → StaysVisible before after
visible_tick before after run within = record {
  read = read_of run before.rows after.rows before.spool after.spool within;
  visible = shown_of run before.rows after.rows before.spool after.spool within;
}

-- the same tick, by sizes that are equal
ticks_by : (size other : ChunkSize) (workers others : ℕ) → size ≡ other → workers ≡ others → (before after : Outside) (now : ℤ)
    (s s_after : State) (failed : Bool) (answer : Ticked) → Ticks size workers before after now s s_after failed answer
    → Ticks other others before after now s s_after failed answer
ticks_by size other workers others size_is workers_are before after now s s_after failed answer t =
    subst (λ (n : ℕ). Ticks other n before after now s s_after failed answer) workers_are
    (subst (λ (z : ChunkSize). Ticks z workers before after now s s_after failed answer) size_is t)

module _ {C : Type 0} (link : C → LinkOf) (server : ServerOf) where
  -- a tick of a service that has the server's sizes, with its events
  ticked_as : (s s_after : Service) → s.size ≡ server.size → s.workers ≡ server.workers → (before after : Outside) (now : ℤ)
      (failed failed_after : Bool) (answer : Ticked) → TicksService before after now s s_after failed_after answer
      → (events : List Event) × IsTicked link server now answer (situation (state_of s) before failed)
      (situation (state_of s_after) after failed_after) events
  ticked_as s s_after size workers before after now failed failed_after answer t =
      let same =
      ticks_by s.size server.size s.workers server.workers size workers before after now (state_of s) (state_of s_after)
      failed_after answer t.ticks in (
        event_if (is_event answer) same.event,
        record {
          ticks = same;
          kept = t.is_kept;
          goes_on = visible_tick before after s.run t.within;
          events_are = refl;
        },
      )

  module _ (moment : Option ℤ) (before after : Situation) (d0 d1 : DoorOf C) where
    -- a turn ends by the answer of its tick
    takes_ends : (answer : Ticked) → TakesTurn link server moment before after d0 d1 (ended_by answer)
        → EndsTurn link server moment before after d0 d1 (ended_by answer)
    takes_ends ticked.Idle t = t
    takes_ends ticked.Moved t = t
    takes_ends ticked.KeeperFailed t = t
    takes_ends ticked.OutOfMemory t = t

    pub ends_turn : (answer : Ticked) (result : Result Bool ServeFail) → result ≡ ended_by answer
        → TakesTurn link server moment before after d0 d1 (ended_by answer)
        → EndsTurn link server moment before after d0 d1 result
    ends_turn answer result is t =
        subst (EndsTurn link server moment before after d0 d1) (sym is) (takes_ends answer t)

  -- ---- the door of a turn

  unfailed : (n : Next C) → ¬ (n ≡ door.Failed) → ¬ IsFailed n
  unfailed (door.Conn conn) sound f = f
  unfailed door.Nobody sound f = f
  unfailed door.Closed sound f = f
  unfailed door.Failed sound f = sound refl

  -- where its connections are visible it has no more faults
  sound_after : (d0 d1 d2 : DoorOf C) (r : Next C) → HasNextCause d0.visible d0.faults d1.faults r
      → ¬ (r ≡ door.Failed) → d2.faults ≡ d1.faults → StaysSound d0 d2
  sound_after d0 d1 d2 r cause sound same = by d0.visible cause
    where
      by : (v : Option (VisibleDoor C)) → HasNextCause v d0.faults d1.faults r
          → IfSome v (λ (_ : VisibleDoor C). d2.faults ≡ d0.faults)
      by None h = tt
      by (Some v) h = same ∙ h.only_failed (unfailed r sound)

  count_after : (d0 d1 d2 : DoorOf C) (r : Next C) → HasNextCause d0.visible d0.faults d1.faults r
      → d2.faults ≡ d1.faults → NeverFalls d0.faults d2.faults
  count_after d0 d1 d2 r cause same = subst (NeverFalls d0.faults) (sym same) cause.count

  module _ (moment : Option ℤ) (s : Service) (size : server.size ≡ s.size) (workers : server.workers ≡ s.workers)
      (before : Outside) (failed : Bool) (d0 d1 : DoorOf C) (busy : Bool) (r : Next C) (cause : HasNextCause d0.visible d0.faults d1.faults r)
      (shows : ShowsNext d0.visible busy r d1.visible) (dials : d1.dial_faults ≡ d0.dial_faults) where
    -- ---- a connection came

    module _ (conn : C) (is : r ≡ door.Conn conn) (now : ℤ) (moment_is : IfSome moment (λ m. now ≡ m)) (s1 s2 : Service)
        (o1 o2 : Outside) (f1 f2 : Bool) (d2 : DoorOf C) (result : Result Bool ServeFail)
        (m : MeetsOne link server now conn s s1 before o1 d1 d2 f1) (e : TicksOnce o1 o2 now s1 s2 f2 result) where
      shows_conn : ShowsNext d0.visible busy (door.Conn conn) d1.visible
      shows_conn = subst (λ (n : Next C). ShowsNext d0.visible busy n d1.visible) is shows

      size1 : s1.size ≡ server.size
      size1 = m.serves.keeps.sizes.size ∙ sym size

      workers1 : s1.workers ≡ server.workers
      workers1 = m.serves.keeps.sizes.workers ∙ sym workers

      abbrev served : List Event
      served = event_if m.serves.comes m.serves.event

      met_visible : StaysVisible before o1
      met_visible = record { read = m.serves.keeps.read; visible = m.serves.keeps.visible }

      is_met : IsMet link server now conn m.given (situation (state_of s) before failed) (situation (state_of s1) o1 f1) served
      is_met = record {
        event = m.serves.event;
        comes = m.serves.comes;
        result = m.result;
        serves = m.serves.serves;
        goes_on = met_visible;
        events_are = refl;
      }

      tick : (events : List Event) × IsTicked link server now e.answer (situation (state_of s1) o1 f1)
          (situation (state_of s2) o2 f2) events
      tick = ticked_as s1 s2 size1 workers1 o1 o2 now f1 f2 e.answer e.ticks

      takes : TakesTurn link server moment (situation (state_of s) before failed) (situation (state_of s2) o2 f2) d0 d2
          (ended_by e.answer)
      takes = record {
        turn = record { met = Some (conn, m.given); now = now; answer = e.answer };
        events = served ++ tick.0;
        is_turn = record {
          between = situation (state_of s1) o1 f1;
          served = served;
          ticked = tick.0;
          meets = is_met;
          ticks = tick.1;
          events_are = refl;
        };
        passes = passes_one busy conn m.given d0.visible d1.visible d2.visible now e.answer shows_conn m.given_back;
        asked = asked_one busy conn m.given d0.visible d1.visible d2.visible shows_conn m.given_back;
        moment_is = moment_is;
        result_is = refl;
        sound = sound_after d0 d1 d2 r cause (λ f. let both : door.Conn conn ≡ door.Failed = sym is ∙ f in cc) m.faults;
      }

      pub turn_met : TurnsOnce link server moment s s2 before o2 failed f2 d0 d2 result
      turn_met = record {
        service = e.ticks.service;
        sizes = record {
          size = e.ticks.sizes.size ∙ m.serves.keeps.sizes.size;
          workers = e.ticks.sizes.workers ∙ m.serves.keeps.sizes.workers;
        };
        is_kept = e.ticks.is_kept;
        going = e.ticks.going;
        goes_on = visible_both before o1 o2 met_visible (visible_tick o1 o2 s1.run e.ticks.within);
        never_dials = m.dial_faults ∙ dials;
        keeper_count = NeverFalls-trans m.serves.keeps.keeper_count e.ticks.ticks.keeper_count;
        spool_count = NeverFalls-trans m.serves.keeps.spool_count e.ticks.ticks.spool_count;
        door_count = count_after d0 d1 d2 r cause m.faults;
        ends = ends_turn moment (situation (state_of s) before failed) (situation (state_of s2) o2 f2) d0 d2 e.answer result
            e.result_is takes;
      }

    -- ---- nobody came

    module _ (is : r ≡ door.Nobody) (is_busy : has_busy_job (plain_book s.book) ≡ true) (now : ℤ) (moment_is : IfSome moment (λ m. now ≡ m)) (s2 : Service) (o2 : Outside)
        (f2 : Bool) (result : Result Bool ServeFail) (e : TicksOnce before o2 now s s2 f2 result) where
      no_conn : (conn : C) → ¬ (r ≡ door.Conn conn)
      no_conn conn came = let both : door.Conn conn ≡ door.Nobody = sym came ∙ is in cc

      tick_alone : (events : List Event) × IsTicked link server now e.answer (situation (state_of s) before failed)
          (situation (state_of s2) o2 f2) events
      tick_alone = ticked_as s s2 (sym size) (sym workers) before o2 now failed f2 e.answer e.ticks

      takes_alone : TakesTurn link server moment (situation (state_of s) before failed) (situation (state_of s2) o2 f2) d0 d1
          (ended_by e.answer)
      takes_alone = record {
        turn = record { met = None; now = now; answer = e.answer };
        events = [] ++ tick_alone.0;
        is_turn = record {
          between = situation (state_of s) before failed;
          served = [];
          ticked = tick_alone.0;
          meets = (is_busy, refl, refl);
          ticks = tick_alone.1;
          events_are = refl;
        };
        passes = passes_alone d0.visible d1.visible now e.answer (passes_no_one d0.visible d1.visible busy r shows no_conn);
        asked = asked_no_one d0.visible d1.visible busy r shows no_conn;
        moment_is = moment_is;
        result_is = refl;
        sound = sound_after d0 d1 d1 r cause (λ f. let both : door.Nobody ≡ door.Failed = sym is ∙ f in cc) refl;
      }

      pub turn_alone : TurnsOnce link server moment s s2 before o2 failed f2 d0 d1 result
      turn_alone = record {
        service = e.ticks.service;
        sizes = e.ticks.sizes;
        is_kept = e.ticks.is_kept;
        going = e.ticks.going;
        goes_on = visible_tick before o2 s.run e.ticks.within;
        never_dials = dials;
        keeper_count = e.ticks.ticks.keeper_count;
        spool_count = e.ticks.ticks.spool_count;
        door_count = count_after d0 d1 d1 r cause refl;
        ends = ends_turn moment (situation (state_of s) before failed) (situation (state_of s2) o2 f2) d0 d1 e.answer result
            e.result_is takes_alone;
      }

    -- ---- the door is closed, or failed

    module _ (service : IsService s) (is_kept : IsKept before.kept (plain_book s.book))
        (going : GoesOn s.run before.rows before.spool) where
      vain : ((conn : C) → ¬ (r ≡ door.Conn conn))
          → AsksInVain link server moment (situation (state_of s) before failed) (situation (state_of s) before failed) d0 d1
      vain no_conn = record {
        same = refl;
        passes = passes_no_one d0.visible d1.visible busy r shows no_conn;
        asked = asked_no_one d0.visible d1.visible busy r shows no_conn;
      }

      stays : (result : Result Bool ServeFail)
          → EndsTurn link server moment (situation (state_of s) before failed) (situation (state_of s) before failed) d0 d1 result
          → TurnsOnce link server moment s s before before failed failed d0 d1 result
      stays result ends = record {
        service = service;
        sizes = record { size = refl; workers = refl };
        is_kept = is_kept;
        going = going;
        goes_on = visible_none before;
        never_dials = dials;
        keeper_count = NeverFalls-refl before.keeper_faults;
        spool_count = NeverFalls-refl before.spool_faults;
        door_count = count_after d0 d1 d1 r cause refl;
        ends = ends;
      }

      pub turn_closed : r ≡ door.Closed → busy ≡ has_busy_job (plain_book s.book)
          → TurnsOnce link server moment s s before before failed failed d0 d1 (Ok false)
      turn_closed is busy_is =
          let closes = subst (λ (n : Next C). ShowsNext d0.visible busy n d1.visible) is shows in
          stays (Ok false) (record {
            in_vain = vain (λ conn came. let both : door.Conn conn ≡ door.Closed = sym came ∙ is in cc);
            at_end = closed_end d0.visible d1.visible busy closes;
            is_free = closed_free d0.visible d1.visible busy (has_busy_job (plain_book s.book)) busy_is closes;
            sound = sound_after d0 d1 d1 r cause (λ f. let both : door.Closed ≡ door.Failed = sym is ∙ f in cc) refl;
          })

      pub turn_failed : r ≡ door.Failed
          → TurnsOnce link server moment s s before before failed failed d0 d1 (Err LinkFault)
      turn_failed is =
          stays (Err LinkFault) (
            vain (λ conn came. let both : door.Conn conn ≡ door.Failed = sym came ∙ is in cc),
            cause.failed (subst (λ (n : Next C). IsFailed n) (sym is) tt),
          )

-- the same turn, by sizes, a moment and an answer that are equal
pub once_as : {C : Type 0} {s s_after : Service} {o o_after : Outside} {failed failed_after : Bool} {d d_after : DoorOf C}
    (link : C → LinkOf) (site : Site) (size other : ChunkSize) (workers others : ℕ) (m n : Option ℤ)
    (r q : Result Bool ServeFail) → size ≡ other → workers ≡ others → m ≡ n → r ≡ q
    → TurnsOnce link (server_of site size workers) m s s_after o o_after failed failed_after d d_after r
    → TurnsOnce link (server_of site other others) n s s_after o o_after failed failed_after d d_after q
once_as {C} {s} {s_after} {o} {o_after} {failed} {failed_after} {d} {d_after} link site size other workers others m n r q size_is workers_are m_is r_is t =
    subst (λ (x : Result Bool ServeFail). TurnsOnce link (server_of site other others) n s s_after o o_after failed failed_after d d_after x)
    r_is
    (subst (λ (x : Option ℤ). TurnsOnce link (server_of site other others) x s s_after o o_after failed failed_after d d_after r)
    m_is
    (subst (λ (x : ℕ). TurnsOnce link (server_of site other x) m s s_after o o_after failed failed_after d d_after r) workers_are
    (subst (λ (x : ChunkSize). TurnsOnce link (server_of site x workers) m s s_after o o_after failed failed_after d d_after r)
    size_is t)))
