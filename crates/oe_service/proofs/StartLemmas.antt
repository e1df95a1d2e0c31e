-- The ticks in which no job runs.
use Rattle.std.proofs.Common.{◌≡◌, ℕ, ℤ, Bool, true, false, List, [], Option, Some, None, refl, ap, sym, ◌∙◌, subst}
use Rattle.std.specs.Option.{option_map_or}
use Rattle.oe_engine.specs.Runs.{RunOf}
use Rattle.oe_jobs.specs.Events.{has_busy_job, moved_book, next_queued, running_job}
use Rattle.oe_jobs.specs.Kept.{Kept}
use Rattle.oe_jobs.specs.Machine as machine
use Rattle.oe_jobs.specs.Plain.{PlainBook, PlainJob, plain_book}
use Rattle.oe_jobs.specs.Valid.{IsBook}
use Rattle.oe_outside.proofs.Causes.{NeverFalls-refl}
use Rattle.oe_sources.specs.Catalogue.{Row}
use Rattle.oe_sources.specs.CatalogueDims.{dims_of}
use Rattle.oe_service.specs.Calls.{IsKept}
use Rattle.oe_service.specs.Causes.{ChangesBook, IsOfTick, outside}
use Rattle.oe_service.specs.GoesOn.{FitsJob, IsService, StaysWithin, ids_for, state_of}
use Rattle.oe_service.specs.Runs.{ids_of_ran, ran_of}
use Rattle.oe_service.specs.States.{Due, Event, Setting, at_book, due, next, rest, setting_of, start, tick}
use Rattle.oe_service.specs.Steps.{Steps, TicksService}
use Rattle.oe_service.specs.declared.answer.Ticked.{Ticked}
use Rattle.oe_service.specs.declared.answer.Ticked.TheVariants as ticked
use Rattle.oe_service.specs.declared.service.Service.{Service}
use Rattle.oe_service.proofs.BookLemmas.{start_runs, started}
use Rattle.oe_service.proofs.RoundLemmas.{service_by_steps}
use Rattle.oe_service.proofs.KeptLemmas.{fits_by, going_none, ranges_by, within_none}
use Rattle.oe_service.proofs.NextLemmas.{due_free, tick_is}
use Rattle.oe_service.proofs.TickLemmas.{queued_busy, ticks_idle}

-- no run is under way where no job runs
pub no_run : (s : Service) → IsService s → running_job (plain_book s.book) ≡ None → s.run ≡ None
no_run s is free =
    by s.run
    (fits_by s.size s.size s.workers s.workers (running_job (plain_book s.book)) None s.run s.run refl refl (sym free) refl is.run)
  where
    by : (o : Option RunOf) → FitsJob s.size s.workers None o → o ≡ None
    by None fits = refl
    by (Some r) fits = absurd fits

module _ (s t : Service) (is : IsService s) (free : running_job (plain_book s.book) ≡ None) (now : ℤ) (rows : List Row)
    (store : Option (List ℕ)) (faults : ℕ) (kept kept_after : Option Kept) (count count_after : ℕ) (has_failed : Bool) where
  abbrev over : Setting
  over = setting_of (dims_of rows) s.size s.workers

  abbrev event : Event
  event = tick now []

  stays : StaysWithin s.run rows rows store store
  stays = within_none s.run (no_run s is free) rows store

  service_by : (result : Ticked) (made : PlainBook) → Steps made s t kept kept_after count count_after has_failed result
      → (t.run ≡ None)
      → (d : Due) → due over (state_of s) ≡ d
      → IsOfTick s.size s.workers (outside rows store faults kept count) (outside rows store faults kept_after count_after) d now
      event
      → next over event (state_of s) ≡ at_book made → has_busy_job (plain_book s.book) ≡ true → ChangesBook d event
      → TicksService (outside rows store faults kept count) (outside rows store faults kept_after count_after) now s t has_failed
      result
  service_by result made steps run d due_is of_tick next_is busy changes =
      service_by_steps (outside rows store faults kept count) (outside rows store faults kept_after count_after) now s t has_failed
      result event s refl refl refl made steps (going_none t.run run rows store) stays d due_is of_tick next_is busy changes (NeverFalls-refl faults)

  module _ (job : PlainJob) (e : next_queued (plain_book s.book) ≡ Some job) where
    abbrev made : PlainBook
    made = moved_book (plain_book s.book) job.id (machine.start now)

    due_is : due over (state_of s) ≡ start job
    due_is = due_free over (state_of s) free ∙ ap (λ o. option_map_or start o rest) e

    -- a tick by the step of the job that starts
    pub starts : (result : Ticked) → Steps made s t kept kept_after count count_after has_failed result → t.run ≡ None
        → TicksService (outside rows store faults kept count) (outside rows store faults kept_after count_after) now s t has_failed
        result
    starts result steps run =
        service_by result made steps run (start job) due_is (refl, tt)
        (tick_is over now [] (state_of s) (start job) due_is) (queued_busy (plain_book s.book) job e) tt

    -- the job runs now, and its ids are kept
    pub started_service : IsBook made → plain_book t.book ≡ made → t.size ≡ s.size → t.workers ≡ s.workers
        → t.ids.items ≡ ids_of_ran (ran_of job) → t.run ≡ None → IsService t
    started_service valid same size workers ids run =
        let runs : running_job (plain_book t.book) ≡ Some (started now job) =
        ap running_job same ∙ start_runs (plain_book s.book) job now is.book free e in
        record {
          book = subst IsBook (sym same) valid;
          ranges = ranges_by s.size t.size s.workers t.workers size workers is.ranges;
          ids = ids ∙ sym (ap ids_for runs);
          run = fits_by t.size t.size t.workers t.workers (Some (started now job)) (running_job (plain_book t.book)) None t.run refl refl
              runs run tt;
        }

-- nothing is due
pub idles : (s : Service) → IsService s → running_job (plain_book s.book) ≡ None → next_queued (plain_book s.book) ≡ None
    → has_busy_job (plain_book s.book) ≡ false → (now : ℤ) (rows : List Row) (store : Option (List ℕ)) (faults : ℕ)
    (kept : Option Kept) (count : ℕ) (has_failed : Bool) → IsKept kept (plain_book s.book)
    → TicksService (outside rows store faults kept count) (outside rows store faults kept count) now s s has_failed ticked.Idle
idles s is free none idle now rows store faults kept count has_failed is_kept = record {
  service = is;
  sizes = record { size = refl; workers = refl };
  is_kept = is_kept;
  going = going_none s.run (no_run s is free) rows store;
  within = within_none s.run (no_run s is free) rows store;
  ticks = ticks_idle s.size s.workers (outside rows store faults kept count) (outside rows store faults kept count) now (state_of s)
      (state_of s) has_failed (tick now []) refl refl (NeverFalls-refl faults)
      (subst (λ d. IsOfTick s.size s.workers (outside rows store faults kept count) (outside rows store faults kept count) d now
      (tick now [])) (sym due_is) (refl, tt))
      (sym (tick_is (setting_of (dims_of rows) s.size s.workers) now [] (state_of s) rest due_is)) idle;
}
  where
    due_is : due (setting_of (dims_of rows) s.size s.workers) (state_of s) ≡ rest
    due_is = due_free (setting_of (dims_of rows) s.size s.workers) (state_of s) free ∙ ap (λ o. option_map_or start o rest) none
