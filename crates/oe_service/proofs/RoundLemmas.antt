-- The ticks of the job that runs.
use Rattle.std.proofs.Common.{◌≡◌, ◌<◌, ℕ, ℤ, ◌+◌, ◌*◌, Bool, true, Option, Some, None, Ok, refl, ap, sym, ◌∙◌, subst, arith}
use Rattle.std.specs.Prelude.{min, ◌-◌}
use Rattle.oe_engine.specs.Rounds.{Advances}
use Rattle.oe_engine.specs.Runs.{RunOf, chunk_total}
use Rattle.oe_engine.specs.declared.run.Progress.{Progress}
use Rattle.oe_jobs.specs.Events.{has_busy_job, running_job}
use Rattle.oe_jobs.specs.Plain.{PlainBook, PlainJob, plain_book}
use Rattle.oe_jobs.specs.Valid.{IsBook}
use Rattle.oe_outside.specs.Faults.{NeverFalls}
use Rattle.oe_sources.specs.CatalogueDims.{dims_of}
use Rattle.oe_service.specs.Calls.{IsKept}
use Rattle.oe_service.specs.Ticks.{Commits}
use Rattle.oe_service.specs.Causes.{ChangesBook, IsOfTick, Outside}
use Rattle.oe_service.specs.GoesOn.{FitsJob, GoesOn, HasSizesOf, IsRunOf, IsService, StaysWithin, ids_for, state_of}
use Rattle.oe_service.specs.Runs.{ran_of}
use Rattle.oe_service.specs.States.{Due, Event, Setting, State, at_book, count_assets, done_after, due, next, setting_of}
use Rattle.oe_service.specs.Steps.{Steps, TicksService}
use Rattle.oe_service.specs.declared.answer.Ticked.{Ticked}
use Rattle.oe_service.specs.declared.answer.Ticked.TheVariants as ticked
use Rattle.oe_service.specs.declared.service.Service.{Service}
use Rattle.oe_service.proofs.KeptLemmas.{fits_by, ranges_by}
use Rattle.oe_service.proofs.TickLemmas.{ticks_by, ticks_moved}

-- ---- the run of the job that runs

-- a run that fits is one of it
pub run_of : (s : Service) → IsService s → (job : PlainJob) → running_job (plain_book s.book) ≡ Some job → (r : RunOf) → s.run ≡ Some r
    → IsRunOf s.size s.workers job r
run_of s is job e r run =
    fits_by s.size s.size s.workers s.workers (running_job (plain_book s.book)) (Some job) s.run (Some r) refl refl (sym e) (sym run)
    is.run

-- a run is under way only where a job runs
pub job_of_run : (s : Service) → IsService s → (r : RunOf) → s.run ≡ Some r
    → (job : PlainJob) × (running_job (plain_book s.book) ≡ Some job)
job_of_run s is r run =
    by (running_job (plain_book s.book))
    (fits_by s.size s.size s.workers s.workers (running_job (plain_book s.book)) (running_job (plain_book s.book)) s.run (Some r) refl
    refl refl (sym run) is.run)
  where
    by : (o : Option PlainJob) → FitsJob s.size s.workers o (Some r) → (job : PlainJob) × (o ≡ Some job)
    by None fits = absurd fits
    by (Some job) fits = (job, refl)

-- with another run of the same asset
pub with_run : (s t : Service) → IsService s → plain_book t.book ≡ plain_book s.book → t.size ≡ s.size → t.workers ≡ s.workers
    → t.ids.items ≡ s.ids.items → (job : PlainJob) → running_job (plain_book s.book) ≡ Some job → (r : RunOf) → t.run ≡ Some r
    → IsRunOf s.size s.workers job r → IsService t
with_run s t is same size workers ids job e r run run_is = record {
  book = subst IsBook (sym same) is.book;
  ranges = ranges_by s.size t.size s.workers t.workers size workers is.ranges;
  ids = ids ∙ (is.ids ∙ ap (λ b. ids_for (running_job b)) (sym same));
  run = fits_by s.size t.size s.workers t.workers (Some job) (running_job (plain_book t.book)) (Some r) t.run size workers
      (ap running_job same ∙ e) run run_is;
}

-- ---- ticks by a step of the job

module _ (before after : Outside) (now : ℤ) (s t : Service) (has_failed : Bool) (result : Ticked) (event : Event) where
  abbrev over : Setting
  over = setting_of (dims_of before.rows) s.size s.workers

  -- The step may have begun at a service whose run had been advanced in vain.
  pub service_by_steps : (from : Service) → state_of from ≡ state_of s → from.size ≡ s.size → from.workers ≡ s.workers
      → (made : PlainBook)
      → Steps made from t before.kept after.kept before.keeper_faults after.keeper_faults has_failed result
      → GoesOn t.run after.rows after.spool → StaysWithin s.run before.rows after.rows before.spool after.spool
      → (d : Due) → due over (state_of s) ≡ d → IsOfTick s.size s.workers before after d now event
      → next over event (state_of s) ≡ at_book made → has_busy_job (plain_book s.book) ≡ true
      → ChangesBook d event → NeverFalls before.spool_faults after.spool_faults
      → TicksService before after now s t has_failed result
  service_by_steps from same size workers made steps going within d due_is of_tick next_is busy changes spool = record {
    service = steps.service;
    sizes = record { size = steps.sizes.size ∙ size; workers = steps.sizes.workers ∙ workers };
    is_kept = steps.is_kept;
    going = going;
    within = within;
    ticks = ticks_by s.size s.workers before after now (state_of s) (state_of t) has_failed result event
        (subst (λ x. IsOfTick s.size s.workers before after x now event) (sym due_is) of_tick)
        (next_is ∙ ap at_book (sym book_is)) commits busy (subst (λ x. ChangesBook x event) (sym due_is) changes) spool;
  }
    where
      book_is : (next over event (state_of s)).book ≡ made
      book_is = ap (λ (x : State). x.book) next_is

      commits : Commits (next over event (state_of s)).book (state_of s) (state_of t) before.kept after.kept before.keeper_faults
          after.keeper_faults has_failed result
      commits =
          subst (λ m. Commits m (state_of s) (state_of t) before.kept after.kept before.keeper_faults after.keeper_faults has_failed
          result) (sym book_is)
          (subst (λ x. Commits made x (state_of t) before.kept after.kept before.keeper_faults after.keeper_faults has_failed result)
          same steps.commits)

  -- nothing is committed, and it is done
  pub service_moved : before.kept ≡ after.kept → after.keeper_faults ≡ before.keeper_faults → IsService t → HasSizesOf s t
      → IsKept before.kept (plain_book t.book) → GoesOn t.run after.rows after.spool
      → StaysWithin s.run before.rows after.rows before.spool after.spool
      → (d : Due) → due over (state_of s) ≡ d → IsOfTick s.size s.workers before after d now event
      → state_of t ≡ next over event (state_of s) → has_busy_job (plain_book s.book) ≡ true
      → NeverFalls before.spool_faults after.spool_faults → TicksService before after now s t has_failed ticked.Moved
  service_moved kept faults is sizes is_kept going within d due_is of_tick is_next busy spool = record {
    service = is;
    sizes = sizes;
    is_kept = subst (λ o. IsKept o (plain_book t.book)) kept is_kept;
    going = going;
    within = within;
    ticks = ticks_moved s.size s.workers before after now (state_of s) (state_of t) has_failed event (sym kept) faults spool
        (subst (λ x. IsOfTick s.size s.workers before after x now event) (sym due_is) of_tick) is_next busy;
  }

-- how far a round comes
pub round_done : (setting : Setting) (job : PlainJob) (r after : RunOf) (progress : Progress) → r.plan.workers ≡ setting.workers
    → chunk_total r.plan ≡ setting.chunks (ran_of job) (count_assets job) → r.done < chunk_total r.plan
    → Advances r after (Ok progress) → after.done ≡ done_after setting job (count_assets job) r.done
round_done setting job r after progress workers total left advances =
    advances.done ∙ cut r.done (2 * r.plan.workers) (chunk_total r.plan) left
    ∙ ap (λ n. min (r.done + 2 * n) (chunk_total r.plan)) workers
    ∙ ap (min (r.done + 2 * setting.workers)) total
  where
    cut : (done step all : ℕ) → done < all → done + min step (all - done) ≡ min (done + step) all
    cut done step all left = omega arith
