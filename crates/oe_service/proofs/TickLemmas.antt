-- Ticks, by what they commit.
use Rattle.std.proofs.Common.{◌≡◌, ℕ, ℤ, Bool, true, false, List, [], ◌∷◌, Some, refl, ap, sym, ◌∙◌, subst, inl, inr}
use Rattle.std.specs.Prelude.{find, if◌then◌else◌, ◌&&◌}
use Rattle.std.specs.List.{list_any}
use Rattle.std.proofs.lemmas.Bool.{cases_Bool}
use Rattle.std.proofs.lemmas.Option.{same_Some}
use Rattle.oe_jobs.specs.Events.{has_busy_job, is_first, next_queued, running_job}
use Rattle.oe_jobs.specs.Machine.{is_busy, is_queued, is_running}
use Rattle.oe_jobs.specs.Plain.{PlainBook, PlainJob}
use Rattle.oe_outside.proofs.Causes.{NeverFalls-refl}
use Rattle.oe_outside.specs.Faults.{NeverFalls}
use Rattle.oe_sources.specs.CatalogueDims.{dims_of}
use Rattle.oe_window.specs.declared.grid.ChunkSize.{ChunkSize}
use Rattle.oe_service.specs.Calls.{CommitsOne, Failed}
use Rattle.oe_service.specs.Ticks.{Commits, TickEnds, Ticks, is_event}
use Rattle.oe_service.specs.Causes.{ChangesBook, IsOfTick, Outside}
use Rattle.oe_service.specs.States.{Event, Setting, State, at_book, due, next, setting_of}
use Rattle.oe_service.specs.declared.answer.Ticked.{Ticked}
use Rattle.oe_service.specs.declared.answer.Ticked.TheVariants as ticked
use Rattle.oe_service.proofs.CommitLemmas.{begins_none}
use Rattle.oe_service.proofs.BookLemmas.{queued_found, running_found}

-- ---- a job that is queued or runs

any_found : (p : PlainJob → Bool) (test : PlainJob → Bool) (jobs : List PlainJob) (job : PlainJob) → find test jobs ≡ Some job
    → p job ≡ true → list_any p jobs ≡ true
any_found p test [] job e passes = absurd cc
any_found p test (a ∷ jobs) job e passes =
    elim (cases_Bool (test a)) [
      | inl t ↦ let same : a ≡ job = same_Some _ _ (rw t at e) in rw (ap p same ∙ passes) refl
      | inr f ↦
          elim (cases_Bool (p a)) [
            | inl passing ↦ rw passing refl
            | inr no_ ↦ rw no_ (any_found p test jobs job (rw f at e) passes)
          ]
    ]

pub running_busy : (book : PlainBook) (job : PlainJob) → running_job book ≡ Some job → has_busy_job book ≡ true
running_busy book job e =
    any_found (λ (j : PlainJob). is_busy j.status) (λ (j : PlainJob). is_running j.status) book.jobs job e
    (ap is_busy (running_found book job e))

-- ---- a tick that commits a book

module _ (size : ChunkSize) (workers : ℕ) (seen seen_after : Outside) (now : ℤ) (s s_after : State) (has_failed : Bool)
    (result : Ticked) (event : Event) where
  abbrev made : PlainBook
  made = (next (setting_of (dims_of seen.rows) size workers) event s).book

  ends_by : Commits made s s_after seen.kept seen_after.kept seen.keeper_faults seen_after.keeper_faults has_failed result
      → has_busy_job s.book ≡ true → TickEnds s.book made seen seen_after has_failed result
  ends_by c busy = by result c.worked c.failed
    where
      by : (r : Ticked) → (r ≡ ticked.Idle → ⊥)
          → (r ≡ ticked.KeeperFailed → Failed made seen.kept seen_after.kept seen.keeper_faults seen_after.keeper_faults has_failed)
          → TickEnds s.book made seen seen_after has_failed r
      by ticked.Idle worked failed = absurd (worked refl)
      by ticked.Moved worked failed = busy
      by ticked.KeeperFailed worked failed = failed refl
      by ticked.OutOfMemory worked failed = tt

  pub ticks_by : IsOfTick size workers seen seen_after (due (setting_of (dims_of seen.rows) size workers) s) now event
      → next (setting_of (dims_of seen.rows) size workers) event s ≡ at_book made
      → Commits made s s_after seen.kept seen_after.kept seen.keeper_faults seen_after.keeper_faults has_failed result
      → has_busy_job s.book ≡ true → ChangesBook (due (setting_of (dims_of seen.rows) size workers) s) event
      → NeverFalls seen.spool_faults seen_after.spool_faults
      → Ticks size workers seen seen_after now s s_after has_failed result
  ticks_by of_tick next_is c busy changes spool = record {
    event = event;
    of_tick = of_tick;
    goes = record {
      state = c.state ∙ ap (λ (x : State). if is_event result then x else s) (sym next_is);
      commits = c.commits;
    };
    ends = ends_by c busy;
    changes = λ _. changes;
    idle = λ none. absurd (none changes);
    unbegun = c.unbegun;
    spool_count = spool;
    keeper_count = c.count;
  }

-- a tick that commits nothing
module _ (size : ChunkSize) (workers : ℕ) (seen seen_after : Outside) (now : ℤ) (s s_after : State) (has_failed : Bool)
    (event : Event) (same : seen_after.kept ≡ seen.kept) (faults : seen_after.keeper_faults ≡ seen.keeper_faults)
    (spool : NeverFalls seen.spool_faults seen_after.spool_faults)
    (of_tick : IsOfTick size workers seen seen_after (due (setting_of (dims_of seen.rows) size workers) s) now event) where
  abbrev over : Setting
  over = setting_of (dims_of seen.rows) size workers

  none_begun : CommitsOne seen.kept (next over event s).book seen_after.kept
  none_begun = subst (CommitsOne seen.kept (next over event s).book) (sym same) (begins_none seen.kept (next over event s).book)

  not_counted : NeverFalls seen.keeper_faults seen_after.keeper_faults
  not_counted = subst (NeverFalls seen.keeper_faults) (sym faults) (NeverFalls-refl seen.keeper_faults)

  -- nothing was due
  pub ticks_idle : s_after ≡ next over event s → has_busy_job s.book ≡ false
      → Ticks size workers seen seen_after now s s_after has_failed ticked.Idle
  ticks_idle is free = record {
    event = event;
    of_tick = of_tick;
    goes = record { state = is; commits = none_begun };
    ends = free;
    changes = λ e. absurd cc;
    idle = λ none. (same, faults);
    unbegun = λ e. absurd cc;
    spool_count = spool;
    keeper_count = not_counted;
  }

  -- it is done
  pub ticks_moved : s_after ≡ next over event s → has_busy_job s.book ≡ true
      → Ticks size workers seen seen_after now s s_after has_failed ticked.Moved
  ticks_moved is busy = record {
    event = event;
    of_tick = of_tick;
    goes = record { state = is; commits = none_begun };
    ends = busy;
    changes = λ e. absurd cc;
    idle = λ none. (same, faults);
    unbegun = λ e. absurd cc;
    spool_count = spool;
    keeper_count = not_counted;
  }

pub queued_busy : (book : PlainBook) (job : PlainJob) → next_queued book ≡ Some job → has_busy_job book ≡ true
queued_busy book job e =
    any_found (λ (j : PlainJob). is_busy j.status) (λ (j : PlainJob). is_queued j.status && is_first book j) book.jobs job e
    (ap is_busy (queued_found book job e))
