-- Calls and crashes, one after the other.
use Rattle.std.proofs.Common.{◌≡◌, Bool, true, false, List, [], ◌∷◌, ◌++◌, Some, refl, sym, ap, ◌∙◌, inl, inr}
use Rattle.std.specs.Prelude.{find, if◌then◌else◌}
use Rattle.std.specs.Option.{option_map, option_map_or}
use Rattle.std.proofs.lemmas.Bool.{cases_Bool}
use Rattle.oe_dims.proofs.OrderLemmas.{same_name_refl}
use Rattle.oe_jobs.specs.Changes.{changed, is_job, put_first}
use Rattle.oe_jobs.specs.Events.{job_named, running_job}
use Rattle.oe_jobs.specs.Kept.{Kept}
use Rattle.oe_jobs.specs.Machine as machine
use Rattle.oe_jobs.specs.Machine.{moved}
use Rattle.oe_jobs.specs.Plain.{PlainBook, PlainJob, put_job}
use Rattle.oe_service.specs.Lives.{CallsLeadOn, CrashesLeaveOne, IsQueuedAgain, Lives, Mark, NothingIsLost, RunningIsQueued, answered, answers, cut, cuts, events_in, events_of, loses, lost, opened, opening}
use Rattle.oe_service.specs.States.{Event, Setting, State, after, at_book, next, reopen, reopened}
use Rattle.oe_service.proofs.BookLemmas.{reopen_of, reopened_free, running_found}

-- ---- calls

-- what a call makes of the events that come after it
one_call : (setting : Setting) (b : Bool) (e : Event) (es : List Event) (s : State)
    → after setting es (if b then next setting e s else s) ≡ after setting (if b then e ∷ es else es) s
one_call setting true e es s = refl
one_call setting false e es s = refl

pub calls_lead_on : CallsLeadOn
calls_lead_on setting first kept [] last kept_last is go_on =
    (go_on.0, rw (go_on.1, go_on.0) is)
calls_lead_on setting first kept (call ∷ calls) last kept_last is go_on =
    let rest = calls_lead_on setting call.after call.kept_after calls last kept_last go_on.3 go_on.4 in (
      rest.0
          ∙ ap (after setting (events_of calls)) go_on.2.state
          ∙ one_call setting call.is_event call.event (events_of calls) call.before
          ∙ ap (after setting (if call.is_event then call.event ∷ events_of calls else events_of calls)) go_on.0,
      rest.1,
    )

-- ---- crashes

pub crashes_leave_one : CrashesLeaveOne
crashes_leave_one before after made left (inl same) (inl is) = inl is
crashes_leave_one before after made left (inl same) (inr (inl is)) = inl (is ∙ ap (λ (k : Kept). k.book) same)
crashes_leave_one before after made left (inl same) (inr (inr other)) = absurd (other.0 same)
crashes_leave_one before after made left (inr one) (inl is) = inl is
crashes_leave_one before after made left (inr one) (inr (inl is)) =
    elim one.book [
      | inl old ↦ inl (is ∙ old)
      | inr new ↦ inr (is ∙ new)
    ]
crashes_leave_one before after made left (inr one) (inr (inr other)) = inr (other.1 ∙ one.makes)

module _ (setting : Setting) where
  -- the state after some marks, and then after more
  after_marks : (marks more : List Mark) (s : State)
      → after setting (events_in (marks ++ more)) s ≡ after setting (events_in more) (after setting (events_in marks) s)
  after_marks [] more s = refl
  after_marks (answered e ∷ marks) more s = after_marks marks more (next setting e s)
  after_marks (cut e ∷ marks) more s = after_marks marks more (next setting e s)
  after_marks (lost e ∷ marks) more s = after_marks marks more s
  after_marks (opening ∷ marks) more s = after_marks marks more (next setting reopen s)

  module _ (first : PlainBook) where
    pub whole : (marks : List Mark) (s : State) → Lives setting first marks s
        → s ≡ after setting (events_in marks) (at_book first)
    whole _ _ opened = refl
    whole _ _ (answers {marks} {s} before e) =
        ap (next setting e) (whole marks s before) ∙ sym (after_marks marks (answered e ∷ []) (at_book first))
    whole _ _ (loses {marks} {s} before e left is) =
        ap (λ (b : PlainBook). next setting reopen (at_book b)) is
        ∙ ap (next setting reopen) (whole marks s before)
        ∙ sym (after_marks marks (lost e ∷ opening ∷ []) (at_book first))
    whole _ _ (cuts {marks} {s} before e left is) =
        ap (λ (b : PlainBook). next setting reopen (at_book b)) is
        ∙ ap (λ (t : State). next setting reopen (next setting e t)) (whole marks s before)
        ∙ sym (after_marks marks (cut e ∷ opening ∷ []) (at_book first))

pub nothing_is_lost : NothingIsLost
nothing_is_lost setting first marks s lives = whole setting first marks s lives

-- ---- the job that ran

put_named : (new : PlainJob) (jobs : List PlainJob) → find (is_job new.id) (put_first (is_job new.id) new jobs) ≡ Some new
put_named new [] = rw (same_name_refl new.id) refl
put_named new (x ∷ jobs) =
    elim (cases_Bool (is_job new.id x)) [
      | inl t ↦ rw t (rw (same_name_refl new.id) refl)
      | inr f ↦ rw f (rw f (put_named new jobs))
    ]

queued_again : (book : PlainBook) (job : PlainJob) → running_job book ≡ Some job → IsQueuedAgain job (reopened book)
queued_again book job e =
    let line = reopen_of job.status (machine.has_assets job) job (running_found book job e) in
    let new = moved machine.reopen job in
    let ids : new.id ≡ job.id = ap (λ (j : PlainJob). j.id) line in
    let is : reopened book ≡ changed book (put_job new book.next) =
    ap (λ o. option_map_or (changed book) (option_map (λ (j : PlainJob). put_job (moved machine.reopen j) book.next) o) book) e in
    record {
      queued = new;
      named = ap (job_named job.id) is
          ∙ ap (λ id. find (is_job id) (put_first (is_job new.id) new book.jobs)) (sym ids)
          ∙ put_named new book.jobs;
      queued_is = line;
    }

pub running_is_queued : RunningIsQueued
running_is_queued = record { none_runs = reopened_free; queued = queued_again }
