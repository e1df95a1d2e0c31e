-- The jobs that a tick finds: which events may come to them.
use Rattle.std.proofs.Common.{◌≡◌, ℕ, ℤ, ◌+◌, ◌≤◌, Bool, true, false, List, [], ◌∷◌, Option, Some, None, refl, ap, sym, ◌∙◌, inl, inr, arith}
use Rattle.std.specs.Prelude.{find, IfSome, ◌&&◌}
use Rattle.std.specs.Option.{option_map}
use Rattle.std.proofs.lemmas.Bool.{and_parts, cases_Bool}
use Rattle.std.proofs.lemmas.Option.{same_Some}
use Rattle.oe_dims.specs.Names.{same_name}
use Rattle.oe_dims.proofs.OrderLemmas.{same_name_is, same_name_refl}
use Rattle.oe_jobs.specs.Changes.{is_job}
use Rattle.oe_jobs.specs.Events.{AnyComes, IsFree, IsOfRun, MayCome, StartComes, event_of, is_first, next_queued, running_job}
use Rattle.oe_jobs.specs.Machine.{is_queued, is_running, may_come, step_at, step_of}
use Rattle.oe_jobs.specs.Machine as machine
use Rattle.oe_jobs.specs.Plain.{PlainBook, PlainJob}
use Rattle.oe_jobs.specs.Valid.{AreNumbered, IsBook}
use Rattle.oe_jobs.specs.Verdicts.{job_id, last_next}
use Rattle.oe_jobs.specs.declared.event.JobEvent.{JobEvent}
use Rattle.oe_jobs.specs.declared.event.JobEvent.TheVariants.{Start, Asset, Finish, Fail}
use Rattle.oe_jobs.specs.declared.status.Status.{Status}
use Rattle.oe_jobs.specs.declared.status.Status.TheVariants.{Created, Queued, Running, Canceled, Finished, Error}
use Rattle.oe_jobs.proofs.LineLemmas.{found_passes}
use Rattle.oe_jobs.proofs.PutLemmas.{found_number, ids_differ}

-- a job that was found by any test is the one of its id
found_by_id : (test : PlainJob → Bool) (low next : ℕ) (jobs : List PlainJob) (job : PlainJob) → next ≤ last_next
    → AreNumbered low jobs next → find test jobs ≡ Some job → find (is_job job.id) jobs ≡ Some job
found_by_id test low next [] job small numbered e = cc
found_by_id test low next (a ∷ jobs) job small numbered e =
    elim (cases_Bool (test a)) [
      | inl t ↦
          let same : a ≡ job = same_Some _ _ (rw t at e) in
          let stands : same_name a.id job.id ≡ true = ap (λ j. same_name a.id j.id) (sym same) ∙ same_name_refl a.id in
          rw stands (ap Some same)
      | inr f ↦
          let n = found_number test (numbered.0 + 1) next jobs job numbered.4 (rw f at e) in
          elim (cases_Bool (is_job job.id a)) [
            | inl t ↦
                let ids : job_id n.0 ≡ job_id numbered.0 = sym n.1 ∙ (same_name_is a.id job.id t ∙ numbered.1) in
                let equal = ids_differ n.0 numbered.0 (omega (arith, n.3)) (omega (arith, numbered.3)) ids in
                absurd (omega (arith, equal, n.2))
            | inr g ↦ rw g (found_by_id test (numbered.0 + 1) next jobs job small numbered.4 (rw f at e))
          ]
    ]

run_allows : (s : Status) (some : Bool) (event : JobEvent) (now : ℤ) → is_running s ≡ true → IsOfRun event
    → may_come (step_of s (event_of event now) some) ≡ true
run_allows Running some Start now runs of_run = absurd of_run
run_allows Running some (Asset new) now runs of_run = refl
run_allows Running some Finish now runs of_run = refl
run_allows Running some (Fail code) now runs of_run = refl
run_allows Created some event now runs of_run = absurd cc
run_allows Queued some event now runs of_run = absurd cc
run_allows Canceled some event now runs of_run = absurd cc
run_allows Finished some event now runs of_run = absurd cc
run_allows Error some event now runs of_run = absurd cc

queue_allows : (s : Status) (some : Bool) (now : ℤ) → is_queued s ≡ true → may_come (step_of s (machine.start now) some) ≡ true
queue_allows Queued some now waits = refl
queue_allows Created some now waits = absurd cc
queue_allows Running some now waits = absurd cc
queue_allows Canceled some now waits = absurd cc
queue_allows Finished some now waits = absurd cc
queue_allows Error some now waits = absurd cc

is_free : (event : JobEvent) (book : PlainBook) → IsOfRun event → IsFree event book
is_free Start book of_run = absurd of_run
is_free (Asset new) book of_run = tt
is_free Finish book of_run = tt
is_free (Fail code) book of_run = tt

pub running_comes : {X : Type 0} (f : X → PlainJob) (r : Option X) (book : PlainBook) → option_map f r ≡ running_job book → IsBook book
    → IfSome r (λ x. AnyComes book (f x).id)
running_comes f None book is valid = tt
running_comes f (Some x) book is valid = λ event now of_run. record {
  job = f x;
  found = found_by_id (λ (job : PlainJob). is_running job.status) 1 book.next book.jobs (f x) valid.bounded valid.numbered (sym is);
  allowed = run_allows (f x).status _ event now (found_passes (λ (job : PlainJob). is_running job.status) book.jobs (f x) (sym is)) of_run;
  free = is_free event book of_run;
}

pub queued_comes : {X : Type 0} (f : X → PlainJob) (r : Option X) (book : PlainBook) → option_map f r ≡ next_queued book → IsBook book
    → IfSome r (λ x. StartComes book (f x).id)
queued_comes f None book is valid = tt
queued_comes f (Some x) book is valid = λ now free. record {
  job = f x;
  found = found_by_id (λ (job : PlainJob). is_queued job.status && is_first book job) 1 book.next book.jobs (f x) valid.bounded
      valid.numbered (sym is);
  allowed = queue_allows (f x).status _ now
      (and_parts (is_queued (f x).status) (is_first book (f x)) (found_passes (λ (job : PlainJob). is_queued job.status && is_first book job) book.jobs (f x) (sym is))).0;
  free = free;
}
