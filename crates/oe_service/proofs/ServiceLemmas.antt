-- What a service keeps after the step of a job.
use Rattle.std.proofs.Common.{◌≡◌, ℤ, [], Option, Some, None, true, refl, ap, sym, ◌∙◌}
use Rattle.std.specs.Prelude.{is_some}
use Rattle.oe_jobs.specs.Events.{event_of, moved_book, running_job}
use Rattle.oe_jobs.specs.Plain.{PlainBook, PlainJob, plain_book}
use Rattle.oe_jobs.specs.Valid.{IsBook}
use Rattle.oe_jobs.specs.declared.event.JobEvent.{JobEvent}
use Rattle.oe_jobs.specs.declared.event.JobEvent.TheVariants.{Start, Asset, Finish, Fail}
use Rattle.oe_plan.specs.Ranges.{IsWithinRanges}
use Rattle.oe_service.specs.GoesOn.{IsService, ids_for}
use Rattle.oe_service.specs.States.{EndsRun, moved_running}
use Rattle.oe_service.specs.declared.service.Service.{Service}
use Rattle.oe_service.proofs.KeptLemmas.{fits_by}
use Rattle.oe_service.proofs.BookLemmas.{fail_ends, finish_ends}
use Rattle.oe_service.proofs.NextLemmas.{moved_is}

-- ---- which job runs

pub some_of : {X : Type 0} (o : Option X) → is_some o ≡ true → (x : X) × (o ≡ Some x)
some_of None some = absurd cc
some_of (Some x) some = (x, refl)

ends_of : (book : PlainBook) (job : PlainJob) (event : JobEvent) (now : ℤ) → IsBook book → running_job book ≡ Some job
    → EndsRun event → running_job (moved_book book job.id (event_of event now)) ≡ None
ends_of book job Start now valid e ends = absurd ends
ends_of book job (Asset made) now valid e ends = absurd ends
ends_of book job Finish now valid e ends = finish_ends book job now valid e
ends_of book job (Fail code) now valid e ends = fail_ends book job now valid e code

pub none_runs : (book : PlainBook) (event : JobEvent) (now : ℤ) → IsBook book → is_some (running_job book) ≡ true
    → EndsRun event → running_job (moved_running book (event_of event now)) ≡ None
none_runs book event now valid runs ends =
    let job = some_of (running_job book) runs in
    ap running_job (moved_is book job.0 (event_of event now) job.1) ∙ ends_of book job.0 event now valid job.1 ends

-- ---- what a service keeps

pub free_service : (s : Service) → IsBook (plain_book s.book) → IsWithinRanges s.size s.workers
    → running_job (plain_book s.book) ≡ None → s.ids.items ≡ [] → s.run ≡ None → IsService s
free_service s valid ranges free ids run = record {
  book = valid;
  ranges = ranges;
  ids = ids ∙ sym (ap ids_for free);
  run = fits_by s.size s.size s.workers s.workers None (running_job (plain_book s.book)) None s.run refl refl free run tt;
}
