use Rattle.std.proofs.Common.{◌≡◌, Some, sym, ap, ◌∙◌}
use Rattle.std.specs.Option.{option_map}
use Rattle.oe_jobs.specs.Events.{running_job}
use Rattle.oe_jobs.specs.Machine.{has_assets}
use Rattle.oe_jobs.specs.Plain.{PlainJob, plain_book, plain_job, put_job}
use Rattle.oe_jobs.proofs.MachineLemmas.{reopen_after}
use Rattle.oe_jobs.proofs.event.reopen_running.Goals as goal

pub returns-in_ok-reopen_job-in-Some : goal.returns-in_ok-reopen_job-in-Some
returns-in_ok-reopen_job-in-Some c =
    let job : PlainJob = plain_job c.in-Some.job.now in
    let found : running_job (plain_book c.args.book.now) ≡ Some job =
    sym c.running_job.ensures.job ∙ ap (option_map (λ j. plain_job j.now)) c.in-Some.is in
    let moves = reopen_after job.status (has_assets job) job c.in-Some.ensures.runs in
    record { change = rw found (ap (λ j. Some (put_job j c.args.book.now.next)) (c.in_ok-reopen_job-in-Some.ensures ∙ sym moves)) }
