use Rattle.std.proofs.Common.{◌≡◌, drop, map}
use Rattle.std.specs.Prelude.{find, ◌&&◌}
use Rattle.oe_jobs.specs.Events.{is_first}
use Rattle.oe_jobs.specs.Machine.{is_queued}
use Rattle.oe_jobs.specs.Plain.{PlainJob, plain_book, plain_job}
use Rattle.oe_jobs.proofs.find.next_queued.Given as goal

abbrev pub invariant-loop-job : goal.invariant-loop-job
invariant-loop-job l =
    find (λ (job : PlainJob). is_queued job.status && is_first (plain_book l.book) job) (map plain_job l.job-items)
    ≡ find (λ (job : PlainJob). is_queued job.status && is_first (plain_book l.book) job) (map plain_job (drop l.job-index l.job-items))
