use Rattle.std.proofs.Common.{◌≡◌, drop, map}
use Rattle.std.specs.List.{list_any}
use Rattle.oe_jobs.specs.Machine.{is_busy}
use Rattle.oe_jobs.specs.Plain.{PlainJob, plain_job}
use Rattle.oe_jobs.proofs.find.has_busy_job.Given as goal

abbrev pub invariant-loop-job : goal.invariant-loop-job
invariant-loop-job l =
    list_any (λ (job : PlainJob). is_busy job.status) (map plain_job l.job-items)
    ≡ list_any (λ (job : PlainJob). is_busy job.status) (map plain_job (drop l.job-index l.job-items))
