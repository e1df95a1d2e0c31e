use Rattle.std.proofs.Common.{◌≡◌, drop, map}
use Rattle.std.specs.Prelude.{find}
use Rattle.oe_jobs.specs.Machine.{is_running}
use Rattle.oe_jobs.specs.Plain.{PlainJob, plain_job}
use Rattle.oe_jobs.proofs.find.running_job.Given as goal

abbrev pub invariant-loop-job : goal.invariant-loop-job
invariant-loop-job l =
    find (λ (job : PlainJob). is_running job.status) (map plain_job l.job-items)
    ≡ find (λ (job : PlainJob). is_running job.status) (map plain_job (drop l.job-index l.job-items))
