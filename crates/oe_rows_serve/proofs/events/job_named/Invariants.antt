use Rattle.std.proofs.Common.{◌≡◌, drop, map}
use Rattle.std.specs.Prelude.{find}
use Rattle.oe_jobs.specs.Changes.{is_job}
use Rattle.oe_jobs.specs.Plain.{plain_job}
use Rattle.oe_rows_serve.proofs.events.job_named.Given as goal

abbrev pub invariant-loop-job : goal.invariant-loop-job
invariant-loop-job l =
    find (is_job l.id) (map plain_job l.job-items) ≡ find (is_job l.id) (map plain_job (drop l.job-index l.job-items))
