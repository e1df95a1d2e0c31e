use Rattle.std.proofs.Common.{◌≡◌, map, take}
use Rattle.oe_jobs.specs.Plain.{plain_job}
use Rattle.oe_jobs.proofs.copy.copy_jobs.Given as goal

abbrev pub invariant-loop-job : goal.invariant-loop-job
invariant-loop-job l = map plain_job l.copy.items ≡ map plain_job (take l.job-index l.job-items)
