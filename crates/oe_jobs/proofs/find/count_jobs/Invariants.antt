use Rattle.std.proofs.Common.{◌≡◌, ◌≤◌, map, take}
use Rattle.std.specs.Prelude.{count_by}
use Rattle.oe_jobs.specs.Plain.{plain_job}
use Rattle.oe_jobs.specs.Verdicts.{is_job_of}
use Rattle.oe_jobs.proofs.find.count_jobs.Given as goal

abbrev pub invariant-loop-job : goal.invariant-loop-job
invariant-loop-job l =
    (l.count ≡ count_by (is_job_of l.user) (map plain_job (take l.job-index l.job-items))) × (l.count ≤ l.job-index)
