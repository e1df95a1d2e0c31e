use Rattle.std.proofs.Common.{◌≡◌, map, take}
use Rattle.std.specs.Prelude.{filter}
use Rattle.serde_json.specs.View.{view}
use Rattle.oe_jobs.specs.Plain.{plain_job}
use Rattle.oe_jobs.specs.Verdicts.{is_job_of}
use Rattle.oe_replies.specs.Jobs.{job_row_data}
use Rattle.oe_replies.proofs.job.job_values.Given as goal

abbrev pub invariant-loop-job : goal.invariant-loop-job
invariant-loop-job l =
    map view l.values.items ≡ map job_row_data (filter (is_job_of l.user) (map plain_job (take l.job-index l.job-items)))
