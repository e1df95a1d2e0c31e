use Rattle.std.proofs.Common.{◌≡◌, ℕ, ◌<◌, false, get_or}
use Rattle.oe_jobs.specs.Plain.{plain_job}
use Rattle.oe_jobs.specs.Verdicts.{is_found}
use Rattle.oe_jobs.specs.declared.job.Job.{Job}
use Rattle.oe_jobs.proofs.find.index_of.Given as goal

abbrev pub invariant-loop-index : goal.invariant-loop-index
invariant-loop-index l = (k : ℕ) (d : Job) → k < l.index → is_found l.user l.id (plain_job (get_or l.jobs k d)) ≡ false
