use Rattle.std.proofs.Common.{◌≡◌, ℕ, ◌<◌, false, get_or}
use Rattle.oe_jobs.specs.Room.{has_id}
use Rattle.oe_jobs.specs.declared.job.Job.{Job}
use Rattle.oe_jobs.proofs.find.index_of_job.Given as goal

abbrev pub invariant-loop-index : goal.invariant-loop-index
invariant-loop-index l = (k : ℕ) (d : Job) → k < l.index → has_id l.id (get_or l.jobs k d) ≡ false
