use Rattle.std.proofs.Common.{◌↔◌, length, map}
use Rattle.oe_jobs.specs.Plain.{plain_job}
use Rattle.oe_jobs.specs.Valid.{AllApart}
use Rattle.oe_book.proofs.pairs.are_all_apart.Given as goal

abbrev pub invariant-loop-job : goal.invariant-loop-job
invariant-loop-job l = AllApart (map plain_job l.jobs) ↔ AllApart (map plain_job l.rest)

abbrev pub decreases-loop-job : goal.decreases-loop-job
decreases-loop-job l = length l.rest
