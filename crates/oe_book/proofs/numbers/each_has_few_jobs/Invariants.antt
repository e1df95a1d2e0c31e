use Rattle.std.proofs.Common.{map}
use Rattle.std.specs.List.{AllByRecursion}
use Rattle.oe_jobs.specs.Plain.{plain_book, plain_job}
use Rattle.oe_book.specs.Parts.{HasFewJobs}
use Rattle.oe_book.proofs.LoopLemmas.{Left}
use Rattle.oe_book.proofs.numbers.each_has_few_jobs.Given as goal

abbrev pub invariant-loop-job : goal.invariant-loop-job
invariant-loop-job l =
    Left (HasFewJobs (plain_book l.book)) plain_job (AllByRecursion (HasFewJobs (plain_book l.book)) (map plain_job l.jobs)) l.jobs l.job-index
