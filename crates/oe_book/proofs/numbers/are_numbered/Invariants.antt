use Rattle.std.proofs.Common.{map}
use Rattle.oe_jobs.specs.Plain.{plain_job}
use Rattle.oe_jobs.specs.Valid.{AreNumbered}
use Rattle.oe_book.proofs.CountLemmas.{LeftNumbered}
use Rattle.oe_book.proofs.numbers.are_numbered.Given as goal

abbrev pub invariant-loop-job : goal.invariant-loop-job
invariant-loop-job l = LeftNumbered (AreNumbered 1 (map plain_job l.jobs) l.next) l.low l.next l.jobs l.job-index
