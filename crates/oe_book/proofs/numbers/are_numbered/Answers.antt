use Rattle.std.proofs.Common.{arith}
use Rattle.std.proofs.lemmas.Bool.Decides.{nat_tests}
use Rattle.oe_book.proofs.CountLemmas.{numbered_ends, numbered_next, numbered_stops}
use Rattle.oe_book.proofs.numbers.are_numbered.Goals as goal

pub loop-job-preserved : goal.loop-job-preserved
loop-job-preserved c =
    numbered_next _ c.loop-job.low c.args.next c.args.jobs.now c.loop-job.job-index c.loop-job.invariant c.job-item.result c.in-Some.after
    (omega arith) c.loop-job-test.true c.job-item.is c.in-Some.ensures

pub returns-in-None : goal.returns-in-None
returns-in-None c =
    numbered_stops _ c.loop-job.low c.args.next c.args.jobs.now c.loop-job.job-index c.loop-job.invariant c.job-item.result
    c.loop-job-test.true c.job-item.is c.in-None.ensures

pub returns : goal.returns
returns c =
    numbered_ends _ c.loop-job.low c.args.next c.args.jobs.now c.loop-job.job-index c.loop-job.invariant _ c.loop-job-test.false
    (λ t. grind (arith, nat_tests), λ h. grind (arith, nat_tests))
