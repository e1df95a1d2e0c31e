use Rattle.std.proofs.Common.{◌∙◌, sym, true≢false}
use Rattle.oe_jobs.specs.Plain.{plain_job}
use Rattle.oe_jobs.specs.Valid.{IsJob}
use Rattle.oe_book.proofs.LoopLemmas.{left_ends, left_next, left_stops}
use Rattle.oe_book.proofs.job.are_jobs.Goals as goal

pub loop-job-preserved : goal.loop-job-preserved
loop-job-preserved c =
    left_next (IsJob c.args.next) plain_job _ c.args.jobs.now c.loop-job.job-index c.job-item.result
    c.loop-job.invariant c.loop-job-test.true c.job-item.is (c.in_ok-is_job.ensures.0 c.if-not-branch.false)

pub returns-then-not-branch : goal.returns-then-not-branch
returns-then-not-branch c =
    left_stops (IsJob c.args.next) plain_job _ c.args.jobs.now c.loop-job.job-index c.job-item.result
    c.loop-job.invariant c.loop-job-test.true c.job-item.is
    (λ p. true≢false (sym (c.in_ok-is_job.ensures.1 p) ∙ c.if-not-branch.true))

pub returns : goal.returns
returns c =
    left_ends (IsJob c.args.next) plain_job _ c.args.jobs.now c.loop-job.job-index c.loop-job.invariant
    c.loop-job-test.false
