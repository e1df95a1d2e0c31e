use Rattle.std.proofs.Common.{◌∙◌, sym, true≢false}
use Rattle.oe_jobs.specs.Plain.{plain_book, plain_job}
use Rattle.oe_book.specs.Parts.{HasFewJobs}
use Rattle.oe_book.proofs.LoopLemmas.{left_ends, left_next, left_stops}
use Rattle.oe_book.proofs.numbers.each_has_few_jobs.Goals as goal

pub loop-job-preserved : goal.loop-job-preserved
loop-job-preserved c =
    left_next (HasFewJobs (plain_book c.args.book.now)) plain_job _ c.args.jobs.now c.loop-job.job-index c.job-item.result
    c.loop-job.invariant c.loop-job-test.true c.job-item.is (c.is_few_jobs.ensures.0 c.if-not-is_few_jobs.false)

pub returns-then-not-is_few_jobs : goal.returns-then-not-is_few_jobs
returns-then-not-is_few_jobs c =
    left_stops (HasFewJobs (plain_book c.args.book.now)) plain_job _ c.args.jobs.now c.loop-job.job-index c.job-item.result
    c.loop-job.invariant c.loop-job-test.true c.job-item.is (λ p. true≢false (sym (c.is_few_jobs.ensures.1 p) ∙ c.if-not-is_few_jobs.true))

pub returns : goal.returns
returns c =
    left_ends (HasFewJobs (plain_book c.args.book.now)) plain_job _ c.args.jobs.now c.loop-job.job-index c.loop-job.invariant
    c.loop-job-test.false
