use Rattle.std.proofs.Common.{◌∙◌, sym, true≢false}
use Rattle.oe_jobs.specs.Plain.{plain_job}
use Rattle.oe_jobs.specs.Valid.{AreApart}
use Rattle.oe_book.proofs.LoopLemmas.{left_ends, left_next, left_stops}
use Rattle.oe_book.proofs.pairs.is_apart_from.Goals as goal

pub loop-other-preserved : goal.loop-other-preserved
loop-other-preserved c =
    left_next (AreApart (plain_job c.args.job.now)) plain_job _ c.args.others.now c.loop-other.other-index c.other-item.result
    c.loop-other.invariant c.loop-other-test.true c.other-item.is (c.are_apart.ensures.0 c.if-not-are_apart.false)

pub returns-then-not-are_apart : goal.returns-then-not-are_apart
returns-then-not-are_apart c =
    left_stops (AreApart (plain_job c.args.job.now)) plain_job _ c.args.others.now c.loop-other.other-index c.other-item.result
    c.loop-other.invariant c.loop-other-test.true c.other-item.is (λ p. true≢false (sym (c.are_apart.ensures.1 p) ∙ c.if-not-are_apart.true))

pub returns : goal.returns
returns c =
    left_ends (AreApart (plain_job c.args.job.now)) plain_job _ c.args.others.now c.loop-other.other-index c.loop-other.invariant
    c.loop-other-test.false
