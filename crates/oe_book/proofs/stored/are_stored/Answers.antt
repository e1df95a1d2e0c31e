use Rattle.std.proofs.Common.{◌∙◌, sym, true≢false}
use Rattle.oe_graph.specs.Plain.{plain_stored}
use Rattle.oe_jobs.specs.Valid.{IsStored}
use Rattle.oe_book.proofs.LoopLemmas.{left_ends, left_next, left_stops}
use Rattle.oe_book.proofs.stored.are_stored.Goals as goal

pub loop-process-preserved : goal.loop-process-preserved
loop-process-preserved c =
    left_next IsStored plain_stored _ c.args.stored.now c.loop-process.process-index c.process-item.result
    c.loop-process.invariant c.loop-process-test.true c.process-item.is (c.in_ok-is_stored.ensures.0 c.if-not-branch.false)

pub returns-then-not-branch : goal.returns-then-not-branch
returns-then-not-branch c =
    left_stops IsStored plain_stored _ c.args.stored.now c.loop-process.process-index c.process-item.result
    c.loop-process.invariant c.loop-process-test.true c.process-item.is
    (λ p. true≢false (sym (c.in_ok-is_stored.ensures.1 p) ∙ c.if-not-branch.true))

pub returns : goal.returns
returns c =
    left_ends IsStored plain_stored _ c.args.stored.now c.loop-process.process-index c.loop-process.invariant
    c.loop-process-test.false
