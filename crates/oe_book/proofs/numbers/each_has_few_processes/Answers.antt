use Rattle.std.proofs.Common.{◌∙◌, sym, true≢false}
use Rattle.oe_jobs.specs.Plain.{plain_book, plain_owned}
use Rattle.oe_book.specs.Parts.{HasFewProcesses}
use Rattle.oe_book.proofs.LoopLemmas.{left_ends, left_next, left_stops}
use Rattle.oe_book.proofs.numbers.each_has_few_processes.Goals as goal

pub loop-owned-preserved : goal.loop-owned-preserved
loop-owned-preserved c =
    left_next (HasFewProcesses (plain_book c.args.book.now)) plain_owned _ c.args.processes.now c.loop-owned.owned-index c.owned-item.result
    c.loop-owned.invariant c.loop-owned-test.true c.owned-item.is (c.is_few_processes.ensures.0 c.if-not-is_few_processes.false)

pub returns-then-not-is_few_processes : goal.returns-then-not-is_few_processes
returns-then-not-is_few_processes c =
    left_stops (HasFewProcesses (plain_book c.args.book.now)) plain_owned _ c.args.processes.now c.loop-owned.owned-index c.owned-item.result
    c.loop-owned.invariant c.loop-owned-test.true c.owned-item.is (λ p. true≢false (sym (c.is_few_processes.ensures.1 p) ∙ c.if-not-is_few_processes.true))

pub returns : goal.returns
returns c =
    left_ends (HasFewProcesses (plain_book c.args.book.now)) plain_owned _ c.args.processes.now c.loop-owned.owned-index c.loop-owned.invariant
    c.loop-owned-test.false
