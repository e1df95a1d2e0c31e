use Rattle.std.proofs.Common.{◌∙◌, sym, true≢false}
use Rattle.oe_jobs.specs.Plain.{PlainOwned, plain_owned}
use Rattle.oe_jobs.specs.Valid.{IsStored}
use Rattle.oe_book.proofs.LoopLemmas.{left_ends, left_next, left_stops}
use Rattle.oe_book.proofs.stored.are_owned_stored.Goals as goal

pub loop-owned-preserved : goal.loop-owned-preserved
loop-owned-preserved c =
    left_next (λ (o : PlainOwned). IsStored o.process) plain_owned _ c.args.processes.now c.loop-owned.owned-index c.owned-item.result
    c.loop-owned.invariant c.loop-owned-test.true c.owned-item.is (c.in_ok-is_stored.ensures.0 c.if-not-branch.false)

pub returns-then-not-branch : goal.returns-then-not-branch
returns-then-not-branch c =
    left_stops (λ (o : PlainOwned). IsStored o.process) plain_owned _ c.args.processes.now c.loop-owned.owned-index c.owned-item.result
    c.loop-owned.invariant c.loop-owned-test.true c.owned-item.is
    (λ p. true≢false (sym (c.in_ok-is_stored.ensures.1 p) ∙ c.if-not-branch.true))

pub returns : goal.returns
returns c =
    left_ends (λ (o : PlainOwned). IsStored o.process) plain_owned _ c.args.processes.now c.loop-owned.owned-index c.loop-owned.invariant
    c.loop-owned-test.false
