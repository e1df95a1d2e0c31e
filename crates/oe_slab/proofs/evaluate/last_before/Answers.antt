use Rattle.std.proofs.Common.{◌≡◌, ◌<◌, length}
use Rattle.oe_plan.specs.Schedules.{IsSchedule, node_at}
use Rattle.oe_slab.proofs.StepLemmas.{as_is, as_read}
use Rattle.oe_slab.proofs.evaluate.last_before.Goals as goal

pub step_of_last-requires : goal.step_of_last-requires
step_of_last-requires c =
    let p = c.args.plan.now in
    as_read (λ g s. IsSchedule g s) p.graph c.checked.result.now p.before c.before-2.result.now c.checked.ensures.value c.before-2.ensures.value
    c.before-2.ensures.valid.schedules.before

pub returns-clause-within : goal.returns-clause-within
returns-clause-within c =
    let p = c.args.plan.now in
    as_is (λ g s. c.step_of_last.result < length s.order.steps) p.graph c.checked.result.now p.before c.before-2.result.now c.checked.ensures.value c.before-2.ensures.value
    c.step_of_last.ensures.within

pub returns-clause-is : goal.returns-clause-is
returns-clause-is c =
    let p = c.args.plan.now in
    as_is (λ g s. node_at s c.step_of_last.result ≡ s.last) p.graph c.checked.result.now p.before c.before-2.result.now c.checked.ensures.value c.before-2.ensures.value
    c.step_of_last.ensures.is
