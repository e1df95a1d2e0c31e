use Rattle.std.proofs.Common.{◌≡◌, ◌<◌, length}
use Rattle.oe_plan.specs.Schedules.{IsSchedule, node_at}
use Rattle.oe_plan.proofs.ScheduleLemmas.{plan_schedule}
use Rattle.oe_engine.proofs.ScheduleLemmas.{as_read, of_plan}
use Rattle.oe_engine.proofs.steps.step_of_result.Goals as goal

pub step_of_last-requires : goal.step_of_last-requires
step_of_last-requires c =
    let p = c.args.plan.now in
    let graph = c.checked.result.now in
    let schedule = c.schedule.result.now in
    let same = c.checked.ensures.value in
    let is = c.schedule.ensures.value in
    as_read (λ g s. IsSchedule g s) p graph schedule same is (plan_schedule p c.schedule.ensures.valid)

pub returns-clause-within : goal.returns-clause-within
returns-clause-within c =
    let p = c.args.plan.now in
    let graph = c.checked.result.now in
    let schedule = c.schedule.result.now in
    let same = c.checked.ensures.value in
    let is = c.schedule.ensures.value in
    of_plan (λ g s. c.step_of_last.result < length s.order.steps) p graph schedule same is c.step_of_last.ensures.within

pub returns-clause-is : goal.returns-clause-is
returns-clause-is c =
    let p = c.args.plan.now in
    let graph = c.checked.result.now in
    let schedule = c.schedule.result.now in
    let same = c.checked.ensures.value in
    let is = c.schedule.ensures.value in
    of_plan (λ g s. node_at s c.step_of_last.result ≡ s.last) p graph schedule same is c.step_of_last.ensures.is
