use Rattle.std.proofs.Common.{◌≡◌, ◌<◌, ◌≤◌, ℕ, true, false, length}
use Rattle.oe_plan.specs.Schedules.{IsSchedule, is_load_at}
use Rattle.oe_plan.proofs.ScheduleLemmas.{plan_schedule}
use Rattle.oe_engine.proofs.ScheduleLemmas.{as_read, of_plan}
use Rattle.oe_engine.proofs.steps.loads.Goals as goal

pub loads-requires : goal.loads-requires
loads-requires c =
    let p = c.args.plan.now in
    let graph = c.checked.result.now in
    let schedule = c.schedule.result.now in
    let same = c.checked.ensures.value in
    let is = c.schedule.ensures.value in
    as_read (λ g s. IsSchedule g s) p graph schedule same is (plan_schedule p c.schedule.ensures.valid)

pub returns-clause-most : goal.returns-clause-most
returns-clause-most c =
    let p = c.args.plan.now in
    let graph = c.checked.result.now in
    let schedule = c.schedule.result.now in
    let same = c.checked.ensures.value in
    let is = c.schedule.ensures.value in
    of_plan (λ g s. c.loads.result ≤ length s.order.steps) p graph schedule same is c.loads.ensures.most

pub returns-clause-load : goal.returns-clause-load
returns-clause-load c =
    let p = c.args.plan.now in
    let graph = c.checked.result.now in
    let schedule = c.schedule.result.now in
    let same = c.checked.ensures.value in
    let is = c.schedule.ensures.value in
    of_plan (λ g s. (step : ℕ) → step < c.loads.result → is_load_at g s step ≡ true) p graph schedule same is c.loads.ensures.load

pub returns-clause-work : goal.returns-clause-work
returns-clause-work c =
    let p = c.args.plan.now in
    let graph = c.checked.result.now in
    let schedule = c.schedule.result.now in
    let same = c.checked.ensures.value in
    let is = c.schedule.ensures.value in
    of_plan (λ g s. (step : ℕ) → c.loads.result ≤ step → step < length s.order.steps → is_load_at g s step ≡ false) p graph schedule same is c.loads.ensures.work
