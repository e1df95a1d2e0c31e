use Rattle.std.proofs.Common.{◌≡◌, ◌<◌, length}
use Rattle.oe_plan.specs.Schedules.{AreWindowsFor, IsSchedule}
use Rattle.oe_plan.proofs.ScheduleLemmas.{plan_schedule, plan_windows}
use Rattle.oe_steps.specs.Buffers.{lists_of}
use Rattle.oe_steps.specs.Steps.{HaveRoomFor, buffer_cells_at}
use Rattle.oe_engine.proofs.ScheduleLemmas.{as_read, of_plan}
use Rattle.oe_engine.proofs.steps.front.Goals as goal

pub front-requires-clause-schedule : goal.front-requires-clause-schedule
front-requires-clause-schedule c =
    let p = c.args.plan.now in
    let graph = c.checked.result.now in
    let schedule = c.schedule.result.now in
    let same = c.checked.ensures.value in
    let is = c.schedule.ensures.value in
    as_read (λ g s. IsSchedule g s) p graph schedule same is (plan_schedule p c.schedule.ensures.valid)

pub front-requires-clause-step : goal.front-requires-clause-step
front-requires-clause-step c =
    let p = c.args.plan.now in
    let graph = c.checked.result.now in
    let schedule = c.schedule.result.now in
    let same = c.checked.ensures.value in
    let is = c.schedule.ensures.value in
    as_read (λ g s. c.args.step < length s.order.steps) p graph schedule same is c.requires.step

pub front-requires-clause-windows : goal.front-requires-clause-windows
front-requires-clause-windows c =
    let p = c.args.plan.now in
    let graph = c.checked.result.now in
    let schedule = c.schedule.result.now in
    let same = c.checked.ensures.value in
    let is = c.schedule.ensures.value in
    as_read (λ g s. AreWindowsFor g s c.args.windows.now) p graph schedule same is (plan_windows p c.schedule.ensures.valid c.requires.windows.0 c.args.windows.now c.requires.windows.1)

pub front-requires-clause-room : goal.front-requires-clause-room
front-requires-clause-room c =
    let p = c.args.plan.now in
    let graph = c.checked.result.now in
    let schedule = c.schedule.result.now in
    let same = c.checked.ensures.value in
    let is = c.schedule.ensures.value in
    as_read (λ g s. HaveRoomFor s (lists_of c.args.buffers.now)) p graph schedule same is c.requires.room

pub returns : goal.returns
returns c =
    let p = c.args.plan.now in
    let graph = c.checked.result.now in
    let schedule = c.schedule.result.now in
    let same = c.checked.ensures.value in
    let is = c.schedule.ensures.value in
    of_plan (λ g s. c.front.result.now ≡ buffer_cells_at s c.args.windows.now (lists_of c.args.buffers.now) c.args.step) p graph schedule same is c.front.ensures
