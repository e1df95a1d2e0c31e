use Rattle.std.proofs.Common.{◌<◌, length}
use Rattle.oe_plan.specs.Schedules.{AreWindowsFor, IsSchedule}
use Rattle.oe_plan.proofs.ScheduleLemmas.{plan_schedule, plan_windows}
use Rattle.oe_steps.specs.Buffers.{lists_of}
use Rattle.oe_steps.specs.Steps.{HaveRoomFor}
use Rattle.oe_steps.specs.Strips.{TakesRow}
use Rattle.oe_engine.proofs.ScheduleLemmas.{as_read, of_plan}
use Rattle.oe_engine.proofs.steps.take_part.Goals as goal

pub take_part-requires-clause-schedule : goal.take_part-requires-clause-schedule
take_part-requires-clause-schedule c =
    let p = c.args.plan.now in
    let graph = c.checked.result.now in
    let schedule = c.schedule.result.now in
    let same = c.checked.ensures.value in
    let is = c.schedule.ensures.value in
    as_read (λ g s. IsSchedule g s) p graph schedule same is (plan_schedule p c.schedule.ensures.valid)

pub take_part-requires-clause-step : goal.take_part-requires-clause-step
take_part-requires-clause-step c =
    let p = c.args.plan.now in
    let graph = c.checked.result.now in
    let schedule = c.schedule.result.now in
    let same = c.checked.ensures.value in
    let is = c.schedule.ensures.value in
    as_read (λ g s. c.args.step < length s.order.steps) p graph schedule same is c.requires.step

pub take_part-requires-clause-windows : goal.take_part-requires-clause-windows
take_part-requires-clause-windows c =
    let p = c.args.plan.now in
    let graph = c.checked.result.now in
    let schedule = c.schedule.result.now in
    let same = c.checked.ensures.value in
    let is = c.schedule.ensures.value in
    as_read (λ g s. AreWindowsFor g s c.args.windows.now) p graph schedule same is (plan_windows p c.schedule.ensures.valid c.requires.windows.0 c.args.windows.now c.requires.windows.1)

pub take_part-requires-clause-room : goal.take_part-requires-clause-room
take_part-requires-clause-room c =
    let p = c.args.plan.now in
    let graph = c.checked.result.now in
    let schedule = c.schedule.result.now in
    let same = c.checked.ensures.value in
    let is = c.schedule.ensures.value in
    as_read (λ g s. HaveRoomFor s (lists_of c.args.buffers.now)) p graph schedule same is c.requires.room

pub returns-clause-room : goal.returns-clause-room
returns-clause-room c =
    let p = c.args.plan.now in
    let graph = c.checked.result.now in
    let schedule = c.schedule.result.now in
    let same = c.checked.ensures.value in
    let is = c.schedule.ensures.value in
    of_plan (λ g s. HaveRoomFor s (lists_of c.take_part.new.buffers)) p graph schedule same is c.take_part.ensures.room

pub returns-clause-loaded : goal.returns-clause-loaded
returns-clause-loaded c =
    let p = c.args.plan.now in
    let graph = c.checked.result.now in
    let schedule = c.schedule.result.now in
    let same = c.checked.ensures.value in
    let is = c.schedule.ensures.value in
    of_plan (λ g s. TakesRow g s c.args.step c.args.hull.now c.args.number c.args.row.now c.args.windows.now (lists_of c.args.buffers.now)
    (lists_of c.take_part.new.buffers)) p graph schedule same is c.take_part.ensures.loaded
