use Rattle.std.proofs.Common.{◌≡◌, length}
use Rattle.oe_plan.specs.Schedules.{AreWindowsFor, IsSchedule}
use Rattle.oe_plan.proofs.ScheduleLemmas.{plan_schedule, plan_windows}
use Rattle.oe_plan.specs.Figures.{scratch_of}
use Rattle.oe_meanings.specs.Graphs.{Collections}
use Rattle.oe_check.specs.Laws.{AreCollectionsOf}
use Rattle.oe_steps.specs.Buffers.{lists_of}
use Rattle.oe_steps.specs.Steps.{AreCells, AreOfKind, EachLoad, HaveRoomFor, OfLast}
use Rattle.oe_engine.proofs.ScheduleLemmas.{as_read, of_plan}
use Rattle.oe_engine.proofs.steps.evaluate_steps.Goals as goal

pub evaluate_steps-requires-clause-schedule : goal.evaluate_steps-requires-clause-schedule
evaluate_steps-requires-clause-schedule c =
    let p = c.args.plan.now in
    let graph = c.checked.result.now in
    let schedule = c.schedule.result.now in
    let same = c.checked.ensures.value in
    let is = c.schedule.ensures.value in
    as_read (λ g s. IsSchedule g s) p graph schedule same is (plan_schedule p c.schedule.ensures.valid)

pub evaluate_steps-requires-clause-windows : goal.evaluate_steps-requires-clause-windows
evaluate_steps-requires-clause-windows c =
    let p = c.args.plan.now in
    let graph = c.checked.result.now in
    let schedule = c.schedule.result.now in
    let same = c.checked.ensures.value in
    let is = c.schedule.ensures.value in
    as_read (λ g s. AreWindowsFor g s c.args.windows.now) p graph schedule same is (plan_windows p c.schedule.ensures.valid c.requires.windows.0 c.args.windows.now c.requires.windows.1)

pub evaluate_steps-requires-clause-room : goal.evaluate_steps-requires-clause-room
evaluate_steps-requires-clause-room c =
    let p = c.args.plan.now in
    let graph = c.checked.result.now in
    let schedule = c.schedule.result.now in
    let same = c.checked.ensures.value in
    let is = c.schedule.ensures.value in
    as_read (λ g s. HaveRoomFor s (lists_of c.args.buffers.now)) p graph schedule same is c.requires.room

pub evaluate_steps-requires-clause-scratch : goal.evaluate_steps-requires-clause-scratch
evaluate_steps-requires-clause-scratch c =
    let p = c.args.plan.now in
    let graph = c.checked.result.now in
    let schedule = c.schedule.result.now in
    let same = c.checked.ensures.value in
    let is = c.schedule.ensures.value in
    as_read (λ g s. length c.args.scratch.now ≡ scratch_of g) p graph schedule same is c.requires.scratch

pub evaluate_steps-requires-clause-kinds : goal.evaluate_steps-requires-clause-kinds
evaluate_steps-requires-clause-kinds c =
    let p = c.args.plan.now in
    let graph = c.checked.result.now in
    let schedule = c.schedule.result.now in
    let same = c.checked.ensures.value in
    let is = c.schedule.ensures.value in
    as_read (λ g s. EachLoad g s (AreOfKind g s c.args.windows.now (lists_of c.args.buffers.now))) p graph schedule same is c.requires.kinds

pub returns-clause-room : goal.returns-clause-room
returns-clause-room c =
    let p = c.args.plan.now in
    let graph = c.checked.result.now in
    let schedule = c.schedule.result.now in
    let same = c.checked.ensures.value in
    let is = c.schedule.ensures.value in
    of_plan (λ g s. HaveRoomFor s (lists_of c.evaluate_steps.new.buffers)) p graph schedule same is c.evaluate_steps.ensures.room

pub returns-clause-kinds : goal.returns-clause-kinds
returns-clause-kinds c =
    let p = c.args.plan.now in
    let graph = c.checked.result.now in
    let schedule = c.schedule.result.now in
    let same = c.checked.ensures.value in
    let is = c.schedule.ensures.value in
    of_plan (λ g s. OfLast s (AreOfKind g s c.args.windows.now (lists_of c.evaluate_steps.new.buffers))) p graph schedule same is c.evaluate_steps.ensures.kinds

pub returns-clause-value : goal.returns-clause-value
returns-clause-value c =
    let p = c.args.plan.now in
    let graph = c.checked.result.now in
    let schedule = c.schedule.result.now in
    let same = c.checked.ensures.value in
    let is = c.schedule.ensures.value in
    of_plan (λ g s. (collections : Collections) → AreCollectionsOf g collections → EachLoad g s (AreCells collections g s c.args.windows.now (lists_of c.args.buffers.now))
    → OfLast s (AreCells collections g s c.args.windows.now (lists_of c.evaluate_steps.new.buffers))) p graph schedule same is c.evaluate_steps.ensures.value
