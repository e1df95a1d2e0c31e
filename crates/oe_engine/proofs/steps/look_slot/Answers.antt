use Rattle.std.proofs.Common.{arith}
use Rattle.oe_plan.specs.Plans.{schedule_of}
use Rattle.oe_plan.specs.Schedules.{node_at}
use Rattle.oe_plan.proofs.ScheduleLemmas.{plan_schedule, plan_windows}
use Rattle.oe_sources.specs.CatalogueRows.{rows_of}
use Rattle.oe_steps.specs.Buffers.{lists_of}
use Rattle.oe_steps.proofs.ReadLemmas.{AreRead-refl}
use Rattle.oe_steps.proofs.ScheduleLemmas.{few}
use Rattle.oe_steps.specs.Collections.{HasCollections}
use Rattle.oe_steps.specs.Loads.{TellsWhy}
use Rattle.oe_steps.specs.Looks.{IsLoadStep, LoadsOver}
use Rattle.oe_steps.specs.Steps.{HaveRoomFor, IsReadySchedule}
use Rattle.oe_engine.proofs.ScheduleLemmas.{as_read, of_plan}
use Rattle.oe_engine.proofs.steps.look_slot.Goals as goal

pub look_slot-requires-clause-ready : goal.look_slot-requires-clause-ready
look_slot-requires-clause-ready g c =
    let p = c.args.plan.now in
    let graph = c.checked.result.now in
    let schedule = c.schedule.result.now in
    let same = c.checked.ensures.value in
    let is = c.schedule.ensures.value in
    let windows = c.args.windows.now in
    let buffers = lists_of c.args.buffers.now in
    let valid = c.schedule.ensures.valid in
    let ready : IsReadySchedule p.graph (schedule_of p) windows buffers = record {
      scheduled = plan_schedule p valid;
      windows_fit = plan_windows p valid c.requires.windows.0 windows c.requires.windows.1;
      room = c.requires.room;
    } in
    as_read (λ g s. IsReadySchedule g s windows buffers) p graph schedule same is ready

pub look_slot-requires-clause-load : goal.look_slot-requires-clause-load
look_slot-requires-clause-load g c =
    let p = c.args.plan.now in
    let graph = c.checked.result.now in
    let schedule = c.schedule.result.now in
    let same = c.checked.ensures.value in
    let is = c.schedule.ensures.value in
    let load : IsLoadStep p.graph (schedule_of p) c.args.step = record { step_in = c.requires.step; loads = c.requires.load } in
    as_read (λ g s. IsLoadStep g s c.args.step) p graph schedule same is load

pub look_slot-requires-clause-mounted : goal.look_slot-requires-clause-mounted
look_slot-requires-clause-mounted g c =
    let p = c.args.plan.now in
    let graph = c.checked.result.now in
    let schedule = c.schedule.result.now in
    let same = c.checked.ensures.value in
    let is = c.schedule.ensures.value in
    let rows = rows_of (λ z. (goal.SharedSource-dyn g z).CubeSource.seen z.1) c.args.catalogue.now in
    as_read (λ g s. HasCollections g rows) p graph schedule same is c.requires.mounted

pub returns-clause-room : goal.returns-clause-room
returns-clause-room g c =
    let p = c.args.plan.now in
    let graph = c.checked.result.now in
    let schedule = c.schedule.result.now in
    let same = c.checked.ensures.value in
    let is = c.schedule.ensures.value in
    of_plan (λ g s. HaveRoomFor s (lists_of c.look_slot.new.buffers)) p graph schedule same is c.look_slot.ensures.room

pub returns-clause-loaded : goal.returns-clause-loaded
returns-clause-loaded g c =
    let p = c.args.plan.now in
    let graph = c.checked.result.now in
    let schedule = c.schedule.result.now in
    let same = c.checked.ensures.value in
    let is = c.schedule.ensures.value in
    let rows = rows_of (λ z. (goal.SharedSource-dyn g z).CubeSource.seen z.1) c.args.catalogue.now in
    of_plan (λ g s. LoadsOver g s rows c.args.step c.args.windows.now (lists_of c.args.buffers.now) (lists_of c.look_slot.new.buffers) c.look_slot.result)
    p graph schedule same is (c.look_slot.ensures.loaded rows (AreRead-refl rows))

pub returns-clause-refused : goal.returns-clause-refused
returns-clause-refused g c =
    let p = c.args.plan.now in
    let graph = c.checked.result.now in
    let schedule = c.schedule.result.now in
    let same = c.checked.ensures.value in
    let is = c.schedule.ensures.value in
    let rows = rows_of (λ z. (goal.SharedSource-dyn g z).CubeSource.seen z.1) c.args.catalogue.now in
    of_plan (λ g s. TellsWhy g rows (node_at s c.args.step) c.look_slot.result) p graph schedule same is c.look_slot.ensures.refused

pub look_slot-requires-clause-asked : goal.look_slot-requires-clause-asked
look_slot-requires-clause-asked g c =
    let p = c.args.plan.now in
    let are = c.requires.windows in
    let windows = c.args.windows.now in
    let some = few p.graph (schedule_of p) (plan_schedule p c.schedule.ensures.valid) windows (plan_windows p c.schedule.ensures.valid are.0 windows are.1) c.args.step c.requires.step in
    record { enough = omega (arith, some, c.requires.asked.enough); own = c.requires.asked.own }

pub returns-clause-spent : goal.returns-clause-spent
returns-clause-spent g c =
    let p = c.args.plan.now in
    let are = c.requires.windows in
    let windows = c.args.windows.now in
    let some = few p.graph (schedule_of p) (plan_schedule p c.schedule.ensures.valid) windows (plan_windows p c.schedule.ensures.valid are.0 windows are.1) c.args.step c.requires.step in
    let spent = c.look_slot.ensures.spent in
    record { left = omega (arith, some, spent.left); seal = spent.seal }
