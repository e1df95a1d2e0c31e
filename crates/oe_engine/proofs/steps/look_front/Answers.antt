use Rattle.std.proofs.Common.{OnOk, take}
use Rattle.oe_plan.specs.Schedules.{IsSchedule, node_at}
use Rattle.oe_plan.proofs.ScheduleLemmas.{plan_schedule}
use Rattle.oe_sources.specs.CatalogueRows.{rows_of}
use Rattle.oe_steps.specs.Loads.{AreLoaded, TellsWhy}
use Rattle.oe_steps.specs.Looks.{IsRowToLoad}
use Rattle.oe_window.specs.Windows.{span_length}
use Rattle.oe_engine.proofs.ScheduleLemmas.{as_read, of_plan}
use Rattle.oe_engine.proofs.steps.look_front.Goals as goal

pub look_front-requires-clause-schedule : goal.look_front-requires-clause-schedule
look_front-requires-clause-schedule g c =
    let p = c.args.plan.now in
    let graph = c.checked.result.now in
    let schedule = c.schedule.result.now in
    let same = c.checked.ensures.value in
    let is = c.schedule.ensures.value in
    as_read (λ g s. IsSchedule g s) p graph schedule same is (plan_schedule p c.schedule.ensures.valid)

pub look_front-requires-clause-row : goal.look_front-requires-clause-row
look_front-requires-clause-row g c =
    let p = c.args.plan.now in
    let graph = c.checked.result.now in
    let schedule = c.schedule.result.now in
    let same = c.checked.ensures.value in
    let is = c.schedule.ensures.value in
    let rows = rows_of (λ z. (goal.SharedSource-dyn g z).CubeSource.seen z.1) c.args.catalogue.now in
    as_read (λ g s. IsRowToLoad g s rows c.args.step c.args.place c.args.row.now) p graph schedule same is c.requires.row

pub returns-clause-loaded : goal.returns-clause-loaded
returns-clause-loaded g c =
    let p = c.args.plan.now in
    let graph = c.checked.result.now in
    let schedule = c.schedule.result.now in
    let same = c.checked.ensures.value in
    let is = c.schedule.ensures.value in
    let rows = rows_of (λ z. (goal.SharedSource-dyn g z).CubeSource.seen z.1) c.args.catalogue.now in
    of_plan (λ g s. OnOk c.look_front.result (AreLoaded g rows (node_at s c.args.step) c.args.row.now (take (span_length c.args.row.now.x) c.look_front.new.cells))) p graph schedule same is c.look_front.ensures.loaded

pub returns-clause-refused : goal.returns-clause-refused
returns-clause-refused g c =
    let p = c.args.plan.now in
    let graph = c.checked.result.now in
    let schedule = c.schedule.result.now in
    let same = c.checked.ensures.value in
    let is = c.schedule.ensures.value in
    let rows = rows_of (λ z. (goal.SharedSource-dyn g z).CubeSource.seen z.1) c.args.catalogue.now in
    of_plan (λ g s. TellsWhy g rows (node_at s c.args.step) c.look_front.result) p graph schedule same is c.look_front.ensures.refused
