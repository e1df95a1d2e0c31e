use Rattle.std.proofs.Common.{◌≡◌, ◌<◌, Ok, true, length}
use Rattle.oe_plan.specs.Schedules.{IsSchedule}
use Rattle.oe_plan.proofs.ScheduleLemmas.{plan_schedule}
use Rattle.oe_sources.specs.CatalogueRows.{rows_of}
use Rattle.oe_steps.specs.Collections.{HasCollections}
use Rattle.oe_steps.specs.Loads.{HasRead}
use Rattle.oe_steps.specs.Steps.{loads_at}
use Rattle.oe_engine.proofs.ScheduleLemmas.{as_read, of_plan}
use Rattle.oe_engine.proofs.steps.ask.Goals as goal

pub ask-requires-clause-schedule : goal.ask-requires-clause-schedule
ask-requires-clause-schedule g c =
    let p = c.args.plan.now in
    let graph = c.checked.result.now in
    let schedule = c.schedule.result.now in
    let same = c.checked.ensures.value in
    let is = c.schedule.ensures.value in
    as_read (λ g s. IsSchedule g s) p graph schedule same is (plan_schedule p c.schedule.ensures.valid)

pub ask-requires-clause-step : goal.ask-requires-clause-step
ask-requires-clause-step g c =
    let p = c.args.plan.now in
    let graph = c.checked.result.now in
    let schedule = c.schedule.result.now in
    let same = c.checked.ensures.value in
    let is = c.schedule.ensures.value in
    as_read (λ g s. c.args.step < length s.order.steps) p graph schedule same is c.requires.step

pub ask-requires-clause-load : goal.ask-requires-clause-load
ask-requires-clause-load g c =
    let p = c.args.plan.now in
    let graph = c.checked.result.now in
    let schedule = c.schedule.result.now in
    let same = c.checked.ensures.value in
    let is = c.schedule.ensures.value in
    as_read (λ g s. loads_at g s c.args.step ≡ true) p graph schedule same is c.requires.load

pub ask-requires-clause-mounted : goal.ask-requires-clause-mounted
ask-requires-clause-mounted g c =
    let p = c.args.plan.now in
    let graph = c.checked.result.now in
    let schedule = c.schedule.result.now in
    let same = c.checked.ensures.value in
    let is = c.schedule.ensures.value in
    let rows = rows_of (λ z. (goal.SharedSource-dyn g z).CubeSource.seen z.1) c.args.catalogue.now in
    as_read (λ g s. HasCollections g rows) p graph schedule same is c.requires.mounted

pub returns-clause-asked : goal.returns-clause-asked
returns-clause-asked g c =
    let p = c.args.plan.now in
    let graph = c.checked.result.now in
    let schedule = c.schedule.result.now in
    let same = c.checked.ensures.value in
    let is = c.schedule.ensures.value in
    let rows = rows_of (λ z. (goal.SharedSource-dyn g z).CubeSource.seen z.1) c.args.catalogue.now in
    let after = rows_of (λ z. (goal.SharedSource-dyn g z).CubeSource.seen z.1) c.ask.new.catalogue in
    of_plan (λ g s. HasRead g c.args.cells rows after (Ok tt)) p graph schedule same is c.ask.ensures.asked
