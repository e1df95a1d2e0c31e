use Rattle.std.proofs.Common.{◌≡◌, ◌<◌, true, length}
use Rattle.oe_plan.specs.Schedules.{IsSchedule, node_at}
use Rattle.oe_plan.proofs.ScheduleLemmas.{plan_schedule}
use Rattle.oe_sources.specs.CatalogueRows.{rows_of}
use Rattle.oe_sources.specs.Source.{answer_of}
use Rattle.oe_steps.specs.Collections.{HasCollections}
use Rattle.oe_steps.specs.Loads.{HasRead, TellsWhy, refusal_for}
use Rattle.oe_steps.specs.Steps.{loads_at}
use Rattle.oe_engine.proofs.ScheduleLemmas.{as_read, of_plan}
use Rattle.oe_engine.proofs.steps.settle.Goals as goal

pub settle-requires-clause-schedule : goal.settle-requires-clause-schedule
settle-requires-clause-schedule g c =
    let p = c.args.plan.now in
    let graph = c.checked.result.now in
    let schedule = c.schedule.result.now in
    let same = c.checked.ensures.value in
    let is = c.schedule.ensures.value in
    as_read (λ g s. IsSchedule g s) p graph schedule same is (plan_schedule p c.schedule.ensures.valid)

pub settle-requires-clause-step : goal.settle-requires-clause-step
settle-requires-clause-step g c =
    let p = c.args.plan.now in
    let graph = c.checked.result.now in
    let schedule = c.schedule.result.now in
    let same = c.checked.ensures.value in
    let is = c.schedule.ensures.value in
    as_read (λ g s. c.args.step < length s.order.steps) p graph schedule same is c.requires.step

pub settle-requires-clause-load : goal.settle-requires-clause-load
settle-requires-clause-load g c =
    let p = c.args.plan.now in
    let graph = c.checked.result.now in
    let schedule = c.schedule.result.now in
    let same = c.checked.ensures.value in
    let is = c.schedule.ensures.value in
    as_read (λ g s. loads_at g s c.args.step ≡ true) p graph schedule same is c.requires.load

pub settle-requires-clause-mounted : goal.settle-requires-clause-mounted
settle-requires-clause-mounted g c =
    let p = c.args.plan.now in
    let graph = c.checked.result.now in
    let schedule = c.schedule.result.now in
    let same = c.checked.ensures.value in
    let is = c.schedule.ensures.value in
    let rows = rows_of (λ z. (goal.SharedSource-dyn g z).CubeSource.seen z.1) c.args.catalogue.now in
    as_read (λ g s. HasCollections g rows) p graph schedule same is c.requires.mounted

pub settle-requires-clause-refused : goal.settle-requires-clause-refused
settle-requires-clause-refused g c =
    let p = c.args.plan.now in
    let graph = c.checked.result.now in
    let schedule = c.schedule.result.now in
    let same = c.checked.ensures.value in
    let is = c.schedule.ensures.value in
    let rows = rows_of (λ z. (goal.SharedSource-dyn g z).CubeSource.seen z.1) c.args.catalogue.now in
    as_read (λ g s. TellsWhy g rows (node_at s c.args.step) c.args.looked) p graph schedule same is c.requires.refused

pub returns-clause-answer : goal.returns-clause-answer
returns-clause-answer g c =
    let p = c.args.plan.now in
    let graph = c.checked.result.now in
    let schedule = c.schedule.result.now in
    let same = c.checked.ensures.value in
    let is = c.schedule.ensures.value in
    of_plan (λ g s. c.settle.result ≡ refusal_for (node_at s c.args.step) (answer_of c.args.looked)) p graph schedule same is c.settle.ensures.answer

pub returns-clause-read : goal.returns-clause-read
returns-clause-read g c =
    let p = c.args.plan.now in
    let graph = c.checked.result.now in
    let schedule = c.schedule.result.now in
    let same = c.checked.ensures.value in
    let is = c.schedule.ensures.value in
    let rows = rows_of (λ z. (goal.SharedSource-dyn g z).CubeSource.seen z.1) c.args.catalogue.now in
    let after = rows_of (λ z. (goal.SharedSource-dyn g z).CubeSource.seen z.1) c.settle.new.catalogue in
    of_plan (λ g s. HasRead g 0 rows after c.settle.result) p graph schedule same is c.settle.ensures.read
