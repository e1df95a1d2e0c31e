use Rattle.std.proofs.Common.{◌≡◌, ◌<◌, ℕ, List, true, Some, length}
use Rattle.oe_plan.specs.Schedules.{IsSchedule, node_at}
use Rattle.oe_plan.proofs.ScheduleLemmas.{plan_schedule}
use Rattle.oe_check.specs.Checked.{collection_of_node}
use Rattle.oe_sources.specs.CatalogueRows.{rows_of}
use Rattle.oe_steps.specs.Collections.{HasCollections, IsMountedAt}
use Rattle.oe_steps.specs.Steps.{loads_at}
use Rattle.oe_engine.proofs.ScheduleLemmas.{as_read, of_plan}
use Rattle.oe_engine.proofs.steps.place_of.Goals as goal

pub place_of-requires-clause-schedule : goal.place_of-requires-clause-schedule
place_of-requires-clause-schedule g c =
    let p = c.args.plan.now in
    let graph = c.checked.result.now in
    let schedule = c.schedule.result.now in
    let same = c.checked.ensures.value in
    let is = c.schedule.ensures.value in
    as_read (λ g s. IsSchedule g s) p graph schedule same is (plan_schedule p c.schedule.ensures.valid)

pub place_of-requires-clause-step : goal.place_of-requires-clause-step
place_of-requires-clause-step g c =
    let p = c.args.plan.now in
    let graph = c.checked.result.now in
    let schedule = c.schedule.result.now in
    let same = c.checked.ensures.value in
    let is = c.schedule.ensures.value in
    as_read (λ g s. c.args.step < length s.order.steps) p graph schedule same is c.requires.step

pub place_of-requires-clause-load : goal.place_of-requires-clause-load
place_of-requires-clause-load g c =
    let p = c.args.plan.now in
    let graph = c.checked.result.now in
    let schedule = c.schedule.result.now in
    let same = c.checked.ensures.value in
    let is = c.schedule.ensures.value in
    as_read (λ g s. loads_at g s c.args.step ≡ true) p graph schedule same is c.requires.load

pub place_of-requires-clause-mounted : goal.place_of-requires-clause-mounted
place_of-requires-clause-mounted g c =
    let p = c.args.plan.now in
    let graph = c.checked.result.now in
    let schedule = c.schedule.result.now in
    let same = c.checked.ensures.value in
    let is = c.schedule.ensures.value in
    let rows = rows_of (λ z. (goal.SharedSource-dyn g z).CubeSource.seen z.1) c.args.catalogue.now in
    as_read (λ g s. HasCollections g rows) p graph schedule same is c.requires.mounted

pub returns : goal.returns
returns g c =
    let p = c.args.plan.now in
    let graph = c.checked.result.now in
    let schedule = c.schedule.result.now in
    let same = c.checked.ensures.value in
    let is = c.schedule.ensures.value in
    let rows = rows_of (λ z. (goal.SharedSource-dyn g z).CubeSource.seen z.1) c.args.catalogue.now in
    of_plan (λ g s. (id : List ℕ) × (collection_of_node g (node_at s c.args.step) ≡ Some id) × IsMountedAt g rows id c.place_of.result) p graph schedule same is c.place_of.ensures
