use Rattle.std.proofs.Common.{Ok, false, refl}
use Rattle.oe_sources.specs.CatalogueRows.{rows_of}
use Rattle.oe_steps.proofs.PlaneLemmas.{settled}
use Rattle.oe_steps.proofs.StepLoadLemmas.{mounted_for}
use Rattle.oe_steps.proofs.ReadLemmas.{AreRead-refl}
use Rattle.oe_steps.proofs.loading.ask.Goals as goal

pub ask-requires-clause-mounted : goal.ask-requires-clause-mounted
ask-requires-clause-mounted g c = c.place_of-place.ensures.2.within

pub returns-clause-counted : goal.returns-clause-counted
returns-clause-counted g c =
    let at = c.place_of-place.ensures in
    record { id = at.0; index = c.place_of-place.result; loads = at.1; mounted = at.2; counts = c.ask.ensures.asked }

pub returns-clause-asked : goal.returns-clause-asked
returns-clause-asked g c =
    let graph = c.args.checked.now in
    let schedule = c.args.schedule.now in
    let rows = rows_of (λ z. (goal.SharedSource-dyn g z).CubeSource.seen z.1) c.args.catalogue.now in
    let after = rows_of (λ z. (goal.SharedSource-dyn g z).CubeSource.seen z.1) c.ask.new.self in
    let at = c.place_of-place.ensures in
    let place = c.place_of-place.result in
    settled graph schedule c.requires.schedule rows c.args.step c.requires.step c.requires.load place
    (mounted_for graph schedule rows rows c.args.step place at.0 at.1 at.2 (AreRead-refl rows))
    c.args.cells after false (Ok tt) refl tt c.ask.ensures.asked
