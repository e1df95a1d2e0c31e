use Rattle.std.proofs.Common.{◌*◌}
use Rattle.oe_sources.specs.CatalogueRows.{rows_of}
use Rattle.oe_steps.proofs.ReadLemmas.{has_refused}
use Rattle.oe_slab.specs.Schedules.{load_count}
use Rattle.oe_slab.proofs.evaluate.evaluate_part.Goals as goal

pub returns-in_err-load_all-clause-read : goal.returns-in_err-load_all-clause-read
returns-in_err-load_all-clause-read g c =
    let schedule = c.args.schedule.now in
    let before = rows_of (λ z. (goal.SharedSource-dyn g z).CubeSource.seen z.1) c.args.catalogue.now in
    let after = rows_of (λ z. (goal.SharedSource-dyn g z).CubeSource.seen z.1) c.load_all.new.catalogue in
    has_refused c.args.checked.now (load_count c.args.checked.now schedule * schedule.largest) before after c.in_err-load_all.field-0.0 c.from_residual.result c.from_residual.ensures.1
    c.in_err-load_all.ensures.read

pub returns-clause-value : goal.returns-clause-value
returns-clause-value g c = λ collections of shows. c.evaluate_steps.ensures.value collections of (c.in_ok-load_all.ensures.value collections of shows)
