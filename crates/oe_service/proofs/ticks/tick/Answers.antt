use Rattle.std.proofs.Common.{◌≡◌, is_some, rules, true, w64}
use Rattle.std.proofs.lemmas.Int.{to_z-of_z}
use Rattle.oe_jobs.specs.Events.{running_job}
use Rattle.oe_jobs.specs.Plain.{plain_book}
use Rattle.oe_sources.specs.CatalogueRows.{rows_of}
use Rattle.oe_service.proofs.DueLemmas.{finished, none_missing}
use Rattle.oe_service.proofs.ServiceLemmas.{some_of}
use Rattle.oe_service.proofs.ticks.tick.Goals as goal

pub returns-then-is_none : goal.returns-then-is_none
returns-then-is_none g c =
    let rows = rows_of (λ z. (goal.SharedSource-dyn g z).CubeSource.seen z.1) c.args.catalogue.now in
    rw (to_z-of_z w64 c.args.now c.ranges.now) at (c.start.ensures rows (g.P.Store.bytes c.args.spool.now)
    (g.P.Store.faults c.args.spool.now))

pub returns-then-misses_asset : goal.returns-then-misses_asset
returns-then-misses_asset g c =
    rw (to_z-of_z w64 c.args.now c.ranges.now) at (c.plan.ensures (g.P.Store.bytes c.args.spool.now)
    (g.P.Store.faults c.args.spool.now))

pub returns-else-misses_asset : goal.returns-else-misses_asset
returns-else-misses_asset g c =
    let s = c.args.service.now in
    let runs : is_some (running_job (plain_book s.book)) ≡ true = search rules in
    let job = some_of (running_job (plain_book s.book)) runs in
    let steps = rw (to_z-of_z w64 c.args.now c.ranges.now) at c.finish.ensures in
    finished s c.finish.new.service c.requires.service.valid job.0 job.1 c.args.now _ c.in-None.is _ _ _ _ _ _ _ _
    (none_missing (running_job (plain_book s.book)) job.0 job.1 c.misses_asset.result c.if-misses_asset.false
    c.misses_asset.ensures) steps

pub returns-then-done-chunks : goal.returns-then-done-chunks
returns-then-done-chunks g c = rw (to_z-of_z w64 c.args.now c.ranges.now) at c.round.ensures

pub returns-else-done-chunks : goal.returns-else-done-chunks
returns-else-done-chunks g c =
    let rows = rows_of (λ z. (goal.SharedSource-dyn g z).CubeSource.seen z.1) c.args.catalogue.now in
    rw (to_z-of_z w64 c.args.now c.ranges.now) at (c.store.ensures rows c.requires.service.going)
