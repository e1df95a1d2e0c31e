use Rattle.std.proofs.Common.{◌∙◌}
use denote.Param.Object.{Vt, ghosts_of}
use denote.Param.Send.{IsSync, sendable, shr_sync}
use mir.Syntax.{named}
use Rattle.oe_plan.specs.contracts.plan.Plan as plan
use Rattle.oe_sources.specs.CatalogueRows.{rows_of}
use Rattle.oe_sources.specs.contracts.catalogue.Catalogue as catalogue
use Rattle.oe_engine.specs.contracts.loading.load_in_threads.dyn-1 as shared
use Rattle.oe_engine.proofs.CrossLemmas.{catalogue_sync, plan_sync}
use Rattle.oe_engine.proofs.loading.load_in_threads.Goals as goal

-- the function borrows a plan and a catalogue
pub load_pieces-requires-sync-F : goal.load_pieces-requires-sync-F
load_pieces-requires-sync-F g c κs within =
    let D = Vt (shared.slots g.row.R) g.dyn-1.0 in
    let ghosts = ghosts_of (shared.slots g.row.R) g.dyn-1.0 g.dyn-1.1 in
    let table : IsSync D = search sendable in
    let of_plan = shr_sync (named 7) κs.1.1.1.1.1.1.1.0 plan.the_row plan_sync in
    let of_catalogue = shr_sync (named 8) κs.1.1.1.1.1.1.1.1.0 (catalogue.the_row D ghosts) (catalogue_sync D ghosts g.dyn-1.3 table) in
    record { shared = λ x b o κ. ((of_plan.shared x.0 b o κ, (of_catalogue.shared x.1 b o κ, tt)), λ q. tt) }

pub load_pieces-requires-clause-load : goal.load_pieces-requires-clause-load
load_pieces-requires-clause-load g c κs within = λ first own benches are most asked.
    (are, most, record { enough = asked.enough; own = asked.own ∙ c.requires.asked.own }, c.requires.mounted)

pub load_pieces-requires-clause-asked : goal.load_pieces-requires-clause-asked
load_pieces-requires-clause-asked g c κs within = c.requires.asked.enough

pub returns : goal.returns
returns g c =
    let rows = rows_of (λ z. (goal.SharedSource-dyn g z).CubeSource.seen z.1) c.args.catalogue.now in
    c.load_pieces.ensures.loads rows (λ first own old new result loads. loads.1)
