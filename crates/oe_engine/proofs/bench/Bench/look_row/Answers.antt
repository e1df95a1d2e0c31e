use Rattle.std.proofs.Common.{◌∙◌, List, OnOk, length, take, sym, ap, subst, arith}
use Rattle.std.proofs.lemmas.Grind.{common_steps}
use Rattle.oe_cell.specs.declared.cell.Cell.{Cell}
use Rattle.oe_sources.specs.CatalogueRows.{rows_of}
use Rattle.oe_window.specs.Windows.{span_length}
use Rattle.oe_engine.specs.Benches.{node_at}
use Rattle.oe_steps.specs.Loads.{AreLoaded}
use Rattle.oe_steps.proofs.BufferLemmas.{with_items_is}
use Rattle.oe_engine.proofs.bench.Bench.look_row.Goals as goal

pub look_front-requires-clause-row : goal.look_front-requires-clause-row
look_front-requires-clause-row g c = c.requires.row

pub returns-clause-loaded : goal.returns-clause-loaded
returns-clause-loaded g c =
    let p = c.args.plan.now in
    let rows = rows_of (λ z. (goal.SharedSource-dyn g z).CubeSource.seen z.1) c.args.catalogue.now in
    let width = span_length c.args.row.now.x in
    let cells = c.look_front.new.cells in
    let long = c.look_front.auto.cells ∙ ap length c.deref_mut.ensures.value in
    subst (λ (xs : List Cell). OnOk c.look_front.result (AreLoaded p.graph rows (node_at p c.args.step) c.args.row.now (take width xs)))
    (sym (with_items_is c.self.inside.scratch cells long)) c.look_front.ensures.loaded

pub returns-clause-scratch : goal.returns-clause-scratch
returns-clause-scratch g c = grind (arith, common_steps) steps 2000000
