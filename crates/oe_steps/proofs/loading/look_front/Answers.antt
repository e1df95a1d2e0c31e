use Rattle.std.proofs.Common.{◌≡◌, ◌≤◌, ◌∙◌, List, OnOk, length, drop, sym, subst, arith}
use Rattle.std.proofs.lemmas.List.{length-take-le}
use Rattle.oe_cell.specs.declared.cell.Cell.{Cell}
use Rattle.oe_plan.specs.Schedules.{node_at}
use Rattle.oe_sources.specs.CatalogueRows.{rows_of}
use Rattle.oe_window.specs.Windows.{span_length}
use Rattle.oe_steps.proofs.BufferLemmas.{take_front}
use Rattle.oe_steps.specs.Loads.{AreLoaded}
use Rattle.oe_steps.proofs.loading.look_front.Goals as goal

pub returns-clause-loaded : goal.returns-clause-loaded
returns-clause-loaded g c =
    let graph = c.args.checked.now in
    let schedule = c.args.schedule.now in
    let rows = rows_of (λ z. (goal.SharedSource-dyn g z).CubeSource.seen z.1) c.args.catalogue.now in
    let width = span_length c.args.row.now.x in
    let count = c.saturating_sub-count.result in
    let cells = c.args.cells.now in
    let into = c.look_plane.new.into in
    let fits : count ≤ length cells = omega (arith, c.requires.room, c.saturating_sub-count.ensures) in
    let long : length into ≡ width = c.look_plane.auto.into ∙ (length-take-le count cells fits ∙ c.saturating_sub-count.ensures) in
    subst (λ (xs : List Cell). OnOk c.look_plane.result (AreLoaded graph rows (node_at schedule c.args.step) c.args.row.now xs))
    (sym (take_front into (drop count cells) width long)) c.look_plane.ensures.loaded

pub look_plane-requires-clause-plane : goal.look_plane-requires-clause-plane
look_plane-requires-clause-plane g c = c.requires.row.plane

pub look_plane-requires-clause-room : goal.look_plane-requires-clause-room
look_plane-requires-clause-room g c =
    let count = c.saturating_sub-count.result in
    let cells = c.args.cells.now in
    let fits : count ≤ length cells = omega (arith, c.requires.room, c.saturating_sub-count.ensures) in
    length-take-le count cells fits ∙ (c.saturating_sub-count.ensures ∙ sym c.requires.row.count)

pub look_plane-requires-clause-asked : goal.look_plane-requires-clause-asked
look_plane-requires-clause-asked g c = record { enough = omega (arith, c.requires.asked.enough, c.requires.row.count); own = c.requires.asked.own }

pub returns-clause-spent : goal.returns-clause-spent
returns-clause-spent g c = record { left = omega (arith, c.look_plane.ensures.spent.left, c.requires.row.count); seal = c.look_plane.ensures.spent.seal }
