use Rattle.std.proofs.Common.{◌≡◌, Some, None, sym, ap, ◌∙◌, Bor}
use Rattle.std.specs.Option.{option_map}
use Rattle.oe_dims.specs.declared.text.Text.{Text}
use Rattle.oe_plan.specs.Schedules.{node_at}
use Rattle.oe_check.specs.Checked.{collection_of_node}
use Rattle.oe_sources.specs.Catalogue.{row_index}
use Rattle.oe_sources.specs.CatalogueRows.{rows_of}
use Rattle.oe_steps.proofs.LoadLemmas.{id_of_load}
use Rattle.oe_steps.proofs.PlaneLemmas.{place_is, some_place}
use Rattle.oe_steps.proofs.loading.place_of.Goals as goal

pub unreachable-requires : goal.unreachable-requires
unreachable-requires g c =
    let graph = c.args.checked.now in
    let schedule = c.args.schedule.now in
    let rows = rows_of (λ z. (goal.SharedSource-dyn g z).CubeSource.seen z.1) c.args.catalogue.now in
    let id : collection_of_node graph (node_at schedule c.args.step) ≡ Some c.in-Some.id.now =
    ap (λ n. collection_of_node graph n) (sym c.node-node.ensures)
    ∙ (sym c.collection.ensures ∙ ap (λ o. option_map (λ (t : Bor Text). t.now) o) c.in-Some.is) in
    some_place graph schedule c.requires.schedule rows c.requires.mounted c.args.step c.requires.step c.in-Some.id.now id
    (ap (row_index rows) (sym c.as_str.ensures) ∙ sym c.in-None-place.ensures.index)

pub unreachable-requires-in-None : goal.unreachable-requires-in-None
unreachable-requires-in-None g c =
    let graph = c.args.checked.now in
    let schedule = c.args.schedule.now in
    let id = id_of_load graph schedule c.requires.schedule c.args.step c.requires.step c.requires.load in
    let wrong : None ≡ Some id.0 =
    ap (λ o. option_map (λ (t : Bor Text). t.now) o) (sym c.in-None.is) ∙ (c.collection.ensures
    ∙ (ap (λ n. collection_of_node graph n) c.node-node.ensures ∙ id.1)) in
    absurd cc

pub returns : goal.returns
returns g c =
    let graph = c.args.checked.now in
    let schedule = c.args.schedule.now in
    let rows = rows_of (λ z. (goal.SharedSource-dyn g z).CubeSource.seen z.1) c.args.catalogue.now in
    let id : collection_of_node graph (node_at schedule c.args.step) ≡ Some c.in-Some.id.now =
    ap (λ n. collection_of_node graph n) (sym c.node-node.ensures)
    ∙ (sym c.collection.ensures ∙ ap (λ o. option_map (λ (t : Bor Text). t.now) o) c.in-Some.is) in (
      c.in-Some.id.now,
      id,
      place_is graph schedule c.requires.schedule rows c.requires.mounted c.args.step c.requires.step c.in-Some.id.now id c.in-Some-place.place
          (ap (row_index rows) (sym c.as_str.ensures) ∙ sym c.in-Some-place.ensures.index),
    )
