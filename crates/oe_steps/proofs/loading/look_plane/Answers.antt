use Rattle.std.proofs.Common.{◌≡◌, ◌<◌, replicate, refl, sym, ap, subst, ◌∙◌, arith}
use Rattle.std.proofs.lemmas.Bool.{true≢false}
use Rattle.oe_cell.specs.declared.cell.Cell.TheVariants.{Empty}
use Rattle.oe_graph.specs.Printed.{node_count}
use Rattle.oe_plan.specs.Figures.{shape_of_node}
use Rattle.oe_plan.specs.Schedules.{node_at}
use Rattle.oe_sources.specs.CatalogueRows.{rows_of}
use Rattle.oe_window.specs.Windows.{Holds, IsEmpty, whole_window}
use Rattle.oe_window.specs.declared.window.Window.{Window}
use Rattle.oe_steps.proofs.PlaneLemmas.{at, box_count, box_inside, box_loaded, box_refused, gives_at, nulls_loaded}
use Rattle.oe_steps.proofs.loading.look_plane.Goals as goal

pub shape-shape-requires : goal.shape-shape-requires
shape-shape-requires g c =
    subst (λ n. n < node_count c.args.checked.now.nodes) (sym c.node-node.ensures) (c.requires.schedule.within c.args.step c.requires.plane.load.step_in)

pub shape_of-requires : goal.shape_of-requires
shape_of-requires g c =
    let graph = c.args.checked.now in
    let schedule = c.args.schedule.now in
    let is = c.requires.schedule in
    let rows = rows_of (λ z. (goal.SharedSource-dyn g z).CubeSource.seen z.1) c.args.catalogue.now in
    (at graph schedule is rows c.args.step c.requires.plane.load.step_in c.requires.plane.load.loads c.args.place c.requires.plane.mounted).within

pub source_window-source-requires-clause-within : goal.source_window-source-requires-clause-within
source_window-source-requires-clause-within g c =
    let graph = c.args.checked.now in
    let schedule = c.args.schedule.now in
    let is = c.requires.schedule in
    let rows = rows_of (λ z. (goal.SharedSource-dyn g z).CubeSource.seen z.1) c.args.catalogue.now in
    let shape_is : c.shape-shape.result.now ≡ shape_of_node graph (node_at schedule c.args.step) =
    c.shape-shape.ensures
    ∙ ap (λ n. shape_of_node graph n) c.node-node.ensures in
    subst (λ d. Holds (whole_window d) c.args.plane.now) (sym shape_is) c.requires.plane.within

pub source_window-source-requires-clause-t_in : goal.source_window-source-requires-clause-t_in
source_window-source-requires-clause-t_in g c =
    record { begun = omega arith; before = omega (arith, ap (λ (w : Window). w.t.to) c.requires.plane.one) }

pub source_window-source-requires-clause-band_in : goal.source_window-source-requires-clause-band_in
source_window-source-requires-clause-band_in g c =
    record { begun = omega arith; before = omega (arith, ap (λ (w : Window). w.bands.to) c.requires.plane.one) }

pub returns-then-is_empty-clause-loaded : goal.returns-then-is_empty-clause-loaded
returns-then-is_empty-clause-loaded g c =
    let graph = c.args.checked.now in
    let schedule = c.args.schedule.now in
    let is = c.requires.schedule in
    let rows = rows_of (λ z. (goal.SharedSource-dyn g z).CubeSource.seen z.1) c.args.catalogue.now in
    let shape_is : c.shape-shape.result.now ≡ shape_of_node graph (node_at schedule c.args.step) =
    c.shape-shape.ensures
    ∙ ap (λ n. shape_of_node graph n) c.node-node.ensures in
    let gives = gives_at _ _ _ _ c.args.plane.now _ c.source_window-source.result c.shape_of.ensures.value shape_is c.requires.plane.one c.source_window-source.ensures.plane in
    nulls_loaded graph schedule is rows c.args.step c.requires.plane.load.step_in c.requires.plane.load.loads c.args.place c.requires.plane.mounted c.args.plane.now c.source_window-source.result gives c.requires.plane.within c.shape_of.ensures.sound
    c.clear.new.cells (c.is_empty.ensures.0 c.if-is_empty.true) (c.clear.ensures ∙ ap (λ n. replicate n Empty) c.requires.room)

pub look-requires-clause-mounted : goal.look-requires-clause-mounted
look-requires-clause-mounted g c =
    let graph = c.args.checked.now in
    let schedule = c.args.schedule.now in
    let is = c.requires.schedule in
    let rows = rows_of (λ z. (goal.SharedSource-dyn g z).CubeSource.seen z.1) c.args.catalogue.now in
    (at graph schedule is rows c.args.step c.requires.plane.load.step_in c.requires.plane.load.loads c.args.place c.requires.plane.mounted).within

pub look-requires-clause-inside : goal.look-requires-clause-inside
look-requires-clause-inside g c =
    let graph = c.args.checked.now in
    let schedule = c.args.schedule.now in
    let is = c.requires.schedule in
    let rows = rows_of (λ z. (goal.SharedSource-dyn g z).CubeSource.seen z.1) c.args.catalogue.now in
    let shape_is : c.shape-shape.result.now ≡ shape_of_node graph (node_at schedule c.args.step) =
    c.shape-shape.ensures
    ∙ ap (λ n. shape_of_node graph n) c.node-node.ensures in
    let gives = gives_at _ _ _ _ c.args.plane.now _ c.source_window-source.result c.shape_of.ensures.value shape_is c.requires.plane.one c.source_window-source.ensures.plane in
    box_inside graph schedule is rows c.args.step c.requires.plane.load.step_in c.requires.plane.load.loads c.args.place c.requires.plane.mounted c.args.plane.now c.source_window-source.result gives c.requires.plane.within

pub look-requires-clause-room : goal.look-requires-clause-room
look-requires-clause-room g c =
    let graph = c.args.checked.now in
    let schedule = c.args.schedule.now in
    let is = c.requires.schedule in
    let rows = rows_of (λ z. (goal.SharedSource-dyn g z).CubeSource.seen z.1) c.args.catalogue.now in
    let shape_is : c.shape-shape.result.now ≡ shape_of_node graph (node_at schedule c.args.step) =
    c.shape-shape.ensures
    ∙ ap (λ n. shape_of_node graph n) c.node-node.ensures in
    let gives = gives_at _ _ _ _ c.args.plane.now _ c.source_window-source.result c.shape_of.ensures.value shape_is c.requires.plane.one c.source_window-source.ensures.plane in
    let some : ¬ IsEmpty c.source_window-source.result = λ e. true≢false (sym (c.is_empty.ensures.1 e) ∙ c.if-is_empty.false) in
    c.requires.room ∙ sym (box_count graph schedule is rows c.args.step c.requires.plane.load.step_in c.requires.plane.load.loads c.args.place c.requires.plane.mounted c.args.plane.now c.source_window-source.result gives c.requires.plane.within some)

pub look-requires-clause-asked : goal.look-requires-clause-asked
look-requires-clause-asked g c =
    let graph = c.args.checked.now in
    let schedule = c.args.schedule.now in
    let is = c.requires.schedule in
    let rows = rows_of (λ z. (goal.SharedSource-dyn g z).CubeSource.seen z.1) c.args.catalogue.now in
    let shape_is : c.shape-shape.result.now ≡ shape_of_node graph (node_at schedule c.args.step) =
    c.shape-shape.ensures
    ∙ ap (λ n. shape_of_node graph n) c.node-node.ensures in
    let gives = gives_at _ _ _ _ c.args.plane.now _ c.source_window-source.result c.shape_of.ensures.value shape_is c.requires.plane.one c.source_window-source.ensures.plane in
    let some : ¬ IsEmpty c.source_window-source.result = λ e. true≢false (sym (c.is_empty.ensures.1 e) ∙ c.if-is_empty.false) in
    let count = box_count graph schedule is rows c.args.step c.requires.plane.load.step_in c.requires.plane.load.loads c.args.place c.requires.plane.mounted c.args.plane.now c.source_window-source.result gives c.requires.plane.within some in
    record { enough = omega (arith, c.requires.asked.enough, count); own = c.requires.asked.own }

pub returns-clause-loaded : goal.returns-clause-loaded
returns-clause-loaded g c =
    let graph = c.args.checked.now in
    let schedule = c.args.schedule.now in
    let is = c.requires.schedule in
    let rows = rows_of (λ z. (goal.SharedSource-dyn g z).CubeSource.seen z.1) c.args.catalogue.now in
    let shape_is : c.shape-shape.result.now ≡ shape_of_node graph (node_at schedule c.args.step) =
    c.shape-shape.ensures
    ∙ ap (λ n. shape_of_node graph n) c.node-node.ensures in
    let gives = gives_at _ _ _ _ c.args.plane.now _ c.source_window-source.result c.shape_of.ensures.value shape_is c.requires.plane.one c.source_window-source.ensures.plane in
    let some : ¬ IsEmpty c.source_window-source.result = λ e. true≢false (sym (c.is_empty.ensures.1 e) ∙ c.if-is_empty.false) in
    box_loaded graph schedule is rows c.args.step c.requires.plane.load.step_in c.requires.plane.load.loads c.args.place c.requires.plane.mounted c.args.plane.now c.source_window-source.result gives c.requires.plane.within c.shape_of.ensures.sound
    c.look.new.into c.look.result some c.look.ensures.looks

pub returns-clause-refused : goal.returns-clause-refused
returns-clause-refused g c =
    let graph = c.args.checked.now in
    let schedule = c.args.schedule.now in
    let is = c.requires.schedule in
    let rows = rows_of (λ z. (goal.SharedSource-dyn g z).CubeSource.seen z.1) c.args.catalogue.now in
    let shape_is : c.shape-shape.result.now ≡ shape_of_node graph (node_at schedule c.args.step) =
    c.shape-shape.ensures
    ∙ ap (λ n. shape_of_node graph n) c.node-node.ensures in
    let gives = gives_at _ _ _ _ c.args.plane.now _ c.source_window-source.result c.shape_of.ensures.value shape_is c.requires.plane.one c.source_window-source.ensures.plane in
    box_refused graph schedule is rows c.args.step c.requires.plane.load.step_in c.requires.plane.load.loads c.args.place c.requires.plane.mounted c.args.plane.now c.source_window-source.result gives c.requires.plane.within
    c.look.new.into c.look.result c.look.ensures.looks c.look.ensures.met

pub returns-clause-spent : goal.returns-clause-spent
returns-clause-spent g c =
    let graph = c.args.checked.now in
    let schedule = c.args.schedule.now in
    let is = c.requires.schedule in
    let rows = rows_of (λ z. (goal.SharedSource-dyn g z).CubeSource.seen z.1) c.args.catalogue.now in
    let shape_is : c.shape-shape.result.now ≡ shape_of_node graph (node_at schedule c.args.step) =
    c.shape-shape.ensures
    ∙ ap (λ n. shape_of_node graph n) c.node-node.ensures in
    let gives = gives_at _ _ _ _ c.args.plane.now _ c.source_window-source.result c.shape_of.ensures.value shape_is c.requires.plane.one c.source_window-source.ensures.plane in
    let some : ¬ IsEmpty c.source_window-source.result = λ e. true≢false (sym (c.is_empty.ensures.1 e) ∙ c.if-is_empty.false) in
    let count = box_count graph schedule is rows c.args.step c.requires.plane.load.step_in c.requires.plane.load.loads c.args.place c.requires.plane.mounted c.args.plane.now c.source_window-source.result gives c.requires.plane.within some in
    record { left = omega (arith, c.look.ensures.spent.left, count); seal = c.look.ensures.spent.seal }

pub returns-then-is_empty-clause-spent : goal.returns-then-is_empty-clause-spent
returns-then-is_empty-clause-spent g c = record { left = omega arith; seal = refl }
