use Rattle.std.proofs.Common.{◌≡◌, ◌≤◌, ◌*◌, ◌∙◌, ℕ, None, Some, sym, ap, subst, arith}
use Rattle.std.proofs.lemmas.Option.{get_or_from_slice_get}
use Rattle.oe_order.specs.Graph.{graph_of}
use Rattle.oe_plan.specs.Figures.{most_held_cells}
use Rattle.oe_plan.specs.Steps.{arguments_of_node}
use Rattle.oe_check.specs.Links.{links_of}
use Rattle.oe_slab.specs.Figures.{taken_by}
use Rattle.oe_slab.specs.Schedules.{IsOrderAlong}
use Rattle.oe_slab.proofs.CutLemmas.{width_there}
use Rattle.oe_slab.proofs.FoldLemmas.{fold_takes}
use Rattle.oe_slab.proofs.ScheduleLemmas.{are_schedules, order_there, same_schedules, slot_small}
use Rattle.oe_slab.proofs.schedules.schedules_of.Goals as goal

pub argument_of-taken-requires-clause-number : goal.argument_of-taken-requires-clause-number
argument_of-taken-requires-clause-number c =
    let lone = c.requires.cut.lone in
    let one = fold_takes c.args.checked.now c.nodes-count.ensures.faultless c.args.fold lone.within (lone.reducer, lone.ignores_nulls) lone.folds in
    omega (arith, one)

pub overflow_cast-sizes : goal.overflow_cast-sizes
overflow_cast-sizes c =
    let graph = c.args.checked.now in
    let order = c.in_ok-before.before in
    let small = slot_small (links_of graph.nodes) (taken_by graph c.args.fold) order c.args.sizes.slab most_held_cells
    c.in_ok-before.ensures.along
    (subst (λ (w : ℕ). w * c.args.sizes.slab ≤ most_held_cells) (sym c.in_ok-before.ensures.width) c.requires.slab) in
    omega (arith, small)

pub returns : goal.returns
returns c = λ size slab_is plane_is.
    let graph = c.args.checked.now in
    let fold = c.args.fold in
    let cut = c.requires.cut in
    let nodes = graph_of c.links.result.now in
    let before = c.in_ok-before.before in
    let behind = c.in_ok-behind.behind in
    let last_is = c.result-last.ensures.value in
    let taken_is : c.argument_of-taken.result ≡ taken_by graph fold =
    sym (get_or_from_slice_get (arguments_of_node graph fold) 0 c.argument_of-taken.result 0 c.argument_of-taken.ensures.value) in
    let before_is : IsOrderAlong (links_of graph.nodes) (taken_by graph fold) before =
    c.in_ok-before.ensures.along in
    let small = slot_small (links_of graph.nodes) (taken_by graph fold) before c.args.sizes.slab most_held_cells before_is
    (subst (λ (w : ℕ). w * c.args.sizes.slab ≤ most_held_cells) (sym c.in_ok-before.ensures.width) c.requires.slab) in
    same_schedules graph size fold
    (record { last = graph.result; given = None; order = c.args.whole; largest = 0 })
    (record { last = taken_by graph fold; given = None; order = before; largest = c.args.sizes.slab })
    (record { last = graph.result; given = Some fold; order = behind; largest = c.args.sizes.plane })
    c.new.result c.new-2.result c.new-3.result
    (c.new.ensures ∙ ap (λ (n : ℕ). record { last = n; given = None; order = c.args.whole; largest = 0 }) last_is)
    (c.new-2.ensures ∙ ap (λ (n : ℕ). record { last = n; given = None; order = before; largest = c.args.sizes.slab }) taken_is)
    (c.new-3.ensures ∙ ap (λ (n : ℕ). record { last = n; given = Some fold; order = behind; largest = c.args.sizes.plane }) last_is)
    (are_schedules graph c.nodes-count.ensures.faultless fold cut size c.args.whole before behind
    c.requires.along c.requires.order before_is c.in_ok-before.ensures.steps c.in_ok-before.ensures.width
    (order_there graph fold nodes c.result-last.result behind c.links.ensures.links last_is c.in_ok-behind.ensures.along)
    (width_there graph fold nodes c.result-last.result behind.steps c.links.ensures.links last_is behind.width c.in_ok-behind.ensures.steps c.in_ok-behind.ensures.width)
    c.args.sizes.slab c.args.sizes.plane small c.requires.plane slab_is plane_is)
