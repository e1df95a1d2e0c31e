use Rattle.std.proofs.Common.{refl, ◌∙◌}
use Rattle.std.proofs.lemmas.Bool.{false≢true}
use Rattle.oe_order.specs.Graph.{graph_of}
use Rattle.oe_slab.proofs.CutLemmas.{cut_found, cut_lost, width_there}
use Rattle.oe_slab.proofs.cut.width_of_behind.Goals as goal

pub returns-then-not-loads_nothing-clause-none : goal.returns-then-not-loads_nothing-clause-none
returns-then-not-loads_nothing-clause-none c =
    cut_lost c.args.checked.now c.args.fold (graph_of c.links-links.result.now) c.result.result c.in_ok-behind.behind.steps
    c.links-links.ensures.links c.result.ensures.value c.requires.lone c.steps.result.now c.steps.ensures c.in_ok-behind.ensures.along.listing
    (λ all. false≢true (c.if-not-loads_nothing.ensures.1 all))

pub returns-clause-cut : goal.returns-clause-cut
returns-clause-cut c =
    cut_found c.args.checked.now c.args.fold (graph_of c.links-links.result.now) c.result.result c.in_ok-behind.behind.steps
    c.links-links.ensures.links c.result.ensures.value c.requires.lone c.steps.result.now c.steps.ensures c.in_ok-behind.ensures.along.listing
    (c.if-not-loads_nothing.ensures.0 refl)

pub returns-clause-width : goal.returns-clause-width
returns-clause-width c =
    c.width.ensures
    ∙ width_there c.args.checked.now c.args.fold (graph_of c.links-links.result.now) c.result.result c.in_ok-behind.behind.steps
    c.links-links.ensures.links c.result.ensures.value c.in_ok-behind.behind.width c.in_ok-behind.ensures.steps c.in_ok-behind.ensures.width
