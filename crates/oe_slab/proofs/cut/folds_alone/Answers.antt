use Rattle.std.proofs.Common.{◌<◌, subst, sym, ◌∙◌}
use Rattle.std.proofs.lemmas.Bool.{false≢true}
use Rattle.oe_graph.specs.Printed.{node_count}
use Rattle.oe_slab.proofs.CutLemmas.{lone, none_alone, none_folds, of_run}
use Rattle.oe_slab.proofs.cut.folds_alone.Goals as goal

pub returns-in-Some-clause-lone : goal.returns-in-Some-clause-lone
returns-in-Some-clause-lone c = λ t.
    let graph = c.args.checked.now in
    let at = c.requires.one in
    lone graph c.args.steps.now c.requires.listing c.args.node c.in-Some.field-0
    (subst (λ n. n < node_count graph.nodes) at.2 (c.requires.steps.within at.0 at.1))
    (of_run graph c.args.steps.now c.requires.listing at.0 c.args.node at.1 at.2)
    (sym c.in-Some.ensures) c.requires.whole (c.is_alone.ensures.0 t)

pub returns-in-Some-clause-none : goal.returns-in-Some-clause-none
returns-in-Some-clause-none c = λ f.
    let graph = c.args.checked.now in
    let at = c.requires.one in
    none_alone graph c.args.steps.now c.requires.listing c.args.node
    (of_run graph c.args.steps.now c.requires.listing at.0 c.args.node at.1 at.2) c.requires.whole
    (λ all. false≢true (sym f ∙ c.is_alone.ensures.1 all))

pub returns-in-None-clause-none : goal.returns-in-None-clause-none
returns-in-None-clause-none c = λ _.
    let graph = c.args.checked.now in
    let at = c.requires.one in
    none_folds graph c.args.steps.now c.requires.listing c.args.node
    (of_run graph c.args.steps.now c.requires.listing at.0 c.args.node at.1 at.2) c.requires.whole (sym c.in-None.ensures)
