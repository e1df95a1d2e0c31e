use Rattle.std.proofs.Common.{Option, sym, ap, ◌∙◌}
use Rattle.std.proofs.lemmas.Bool.{eqb-false, true_from_ne_false}
use Rattle.oe_order.specs.Graph.{is_load}
use Rattle.oe_plan.specs.Schedules.{links_given}
use Rattle.oe_check.specs.Links.{links_of}
use Rattle.oe_plan.proofs.ScheduleLemmas.{load_elsewhere, load_where_given}
use Rattle.oe_steps.proofs.RunLemmas.{links_counted}
use Rattle.oe_steps.proofs.run.counts_as_load.Goals as goal

pub returns-then-given-node : goal.returns-then-given-node
returns-then-given-node c =
    let graph = c.args.checked.now in
    let nodes = links_of graph.nodes in
    let here = c.if-given-node.true in
    true_from_ne_false _ (λ e. eqb-false c.in-Some.given c.args.node e here)
    ∙ sym (ap (λ (o : Option _). is_load (links_given nodes o) c.args.node) (sym c.given.ensures ∙ c.in-Some.is)
    ∙ load_where_given nodes c.in-Some.given c.args.node (links_counted graph c.args.node c.requires) (sym here))

pub returns-else-given-node : goal.returns-else-given-node
returns-else-given-node c =
    let nodes = links_of c.args.checked.now.nodes in
    let other = c.if-given-node.false in
    c.loads_collection.ensures
    ∙ sym (ap (λ (o : Option _). is_load (links_given nodes o) c.args.node) (sym c.given.ensures ∙ c.in-Some.is)
    ∙ load_elsewhere nodes c.in-Some.given c.args.node (λ e. other (sym e)))

pub returns-in-None : goal.returns-in-None
returns-in-None c =
    let nodes = links_of c.args.checked.now.nodes in
    c.loads_collection-in-None.ensures
    ∙ sym (ap (λ (o : Option _). is_load (links_given nodes o) c.args.node) (sym c.given.ensures ∙ c.in-None.is))
