use Rattle.std.proofs.Common.{sym, ap, subst, ◌∙◌, length}
use Rattle.oe_graph.specs.Printed.{node_count}
use Rattle.oe_order.specs.Graph.{graph_of, RefersWithin, IsAcyclic}
use Rattle.oe_check.specs.Checked.{CheckedGraph}
use Rattle.oe_check.proofs.LinkLemmas.{links_length, refers_within, is_acyclic}
use Rattle.oe_check.proofs.checked.Checked.links.Goals as goal

pub returns-clause-count : goal.returns-clause-count
returns-clause-count c =
    let inside = c.self.inside in
    let count = links_length _ inside.links.items c.self.invariant.links_are in
    ap length c.deref.ensures.value ∙ (count ∙ ap (λ (g : CheckedGraph). node_count g.nodes) c.self.view_is)

pub returns-clause-named : goal.returns-clause-named
returns-clause-named c =
    let k = c.self.invariant in
    subst RefersWithin (sym (ap graph_of c.deref.ensures.value ∙ k.links_are)) (refers_within _ k.resolved)

pub returns-clause-acyclic : goal.returns-clause-acyclic
returns-clause-acyclic c =
    let k = c.self.invariant in
    subst IsAcyclic (sym (ap graph_of c.deref.ensures.value ∙ k.links_are)) (is_acyclic _ k.resolved)
