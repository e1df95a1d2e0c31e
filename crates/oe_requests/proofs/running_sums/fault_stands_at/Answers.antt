use Rattle.std.proofs.Common.{sym, ap, ◌∙◌, arith, is_none}
use Rattle.oe_graph.specs.Plain.{plain_node}
use Rattle.oe_graph.specs.declared.tree.Node.{Node}
use Rattle.oe_requests.specs.RunningSums.{running_sum_at}
use Rattle.oe_requests.proofs.RunningSumLemmas.{same_node, known_is, links_count, link_is, of_unknown, of_sums}
use Rattle.oe_requests.proofs.running_sums.fault_stands_at.Goals as goal

pub returns-then-not-index : goal.returns-then-not-index
returns-then-not-index c = λ n at.
    let ns = c.args.nodes.now.items in
    let i = c.args.index in
    let known = c.index-2.result.now in
    of_unknown ns i n at (sym (known_is ns i n at c.args.references.now.known.items known c.requires.known c.index-2.ensures) ∙ c.if-not-index.true)

pub index-requires-3 : goal.index-requires-3
index-requires-3 c =
    let long = links_count c.args.nodes.now.items c.args.references.now.links.items c.requires.graph in
    omega (arith, long, c.requires.within, c.args.references.now.links.ok.0, c.args.nodes.now.ok.0)

pub returns : goal.returns
returns c = λ n at.
    let ns = c.args.nodes.now.items in
    let i = c.args.index in
    let known = c.index-2.result.now in
    let link = c.index-3.result.now in
    let same = same_node ns i n at c.index.result.now c.index.ensures in
    of_sums ns i n at c.are_sums.result c.as_slice.result.now
    (sym (ap (λ (m : Node). is_none (running_sum_at (plain_node m))) same) ∙ (sym c.is_other.ensures ∙ c.if-not-is_other.false))
    (sym (known_is ns i n at c.args.references.now.known.items known c.requires.known c.index-2.ensures) ∙ c.if-not-index.false)
    (c.as_slice.ensures.value ∙ link_is ns i n at c.args.references.now.links.items link c.requires.graph c.index-3.ensures)
    c.are_sums.ensures
