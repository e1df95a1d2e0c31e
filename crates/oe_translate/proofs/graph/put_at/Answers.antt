use Rattle.std.proofs.Common.{◌<◌, length, refl, ap, sym, subst, arith}
use Rattle.oe_graph.specs.Plain.{plain_node, plain_nodes}
use Rattle.oe_graph.specs.Printed.{node_count}
use Rattle.oe_graph.specs.Tree.{Nodes}
use Rattle.oe_expr.proofs.StateLemmas.{count_plain}
use Rattle.oe_graph.specs.States.{IsNodeAt}
use Rattle.oe_check.proofs.LinkLemmas.{node_read}
use Rattle.oe_translate.proofs.GraphLemmas.{one_more}
use Rattle.oe_translate.proofs.graph.put_at.Goals as goal

pub index-requires : goal.index-requires
index-requires c =
    let count = count_plain c.args.nodes.now.items in
    let same = ap node_count c.requires.same in
    let below = c.requires.below in
    let ok = c.args.nodes.now.ok in
    omega (arith, ok)

pub put_translated-requires-clause-there : goal.put_translated-requires-clause-there
put_translated-requires-clause-there c =
    let count = count_plain c.args.nodes.now.items in
    let same = ap node_count c.requires.same in
    let below = c.requires.below in
    let within : c.args.index < length c.args.nodes.now.items = omega arith in
    subst (λ (ns : Nodes). IsNodeAt ns c.args.index (plain_node c.index.result.now)) (sym c.requires.same)
    (node_read c.args.nodes.now.items c.args.index c.index.result.now within c.index.ensures)

pub returns : goal.returns
returns c = λ before.
    let graph = c.args.checked.now in
    let count = count_plain c.args.nodes.now.items in
    let same = ap node_count c.requires.same in
    let below = c.requires.below in
    let within : c.args.index < length c.args.nodes.now.items = omega arith in
    let there = subst (λ (ns : Nodes). IsNodeAt ns c.args.index (plain_node c.index.result.now)) (sym c.requires.same)
    (node_read c.args.nodes.now.items c.args.index c.index.result.now within c.index.ensures) in
    one_more graph.rows graph.nodes c.args.index _ (plain_node c.index.result.now) (plain_nodes c.args.found.now.items) _ refl there before c.in_ok-put_translated.ensures
