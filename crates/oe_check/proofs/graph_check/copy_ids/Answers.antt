use Rattle.std.proofs.Common.{◌≤◌, length, map, sym, ap, ◌∙◌, arith}
use Rattle.std.proofs.lemmas.List.{take_all}
use Rattle.oe_graph.specs.declared.tree.Node.{Node}
use Rattle.oe_check.proofs.LinkLemmas.{ids_plain}
use Rattle.oe_check.proofs.graph_check.copy_ids.Goals as goal

pub returns : goal.returns
returns c =
    let ns = c.deref-node-items.result.now in
    let all : length ns ≤ c.loop-node.node-index = omega (arith, c.loop-node-test.false) in
    c.loop-node.invariant
    ∙ (ap (map (λ (n : Node). n.id)) (take_all c.loop-node.node-index ns all ∙ c.deref-node-items.ensures.value)
    ∙ sym (ids_plain c.args.nodes.now.items))
