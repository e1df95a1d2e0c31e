use Rattle.std.proofs.Common.{◌≡◌, true, false, List, sym, ap, ◌∙◌}
use Rattle.oe_dims.proofs.OrderLemmas.{same_name-bytes_eq}
use Rattle.oe_dims.specs.Names.{same_name}
use Rattle.oe_graph.specs.Plain.{plain_node, plain_nodes}
use Rattle.oe_graph.specs.declared.tree.Node.{Node}
use Rattle.oe_expr.proofs.StateLemmas.{plain_id}
use Rattle.oe_expr.specs.Nodes.{node_named}
use Rattle.oe_explain.proofs.NodeLemmas.{other_node, this_node}
use Rattle.oe_explain.proofs.at_fault.node_named.Goals as goal

pub returns-then-eq : goal.returns-then-eq
returns-then-eq c =
    let id = c.args.id.now in
    let xs : List Node = c.deref-node-items.result.now in
    let n : Node = c.node-item.result in
    let test = rw c.as_str.ensures at c.eq.ensures ∙ same_name-bytes_eq n.id id in
    let named : same_name (plain_node n).id id ≡ true = ap (λ x. same_name x id) (plain_id n) ∙ (sym test ∙ c.if-eq.true) in
    sym (this_node id xs c.loop-node.node-index n c.loop-node-test.true c.node-item.is named)
    ∙ (c.loop-node.invariant ∙ ap (λ ys. node_named id (plain_nodes ys)) c.deref-node-items.ensures.value)

pub loop-node-preserved : goal.loop-node-preserved
loop-node-preserved c =
    let id = c.args.id.now in
    let xs : List Node = c.deref-node-items.result.now in
    let n : Node = c.node-item.result in
    let test = rw c.as_str.ensures at c.eq.ensures ∙ same_name-bytes_eq n.id id in
    let named : same_name (plain_node n).id id ≡ false = ap (λ x. same_name x id) (plain_id n) ∙ (sym test ∙ c.if-eq.false) in
    sym (other_node id xs c.loop-node.node-index n c.loop-node-test.true c.node-item.is named)
    ∙ c.loop-node.invariant
