use Rattle.std.proofs.Common.{◌≡◌, ◌+◌, ◌≤◌, ℕ, List, drop, length, ap, arith}
use Rattle.std.proofs.lemmas.List.{at_drop_all}
use Rattle.oe_graph.specs.Plain.{plain_node, plain_nodes}
use Rattle.oe_graph.specs.declared.tree.Node.{Node}
use Rattle.oe_calls.specs.Sizes.{size_bare, size_bare_nodes}
use Rattle.oe_calls.proofs.BareLemmas.{bare_parts}
use Rattle.oe_calls.proofs.SizeLemmas.{size_next}
use Rattle.oe_calls.proofs.sizes.bare_nodes_left.Goals as goal

pub returns : goal.returns
returns c =
    let m = c.args.measure in
    let xs = c.deref-node-items.result.now in
    let i = c.loop-node.node-index in
    let past : length xs ≤ i = omega (arith, c.loop-node-test.false) in
    let none : size_bare_nodes m (plain_nodes (drop i xs)) ≡ 0 =
    at_drop_all (λ (ys : List Node). size_bare_nodes m (plain_nodes ys)) xs i past in
    let whole : size_bare_nodes m (plain_nodes xs) ≡ size_bare_nodes m (plain_nodes c.args.nodes.now.items) =
    ap (λ (ys : List Node). size_bare_nodes m (plain_nodes ys)) c.deref-node-items.ensures.value in
    omega (arith, none, whole, c.loop-node.invariant)

pub loop-node-preserved : goal.loop-node-preserved
loop-node-preserved c =
    let m = c.args.measure in
    let xs = c.deref-node-items.result.now in
    let i = c.loop-node.node-index in
    let n : Node = c.node-item.result in
    let rest = size_bare_nodes m (plain_nodes (drop (i + 1) xs)) in
    let next : size_bare_nodes m (plain_nodes (drop i xs))
    ≡ size_bare m (plain_node n).id (plain_node n).process_id + rest =
    size_next (λ (ys : List Node). size_bare_nodes m (plain_nodes ys)) xs i n c.loop-node-test.true c.node-item.is in
    let parts = bare_parts m n in
    let here : c.loop-node.left ≡ c.in_ok-left.left + size_bare m n.id n.process_id =
    c.in_ok-left.ensures in
    omega (arith, next, parts, here, c.loop-node.invariant)
