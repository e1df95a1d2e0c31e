use Rattle.std.proofs.Common.{◌≡◌, ◌+◌, ◌≤◌, List, map, drop, length, ap, arith}
use Rattle.std.proofs.lemmas.List.{at_drop_all}
use Rattle.oe_graph.specs.Plain.{plain_node, plain_nodes, plain_stored}
use Rattle.oe_graph.specs.declared.tree.Node.{Node}
use Rattle.oe_calls.specs.Calls.{callee}
use Rattle.oe_calls.specs.Sizes.{opened_bare, round_bare}
use Rattle.oe_calls.proofs.BareLemmas.{opened_parts}
use Rattle.oe_calls.proofs.SizeLemmas.{size_next}
use Rattle.oe_calls.proofs.sizes.round_bare_left.Goals as goal

pub returns : goal.returns
returns c =
    let m = c.args.measure in
    let stored = map plain_stored c.args.stored.now in
    let xs = c.deref-node-items.result.now in
    let i = c.loop-node.node-index in
    let past : length xs ≤ i = omega (arith, c.loop-node-test.false) in
    let none : round_bare m stored (plain_nodes (drop i xs)) ≡ 0 =
    at_drop_all (λ (ys : List Node). round_bare m stored (plain_nodes ys)) xs i past in
    let whole : round_bare m stored (plain_nodes xs) ≡ round_bare m stored (plain_nodes c.args.nodes.now.items) =
    ap (λ (ys : List Node). round_bare m stored (plain_nodes ys)) c.deref-node-items.ensures.value in
    omega (arith, none, whole, c.loop-node.invariant)

pub loop-node-preserved : goal.loop-node-preserved
loop-node-preserved c =
    let m = c.args.measure in
    let stored = map plain_stored c.args.stored.now in
    let xs = c.deref-node-items.result.now in
    let i = c.loop-node.node-index in
    let n : Node = c.node-item.result in
    let rest = round_bare m stored (plain_nodes (drop (i + 1) xs)) in
    let next : round_bare m stored (plain_nodes (drop i xs))
    ≡ opened_bare m (plain_node n).id (plain_node n).process_id (callee stored (plain_node n).namespace (plain_node n).process_id) + rest =
    size_next (λ (ys : List Node). round_bare m stored (plain_nodes ys)) xs i n c.loop-node-test.true c.node-item.is in
    let parts = opened_parts m stored n in
    let here : c.loop-node.left ≡ c.in_ok-left.left + opened_bare m n.id n.process_id (callee stored n.namespace n.process_id) =
    c.in_ok-left.ensures in
    omega (arith, next, parts, here, c.loop-node.invariant)
