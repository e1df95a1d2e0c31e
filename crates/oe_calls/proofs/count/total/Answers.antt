use Rattle.std.proofs.Common.{◌≡◌, ◌+◌, ◌≤◌, ℕ, List, min, map, drop, length, ap, arith}
use Rattle.std.proofs.lemmas.List.{at_drop_all}
use Rattle.oe_graph.specs.Plain.{plain_nodes, plain_stored}
use Rattle.oe_graph.specs.declared.tree.Node.{Node}
use Rattle.oe_calls.specs.NodeCounts.{count_with, enough}
use Rattle.oe_calls.proofs.count.total.Goals as goal

pub returns : goal.returns
returns c size is =
    let stored = map plain_stored c.args.stored.now in
    let ns = c.deref-node-items.result.now in
    let i = c.loop-node.node-index in
    let past : length ns ≤ i = omega (arith, c.loop-node-test.false) in
    let none : count_with stored size (plain_nodes (drop i ns)) ≡ 0 =
    at_drop_all (λ (ms : List Node). count_with stored size (plain_nodes ms)) ns i past in
    let whole : count_with stored size (plain_nodes ns) ≡ count_with stored size (plain_nodes c.args.nodes.now.items) =
    ap (λ (ms : List Node). count_with stored size (plain_nodes ms)) c.deref-node-items.ensures.value in
    let here : min enough (count_with stored size (plain_nodes ns)) ≡ min enough (c.loop-node.total + count_with stored size (plain_nodes (drop i ns))) =
    c.loop-node.invariant.1 size is in
    let few : c.loop-node.total ≤ enough = c.loop-node.invariant.0 in
    omega arith
