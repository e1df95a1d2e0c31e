use Rattle.std.proofs.Common.{◌≡◌, ◌+◌, ◌≤◌, ℕ, List, map, drop, length, ap, arith}
use Rattle.std.proofs.lemmas.List.{at_drop_all}
use Rattle.oe_graph.specs.Plain.{plain_args, plain_named, plain_nodes}
use Rattle.oe_graph.specs.declared.tree.Arg.{Arg}
use Rattle.oe_graph.specs.declared.tree.Node.{Node}
use Rattle.oe_calls.specs.Sizes.{size_each, size_named, size_nodes}
use Rattle.oe_calls.proofs.sizes.+plain.Goals as goal

pub nodes_left-returns : goal.nodes_left-returns
nodes_left-returns t c =
    let m = c.args.measure in
    let xs = c.deref-node-items.result.now in
    let i = c.loop-node.node-index in
    let past : length xs ≤ i = omega (arith, c.loop-node-test.false) in
    let none : size_nodes m (plain_nodes (drop i xs)) ≡ 0 =
    at_drop_all (λ (ys : List Node). size_nodes m (plain_nodes ys)) xs i past in
    let whole : size_nodes m (plain_nodes xs) ≡ size_nodes m (plain_nodes c.args.nodes.now.items) =
    ap (λ (ys : List Node). size_nodes m (plain_nodes ys)) c.deref-node-items.ensures.value in
    let here : c.args.budget + size_nodes m (plain_nodes (drop i xs))
    ≡ c.loop-node.left + size_nodes m (plain_nodes xs) =
    c.loop-node.invariant in
    omega (arith, none, whole, here)

pub named_left-returns : goal.named_left-returns
named_left-returns t c =
    let m = c.args.measure in
    let xs = c.deref-member-items.result.now in
    let i = c.loop-member.member-index in
    let past : length xs ≤ i = omega (arith, c.loop-member-test.false) in
    let none : size_named m (plain_named (drop i xs)) ≡ 0 =
    at_drop_all (λ (ys : List (List ℕ × Arg)). size_named m (plain_named ys)) xs i past in
    let whole : size_named m (plain_named xs) ≡ size_named m (plain_named c.args.members.now.items) =
    ap (λ (ys : List (List ℕ × Arg)). size_named m (plain_named ys)) c.deref-member-items.ensures.value in
    let here : c.args.budget + size_named m (plain_named (drop i xs))
    ≡ c.loop-member.left + size_named m (plain_named xs) =
    c.loop-member.invariant in
    omega (arith, none, whole, here)

pub args_left-returns : goal.args_left-returns
args_left-returns t c =
    let m = c.args.measure in
    let xs = c.deref-item-items.result.now in
    let i = c.loop-item.item-index in
    let past : length xs ≤ i = omega (arith, c.loop-item-test.false) in
    let none : size_each m (plain_args (drop i xs)) ≡ 0 =
    at_drop_all (λ (ys : List Arg). size_each m (plain_args ys)) xs i past in
    let whole : size_each m (plain_args xs) ≡ size_each m (plain_args c.args.items.now.items) =
    ap (λ (ys : List Arg). size_each m (plain_args ys)) c.deref-item-items.ensures.value in
    let here : c.args.budget + size_each m (plain_args (drop i xs))
    ≡ c.loop-item.left + size_each m (plain_args xs) =
    c.loop-item.invariant in
    omega (arith, none, whole, here)
