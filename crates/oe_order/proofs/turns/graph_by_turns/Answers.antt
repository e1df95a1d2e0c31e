use Rattle.std.proofs.Common.{◌<◌, length, map, get_or, refl, sym, ap, ◌∙◌, subst, arith}
use Rattle.oe_order.proofs.TurnLemmas.{argument_below, one_more}
use Rattle.oe_order.proofs.turns.graph_by_turns.Goals as goal

pub bounds-nodes-node : goal.bounds-nodes-node
bounds-nodes-node c = c.requires.turns.within c.loop-node.node-index (omega arith)

pub numbers_at-requires : goal.numbers_at-requires
numbers_at-requires c = λ i below.
    let n = get_or c.args.turns.now c.loop-node.node-index 0 in
    let within : n < length c.args.nodes.now = c.requires.turns.within c.loop-node.node-index (omega arith) in
    subst (λ k. get_or c.as_slice.result.now i 0 < k) (sym c.requires.each)
    (argument_below c.args.nodes.now n c.index-nodes-node.result c.as_slice.result.now c.requires.named within c.index-nodes-node.is c.as_slice.ensures.value i below)

pub loop-node-preserved : goal.loop-node-preserved
loop-node-preserved c =
    let n = get_or c.args.turns.now c.loop-node.node-index 0 in
    let within : n < length c.args.nodes.now = c.requires.turns.within c.loop-node.node-index (omega arith) in
    one_more c.args.nodes.now c.args.turns.now c.args.by_node.now c.loop-node.links.items _ c.loop-node.node-index c.index-nodes-node.result _
    c.requires.named (omega arith) within c.index-nodes-node.is c.requires.by_node c.in_ok-push.ensures.items refl
    (c.in_ok-arguments.ensures ∙ ap (map (λ m. get_or c.args.by_node.now m 0)) c.as_slice.ensures.value) c.loop-node.invariant
