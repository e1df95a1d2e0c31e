use Rattle.std.proofs.Common.{◌≡◌, ◌<◌, length, map, get_or, sym, ap, ◌∙◌, subst, arith}
use Rattle.std.proofs.lemmas.List.{get_or_read}
use Rattle.std.proofs.lemmas.Result.{IfOk-weaker}
use Rattle.oe_order.specs.Graph.{graph_of}
use Rattle.oe_order.specs.Turns.{by_turns, turn_of}
use Rattle.oe_order.proofs.Lists.{contains-index}
use Rattle.oe_order.proofs.TurnLemmas.{graph_acyclic, graph_count, graph_within, node_of, order_below, steps_are, steps_first, steps_listed, steps_room, turn_kept, turn_within}
use Rattle.oe_order.proofs.turns.steps_by_turns.Goals as goal

pub steps_by_node-requires-clause-few : goal.steps_by_node-requires-clause-few
steps_by_node-requires-clause-few c = omega (arith, c.requires.turns.each, c.requires.few)

pub steps_by_node-requires-clause-within : goal.steps_by_node-requires-clause-within
steps_by_node-requires-clause-within c = λ n e.
    let at = contains-index c.args.turns.now n e in
    subst (λ m. m < length c.args.nodes.now) at.2 (c.requires.turns.within at.0 at.1)

pub steps_by_node-requires-clause-once : goal.steps_by_node-requires-clause-once
steps_by_node-requires-clause-once c = c.requires.turns.once

pub graph_by_turns-requires-clause-each : goal.graph_by_turns-requires-clause-each
graph_by_turns-requires-clause-each c = ap length c.as_slice.ensures.value ∙ c.in_ok-by_node.ensures.len

pub graph_by_turns-requires-clause-by_node : goal.graph_by_turns-requires-clause-by_node
graph_by_turns-requires-clause-by_node c = λ n below.
    ap (λ xs. get_or xs n 0) c.as_slice.ensures.value
    ∙ turn_kept (length c.args.nodes.now) c.args.turns.now c.requires.turns c.in_ok-by_node.by_node.items c.in_ok-by_node.ensures.by_node n below

pub steps_of-requires : goal.steps_of-requires
steps_of-requires c =
    let by_node = c.in_ok-by_node.by_node.items in
    let graph : graph_of c.as_slice-2.result.now ≡ by_turns (graph_of c.args.nodes.now) c.args.turns.now = ap graph_of c.as_slice-2.ensures.value ∙ c.in_ok-graph.ensures in
    let count : length c.as_slice-2.result.now ≡ length c.args.nodes.now =
    graph_count c.args.nodes.now c.args.turns.now c.requires.turns c.requires.named c.args.last c.requires.last_named c.as_slice-2.result.now graph in
    let turn : c.index.result.now ≡ turn_of c.args.turns.now c.args.last =
    get_or_read by_node c.args.last c.index.result.now (omega (arith, c.requires.last_named, c.in_ok-by_node.ensures.len)) c.index.ensures 0
    ∙ turn_kept (length c.args.nodes.now) c.args.turns.now c.requires.turns by_node c.in_ok-by_node.ensures.by_node c.args.last c.requires.last_named in
    record {
      few = omega (arith, c.requires.few, count);
      last_named = turn_within c.args.nodes.now c.args.turns.now c.requires.turns c.requires.named c.args.last c.requires.last_named c.as_slice-2.result.now graph
          c.index.result.now turn;
      named = graph_within c.args.nodes.now c.args.turns.now c.requires.turns c.requires.named c.args.last c.requires.last_named c.as_slice-2.result.now graph;
      acyclic = graph_acyclic c.args.nodes.now c.args.turns.now c.requires.turns c.requires.named c.args.last c.requires.last_named c.as_slice-2.result.now graph
          c.requires.acyclic;
    }

pub numbers_at-requires : goal.numbers_at-requires
numbers_at-requires c = λ i below.
    let by_node = c.in_ok-by_node.by_node.items in
    let order = c.in_ok-order.order.items in
    let graph : graph_of c.as_slice-2.result.now ≡ by_turns (graph_of c.args.nodes.now) c.args.turns.now = ap graph_of c.as_slice-2.ensures.value ∙ c.in_ok-graph.ensures in
    let turn : c.index.result.now ≡ turn_of c.args.turns.now c.args.last =
    get_or_read by_node c.args.last c.index.result.now (omega (arith, c.requires.last_named, c.in_ok-by_node.ensures.len)) c.index.ensures 0
    ∙ turn_kept (length c.args.nodes.now) c.args.turns.now c.requires.turns by_node c.in_ok-by_node.ensures.by_node c.args.last c.requires.last_named in
    let in' : i < length order = subst (λ xs. i < length xs) c.as_slice-3.ensures.value below in
    subst (λ xs. get_or xs i 0 < length c.args.turns.now) (sym c.as_slice-3.ensures.value)
    (order_below c.args.nodes.now c.args.turns.now c.requires.turns c.requires.named c.args.last c.requires.last_named c.as_slice-2.result.now graph
    c.index.result.now turn order c.in_ok-order.ensures.listing i in')

pub returns : goal.returns
returns c =
    let by_node = c.in_ok-by_node.by_node.items in
    let order = c.in_ok-order.order.items in
    let graph : graph_of c.as_slice-2.result.now ≡ by_turns (graph_of c.args.nodes.now) c.args.turns.now = ap graph_of c.as_slice-2.ensures.value ∙ c.in_ok-graph.ensures in
    let turn : c.index.result.now ≡ turn_of c.args.turns.now c.args.last =
    get_or_read by_node c.args.last c.index.result.now (omega (arith, c.requires.last_named, c.in_ok-by_node.ensures.len)) c.index.ensures 0
    ∙ turn_kept (length c.args.nodes.now) c.args.turns.now c.requires.turns by_node c.in_ok-by_node.ensures.by_node c.args.last c.requires.last_named in
    let back : map (node_of c.args.turns.now) c.as_slice-3.result.now ≡ map (node_of c.args.turns.now) order = ap (map (node_of c.args.turns.now)) c.as_slice-3.ensures.value in
    record {
      room = IfOk-weaker c.numbers_at.result _ _
          (λ steps is. steps_room c.args.nodes.now c.args.turns.now c.requires.turns c.requires.named c.args.last c.requires.last_named c.as_slice-2.result.now graph
          order steps.items (is ∙ back) c.in_ok-order.ensures.room)
          c.numbers_at.ensures;
      steps = IfOk-weaker c.numbers_at.result _ _
          (λ steps is. steps_are c.args.nodes.now c.args.turns.now c.requires.turns c.requires.named c.args.last c.requires.last_named c.as_slice-2.result.now graph
          c.index.result.now turn order c.in_ok-order.ensures.listing c.in_ok-order.ensures.steps steps.items (is ∙ back))
          c.numbers_at.ensures;
      loads_first = IfOk-weaker c.numbers_at.result _ _
          (λ steps is. steps_first c.args.nodes.now c.args.turns.now c.requires.turns c.requires.named c.args.last c.requires.last_named c.as_slice-2.result.now graph
          c.index.result.now turn order c.in_ok-order.ensures.listing c.in_ok-order.ensures.steps steps.items (is ∙ back))
          c.numbers_at.ensures;
      listing = IfOk-weaker c.numbers_at.result _ _
          (λ steps is. steps_listed c.args.nodes.now c.args.turns.now c.requires.turns c.requires.named c.args.last c.requires.last_named c.as_slice-2.result.now graph
          c.index.result.now turn order c.in_ok-order.ensures.listing steps.items (is ∙ back))
          c.numbers_at.ensures;
    }
