use Rattle.std.proofs.Common.{◌≡◌, ◌&&◌, ◌≤◌, ◌+◌, [], List, map, drop, length, sym, ap, ◌∙◌, arith}
use Rattle.std.proofs.lemmas.List.{at_drop_all}
use Rattle.oe_graph.specs.Plain.{plain_stored}
use Rattle.oe_calls.proofs.SumLemmas.{fit, node_next}
use Rattle.oe_calls.proofs.calls.nodes_fit.Goals as goal

pub returns-then-not-node_fits : goal.returns-then-not-node_fits
returns-then-not-node_fits c = λ index.
    let stored = map plain_stored c.args.stored.now in
    let ns = c.deref-node-items.result.now in
    let rest = fit stored c.args.of_dimension index (drop (c.loop-node.node-index + 1) ns) in
    sym (ap (fit stored c.args.of_dimension index) (sym c.deref-node-items.ensures.value)
    ∙ (c.loop-node.invariant index
    ∙ (node_next stored c.args.of_dimension index ns c.loop-node.node-index c.node-item.result c.loop-node-test.true c.node-item.is
    ∙ ap (λ b. b && rest) (sym c.node_fits.ensures ∙ c.if-not-node_fits.true))))

pub loop-node-preserved : goal.loop-node-preserved
loop-node-preserved c = λ index.
    let stored = map plain_stored c.args.stored.now in
    let ns = c.deref-node-items.result.now in
    let rest = fit stored c.args.of_dimension index (drop (c.loop-node.node-index + 1) ns) in
    c.loop-node.invariant index
    ∙ (node_next stored c.args.of_dimension index ns c.loop-node.node-index c.node-item.result c.loop-node-test.true c.node-item.is
    ∙ ap (λ b. b && rest) (sym c.node_fits.ensures ∙ c.if-not-node_fits.false))

pub returns : goal.returns
returns c = λ index.
    let stored = map plain_stored c.args.stored.now in
    let ns = c.deref-node-items.result.now in
    let all : length ns ≤ c.loop-node.node-index = omega (arith, c.loop-node-test.false) in
    sym (ap (fit stored c.args.of_dimension index) (sym c.deref-node-items.ensures.value)
    ∙ (c.loop-node.invariant index ∙ at_drop_all (fit stored c.args.of_dimension index) ns c.loop-node.node-index all))
