use Rattle.std.proofs.Common.{◌≡◌, ◌∙◌, ◌≤◌, ◌+◌, [], List, Option, Some, None, map, drop, length, sym, ap, subst, arith}
use Rattle.std.proofs.lemmas.List.{drop_all}
use Rattle.oe_graph.specs.Plain.{plain_graph, plain_node, plain_nodes, plain_stored}
use Rattle.oe_graph.specs.Tree.{PlainGraph, PlainNode}
use Rattle.oe_graph.specs.declared.code.Code.{Code}
use Rattle.oe_graph.specs.declared.fault.Fault.{Fault}
use Rattle.oe_graph.specs.declared.tree.Node.{Node}
use Rattle.oe_graph.proofs.PartLemmas.{graph_parts, node_parts}
use Rattle.oe_graph.specs.Faults.{IsLeastFault}
use Rattle.oe_calls.specs.Reached.{IsCallFault, IsCodeOf}
use Rattle.oe_calls.proofs.Tests.{at_next}
use Rattle.oe_calls.proofs.FirstCallLemmas.{First, at_end, skip, here, first_call}
use Rattle.oe_calls.proofs.reach.call_fault.Goals as goal

pub returns-in-Some : goal.returns-in-Some
returns-in-Some c =
    let stored = map plain_stored c.args.stored.now in
    let g = plain_graph c.args.graph.now in
    let ns = c.deref-node-items.result.now in
    let n = c.node-item.result in
    let code : IsCodeOf stored (plain_node n) (Some c.in-Some.code) = subst (IsCodeOf stored (plain_node n)) c.in-Some.is c.in_ok-code.ensures in
    let fault : Option Fault = Some (record { code = c.in-Some.code; node = (plain_node n).id }) in
    let first : First stored (map plain_node ns) fault = c.loop-node.invariant fault
    (subst (λ (ms : List PlainNode). First stored ms fault)
    (sym (at_next (map plain_node) ns c.loop-node.node-index n c.loop-node-test.true c.node-item.is)) (here code)) in
    let id = c.in_ok-copy.ensures ∙ sym (ap (λ (m : PlainNode). m.id) (node_parts n)) in
    subst (λ xs. IsLeastFault (IsCallFault stored g) (Some (record { code = c.in-Some.code; node = xs }))) (sym id)
    (first_call stored g ns fault
    (ap (λ (h : PlainGraph). h.nodes) (graph_parts c.args.graph.now) ∙ ap plain_nodes (sym c.deref-node-items.ensures.value))
    c.requires.rise first)

pub loop-node-preserved : goal.loop-node-preserved
loop-node-preserved c = λ o rest.
    let stored = map plain_stored c.args.stored.now in
    let ns = c.deref-node-items.result.now in
    let n = c.node-item.result in
    c.loop-node.invariant o
    (subst (λ (ms : List PlainNode). First stored ms o)
    (sym (at_next (map plain_node) ns c.loop-node.node-index n c.loop-node-test.true c.node-item.is))
    (skip (subst (IsCodeOf stored (plain_node n)) c.in_default.is c.in_ok-code.ensures) rest))

pub returns : goal.returns
returns c =
    let stored = map plain_stored c.args.stored.now in
    let g = plain_graph c.args.graph.now in
    let ns = c.deref-node-items.result.now in
    let all : length ns ≤ c.loop-node.node-index = omega (arith, c.loop-node-test.false) in
    let first : First stored (map plain_node ns) None = c.loop-node.invariant None
    (subst (λ (ms : List Node). First stored (map plain_node ms) None) (sym (drop_all c.loop-node.node-index ns all)) at_end) in
    first_call stored g ns None
    (ap (λ (h : PlainGraph). h.nodes) (graph_parts c.args.graph.now) ∙ ap plain_nodes (sym c.deref-node-items.ensures.value))
    c.requires.rise first
