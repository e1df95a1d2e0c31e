use Rattle.std.proofs.Common.{◌≡◌, ◌≤◌, ◌++◌, ◌∷◌, [], Bool, List, false, length, map, take, sym, ap, ◌∙◌, arith}
use Rattle.std.proofs.lemmas.List.{take_all, map-append}
use Rattle.oe_memory.proofs.Lists.{take_next}
use Rattle.oe_graph.specs.Indices.{are_known, indices_named, reference_node}
use Rattle.oe_graph.specs.Plain.{plain_node, plain_named, plain_nodes}
use Rattle.oe_graph.specs.References.{references_named}
use Rattle.oe_graph.specs.Tree.{PlainNode}
use Rattle.oe_graph.specs.declared.tree.Node.{Node}
use Rattle.oe_graph.proofs.PartLemmas.{node_parts}
use Rattle.oe_graph.proofs.ReferenceGraphLemmas.{each_nodes, nodes_next}
use Rattle.oe_order.specs.Graph.{graph_of}
use Rattle.oe_order.specs.declared.Links.{Links}
use Rattle.oe_order.proofs.Graphs.{graph_of-push}
use Rattle.oe_graph.proofs.references.references_beside.Goals as goal

pub loop-node-init : goal.loop-node-init
loop-node-init c = (ap graph_of c.in_ok-links.ensures.items, c.in_ok-known.ensures.items)

pub loop-node-preserved : goal.loop-node-preserved
loop-node-preserved c =
    let nodes = plain_nodes c.args.beside.now.nodes.now.items in
    let ns = c.deref-node-items.result.now in
    let i = c.loop-node.node-index in
    let n : Node = c.node-item.result in
    let knows : Node → Bool = (λ (m : Node). are_known nodes (references_named (plain_node m).arguments)) in
    let x : Links = record { load = false; arguments = c.add_named.new.found } in
    let refs : references_named (plain_named n.arguments.items) ≡ references_named (plain_node n).arguments =
    ap (λ (m : PlainNode). references_named m.arguments) (sym (node_parts n)) in
    let found : c.add_named.new.found.items ≡ indices_named nodes (references_named (plain_node n).arguments) =
    c.in_ok-add_named.ensures.found
    ∙ ap (λ old. old ++ indices_named nodes (references_named (plain_named n.arguments.items))) c.new-arguments.ensures.items
    ∙ ap (indices_named nodes) refs in (
      ap graph_of c.in_ok-push-2.ensures.items
          ∙ graph_of-push c.loop-node.links.items x
          ∙ ap (λ indices. graph_of c.loop-node.links.items ++ record { load = false; arguments = indices } ∷ []) found
          ∙ ap (λ xs. xs ++ reference_node nodes (plain_node n) ∷ []) c.loop-node.invariant.0
          ∙ sym (map-append (reference_node nodes) (map plain_node (take i ns)) (plain_node n ∷ []))
          ∙ ap (map (reference_node nodes)) (sym (nodes_next ns i n c.loop-node-test.true c.node-item.is)),
      c.in_ok-push.ensures.items
          ∙ ap (λ ks. ks ++ c.in_ok-add_named.field-0 ∷ []) c.loop-node.invariant.1
          ∙ ap (λ k. map knows (take i ns) ++ k ∷ []) (c.in_ok-add_named.ensures.known ∙ ap (are_known nodes) refs)
          ∙ sym (map-append knows (take i ns) (n ∷ []))
          ∙ ap (map knows) (sym (take_next ns i n c.loop-node-test.true c.node-item.is)),
    )

pub returns-clause-graph : goal.returns-clause-graph
returns-clause-graph c =
    let nodes = plain_nodes c.args.beside.now.nodes.now.items in
    let ns = c.deref-node-items.result.now in
    let all : length ns ≤ c.loop-node.node-index = omega (arith, c.loop-node-test.false) in
    c.loop-node.invariant.0
    ∙ ap (λ (ms : List Node). map (reference_node nodes) (map plain_node ms)) (take_all c.loop-node.node-index ns all ∙ c.deref-node-items.ensures.value)
    ∙ ap (map (reference_node nodes)) (sym (each_nodes (map plain_node c.args.beside.now.nodes.now.items)))
