use Rattle.std.proofs.Common.{◌≡◌, map, take}
use Rattle.oe_graph.specs.Indices.{are_known, reference_node}
use Rattle.oe_graph.specs.Plain.{plain_node, plain_nodes}
use Rattle.oe_graph.specs.References.{references_named}
use Rattle.oe_order.specs.Graph.{graph_of}
use Rattle.oe_graph.proofs.references.references_beside.Given as goal

abbrev pub invariant-loop-node : goal.invariant-loop-node
invariant-loop-node l =
    let nodes = plain_nodes l.beside.nodes.now.items in
    (graph_of l.links.items ≡ map (reference_node nodes) (map plain_node (take l.node-index l.node-items)))
    × (l.known.items ≡ map (λ n. are_known nodes (references_named (plain_node n).arguments)) (take l.node-index l.node-items))
