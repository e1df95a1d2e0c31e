use Rattle.std.proofs.Common.{◌≡◌, map, take}
use Rattle.oe_graph.specs.Plain.{plain_node, plain_nodes}
use Rattle.oe_order.specs.Graph.{graph_of}
use Rattle.oe_check.specs.Links.{link_of}
use Rattle.oe_check.proofs.links.links_between.Given as goal

abbrev pub invariant-loop-index : goal.invariant-loop-index
invariant-loop-index l =
    graph_of l.links.items ≡ map (link_of (plain_nodes l.nodes.items)) (map plain_node (take l.index l.nodes.items))
