-- A node and a graph by their parts.
use Rattle.std.proofs.Common.{◌≡◌}
use Rattle.oe_graph.specs.Plain.{plain_graph, plain_named, plain_node, plain_nodes, arg_step, graph_step, node_step}
use Rattle.oe_graph.specs.Tree.{Argument, PlainGraph, PlainNode}
use Rattle.oe_graph.specs.declared.tree.Arg.TheFolds.{fold_out-Graph, fold_out-Node}
use Rattle.oe_graph.specs.declared.tree.Graph.{Graph, out-Graph}
use Rattle.oe_graph.specs.declared.tree.Node.{Node}

pub node_parts : (n : Node)
    → plain_node n ≡ record { id = n.id; process_id = n.process_id; namespace = n.namespace; arguments = plain_named n.arguments.items }
node_parts n = fold_out-Node Argument PlainGraph PlainNode arg_step graph_step node_step n

pub graph_parts : (g : Graph) → plain_graph g ≡ record { nodes = plain_nodes (out-Graph g).nodes.items; result = (out-Graph g).result }
graph_parts g = fold_out-Graph Argument PlainGraph PlainNode arg_step graph_step node_step g
