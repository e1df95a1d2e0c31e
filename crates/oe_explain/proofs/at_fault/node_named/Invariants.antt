use Rattle.std.proofs.Common.{◌≡◌, drop}
use Rattle.oe_graph.specs.Plain.{plain_nodes}
use Rattle.oe_expr.specs.Nodes.{node_named}
use Rattle.oe_explain.proofs.at_fault.node_named.Given as goal

abbrev pub invariant-loop-node : goal.invariant-loop-node
invariant-loop-node l = node_named l.id (plain_nodes (drop l.node-index l.node-items)) ≡ node_named l.id (plain_nodes l.node-items)
