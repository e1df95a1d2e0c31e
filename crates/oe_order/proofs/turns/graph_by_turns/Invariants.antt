use Rattle.std.proofs.Common.{◌≡◌, map, take}
use Rattle.oe_order.specs.Graph.{graph_of}
use Rattle.oe_order.specs.Turns.{node_by_turns}
use Rattle.oe_order.proofs.turns.graph_by_turns.Given as goal

abbrev pub invariant-loop-node : goal.invariant-loop-node
invariant-loop-node l = graph_of l.links.items ≡ map (node_by_turns (graph_of l.nodes) l.turns) (take l.node-index l.turns)
