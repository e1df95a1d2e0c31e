use Rattle.std.proofs.Common.{◌≡◌, map, take}
use Rattle.oe_graph.specs.declared.tree.Node.{Node}
use Rattle.oe_check.proofs.graph_check.copy_ids.Given as goal

abbrev pub invariant-loop-node : goal.invariant-loop-node
invariant-loop-node l = l.ids.items ≡ map (λ (n : Node). n.id) (take l.node-index l.node-items)
