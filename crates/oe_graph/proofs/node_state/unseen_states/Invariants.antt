use Rattle.std.proofs.Common.{◌≡◌, replicate}
use Rattle.oe_graph.specs.declared.node_state.NodeState.TheVariants.{Unseen}
use Rattle.oe_graph.proofs.node_state.unseen_states.Given as goal

abbrev pub invariant-loop-index : goal.invariant-loop-index
invariant-loop-index g l = l.states.items ≡ replicate l._index Unseen
