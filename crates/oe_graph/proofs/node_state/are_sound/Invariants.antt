use Rattle.std.proofs.Common.{◌≡◌, drop}
use Rattle.oe_graph.specs.States.{are_sound}
use Rattle.oe_graph.proofs.node_state.are_sound.Given as goal

abbrev pub invariant-loop-index : goal.invariant-loop-index
invariant-loop-index g l = are_sound l.states (drop l.index-index l.indices) ≡ are_sound l.states l.indices
