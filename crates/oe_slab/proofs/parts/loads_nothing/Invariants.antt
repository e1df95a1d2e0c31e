use Rattle.std.proofs.Common.{◌≡◌, ◌<◌, ℕ, false}
use Rattle.std.specs.Prelude.{slice_index}
use Rattle.oe_order.specs.Graph.{graph_of, is_load}
use Rattle.oe_slab.proofs.parts.loads_nothing.Given as goal

-- none of the nodes so far
abbrev pub invariant-loop-node : goal.invariant-loop-node
invariant-loop-node l = (i : ℕ) → i < l.node-index → is_load (graph_of l.links) (slice_index l.steps i) ≡ false
