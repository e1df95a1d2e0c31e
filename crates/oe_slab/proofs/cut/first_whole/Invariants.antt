use Rattle.std.proofs.Common.{◌≡◌, ◌<◌, ℕ, false, Some}
use Rattle.std.specs.Prelude.{slice_index}
use Rattle.oe_dims.specs.declared.kind.Kind.TheVariants.{Time}
use Rattle.oe_check.specs.Reach.{whole_of_node}
use Rattle.oe_slab.proofs.cut.first_whole.Given as goal

-- none of the nodes so far
abbrev pub invariant-loop-node : goal.invariant-loop-node
invariant-loop-node l = (i : ℕ) → i < l.node-index → whole_of_node l.checked (slice_index l.steps i) Time ≡ Some false
