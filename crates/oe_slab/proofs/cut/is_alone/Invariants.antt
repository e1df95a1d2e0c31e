use Rattle.std.proofs.Common.{◌≡◌, ◌<◌, ℕ, true, Some}
use Rattle.std.specs.Prelude.{slice_index}
use Rattle.oe_dims.specs.declared.kind.Kind.TheVariants.{Time}
use Rattle.oe_check.specs.Reach.{whole_of_node}
use Rattle.oe_slab.proofs.cut.is_alone.Given as goal

-- none of the nodes so far but this one
abbrev pub invariant-loop-other : goal.invariant-loop-other
invariant-loop-other l =
    (i : ℕ) → i < l.other-index → whole_of_node l.checked (slice_index l.steps i) Time ≡ Some true → slice_index l.steps i ≡ l.node
