use Rattle.std.proofs.Common.{◌≡◌, drop}
use Rattle.oe_dims.specs.Dimensions.{first_failing, is_ordered, all_kinds}
use Rattle.oe_dims.specs.Lists.{dimensions_of}
use Rattle.oe_dims.specs.declared.shape.ShapeFault.TheVariants.{OrderWrong}
use Rattle.oe_dims.proofs.lists.Lists.order_fault.Given as goal

abbrev pub invariant-loop-kind : goal.invariant-loop-kind
invariant-loop-kind l =
    (l.kind-items ≡ all_kinds) × (first_failing (is_ordered (dimensions_of l.self)) OrderWrong all_kinds ≡ first_failing (is_ordered (dimensions_of l.self)) OrderWrong (drop l.kind-index all_kinds))
