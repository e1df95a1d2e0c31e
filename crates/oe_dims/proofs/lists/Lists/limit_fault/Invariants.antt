use Rattle.std.proofs.Common.{◌≡◌, drop}
use Rattle.oe_dims.specs.Dimensions.{first_failing, is_within_limit, all_kinds}
use Rattle.oe_dims.specs.Lists.{dimensions_of}
use Rattle.oe_dims.specs.declared.shape.ShapeFault.TheVariants.{TooMany}
use Rattle.oe_dims.proofs.lists.Lists.limit_fault.Given as goal

abbrev pub invariant-loop-kind : goal.invariant-loop-kind
invariant-loop-kind l =
    (l.kind-items ≡ all_kinds) × (first_failing (is_within_limit (dimensions_of l.self)) TooMany all_kinds ≡ first_failing (is_within_limit (dimensions_of l.self)) TooMany (drop l.kind-index all_kinds))
