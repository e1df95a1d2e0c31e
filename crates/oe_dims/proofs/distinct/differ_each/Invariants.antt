use Rattle.std.proofs.Common.{◌≡◌, drop}
use Rattle.oe_dims.specs.Dimensions.{all_differ}
use Rattle.oe_dims.proofs.distinct.differ_each.Given as goal

abbrev pub invariant-loop-index : goal.invariant-loop-index
invariant-loop-index l = all_differ l.names ≡ all_differ (drop l.index l.names)
