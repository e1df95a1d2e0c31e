use Rattle.std.proofs.Common.{◌≡◌, length}
use Rattle.oe_dims.specs.Dimensions.{all_differ}
use Rattle.oe_dims.proofs.distinct.differ_by_blocks.Given as goal

abbrev pub invariant-loop-rest : goal.invariant-loop-rest
invariant-loop-rest l = all_differ l.names ≡ all_differ l.rest

abbrev pub decreases-loop-rest : goal.decreases-loop-rest
decreases-loop-rest l = length l.rest
