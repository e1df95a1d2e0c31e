use Rattle.std.proofs.Common.{◌≡◌, ◌-◌, drop}
use Rattle.oe_dims.specs.Dimensions.{falls}
use Rattle.oe_dims.proofs.order.falls.Given as goal

abbrev pub invariant-loop-index : goal.invariant-loop-index
invariant-loop-index l = falls l.labels ≡ falls (drop (l.index - 1) l.labels)
