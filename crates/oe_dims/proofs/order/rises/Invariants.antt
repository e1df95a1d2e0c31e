use Rattle.std.proofs.Common.{◌≡◌, ◌-◌, drop}
use Rattle.oe_dims.specs.Dimensions.{rises}
use Rattle.oe_dims.proofs.order.rises.Given as goal

abbrev pub invariant-loop-place : goal.invariant-loop-place
invariant-loop-place l = rises l.labels ≡ rises (drop (l.place - 1) l.labels)
