use Rattle.std.proofs.Common.{◌≡◌, drop}
use Rattle.oe_ops.specs.Lists.{interval_labelled}
use Rattle.oe_ops.proofs.aggregate.first_interval_of.Given as goal

-- the first one is behind those so far
abbrev pub invariant-loop-number : goal.invariant-loop-number
invariant-loop-number l = interval_labelled l.intervals l.label ≡ interval_labelled (drop l.number l.intervals) l.label
