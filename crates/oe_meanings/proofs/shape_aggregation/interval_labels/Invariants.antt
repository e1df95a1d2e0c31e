use Rattle.std.proofs.Common.{◌≡◌, take}
use Rattle.oe_meanings.specs.ValidShapes.{labels_of}
use Rattle.oe_meanings.proofs.shape_aggregation.interval_labels.Given as goal

abbrev pub invariant-loop-index : goal.invariant-loop-index
invariant-loop-index l = l.labels.items ≡ labels_of (take l.index l.intervals)
