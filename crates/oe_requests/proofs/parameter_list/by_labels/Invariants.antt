use Rattle.std.proofs.Common.{◌≡◌}
use Rattle.oe_requests.specs.Parameters as spec
use Rattle.oe_requests.proofs.IntervalLemmas.{labels_from}
use Rattle.oe_requests.proofs.parameter_list.by_labels.Given as goal

abbrev pub invariant-loop-index : goal.invariant-loop-index
invariant-loop-index l =
    spec.by_labels l.extents l.labels ≡ labels_from l.intervals.items l.extents l.labels l.index
