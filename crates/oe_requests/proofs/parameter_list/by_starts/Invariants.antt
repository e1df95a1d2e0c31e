use Rattle.std.proofs.Common.{◌≡◌}
use Rattle.oe_requests.specs.Parameters as spec
use Rattle.oe_requests.proofs.IntervalLemmas.{starts_from}
use Rattle.oe_requests.proofs.parameter_list.by_starts.Given as goal

abbrev pub invariant-loop-extent : goal.invariant-loop-extent
invariant-loop-extent l =
    spec.by_starts l.extent-items ≡ starts_from l.intervals.items l.extent-items l.extent-index
