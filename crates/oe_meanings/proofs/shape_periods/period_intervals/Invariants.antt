use Rattle.std.proofs.Common.{◌≡◌, map}
use Rattle.std.specs.List.{range_with_len}
use Rattle.oe_requests.specs.Periods.{period_interval}
use Rattle.oe_meanings.proofs.shape_periods.period_intervals.Given as goal

abbrev pub invariant-loop-index : goal.invariant-loop-index
invariant-loop-index l = l.intervals.items ≡ map (period_interval l.periods.period) (range_with_len l.periods.first l.index)
