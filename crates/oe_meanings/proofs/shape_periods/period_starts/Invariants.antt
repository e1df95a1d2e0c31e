use Rattle.std.proofs.Common.{◌≡◌, map}
use Rattle.std.specs.List.{range_with_len}
use Rattle.oe_periods.specs.Calendar.{period_start}
use Rattle.oe_meanings.proofs.shape_periods.period_starts.Given as goal

abbrev pub invariant-loop-index : goal.invariant-loop-index
invariant-loop-index l = l.starts.items ≡ map (period_start l.periods.period) (range_with_len l.periods.first l.index)
