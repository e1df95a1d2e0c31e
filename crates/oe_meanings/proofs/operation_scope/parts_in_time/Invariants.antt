use Rattle.std.proofs.Common.{◌≡◌, ◌++◌, drop, map}
use Rattle.oe_requests.specs.Extents.{part_in_time}
use Rattle.oe_meanings.proofs.operation_scope.parts_in_time.Given as goal

abbrev pub invariant-loop-interval : goal.invariant-loop-interval
invariant-loop-interval l =
    l.lists.items ++ map (λ i. part_in_time i.extent l.labels) (drop l.interval-index l.intervals)
    ≡ map (λ i. part_in_time i.extent l.labels) l.intervals
