use Rattle.std.proofs.Common.{◌≡◌, ◌++◌, drop, slice_index_or, pos}
use Rattle.oe_translate.specs.Written.{growing_intervals, intervals_from}
use Rattle.oe_translate.proofs.written.growing_intervals.Given as goal

abbrev pub invariant-loop-index : goal.invariant-loop-index
invariant-loop-index l =
    l.intervals.items ++ intervals_from (slice_index_or l.labels 0 (pos 0)) (drop l.index l.labels)
    ≡ growing_intervals l.labels
