use Rattle.std.proofs.Common.{◌≡◌, ◌-◌, ◌*◌, map, pos}
use Rattle.std.specs.List.{range_with_len}
use Rattle.oe_sources.proofs.generated_cube.labels_downward.Given as goal

abbrev pub invariant-loop-index : goal.invariant-loop-index
invariant-loop-index l = l.labels.items ≡ map (λ i. pos (10 * (l.fn.side - 1 - i))) (range_with_len 0 l.index)
