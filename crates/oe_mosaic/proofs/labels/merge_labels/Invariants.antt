use Rattle.std.proofs.Common.{◌≡◌, ◌≤◌, ◌+◌, ◌-◌, ◌++◌, length, drop}
use Rattle.oe_mosaic.specs.Labels.{merge_labels}
use Rattle.oe_mosaic.proofs.labels.merge_labels.Given as goal

abbrev pub invariant-loop-first : goal.invariant-loop-first
invariant-loop-first l = record {
  merged : l.labels.items ++ merge_labels l.kind (drop l.first l.one) (drop l.second l.two) ≡ merge_labels l.kind l.one l.two;
  first : l.first ≤ length l.one;
  second : l.second ≤ length l.two;
}

abbrev pub decreases-loop-first : goal.decreases-loop-first
decreases-loop-first l = (length l.one - l.first) + (length l.two - l.second)
