use Rattle.std.proofs.Common.{◌≡◌}
use Rattle.oe_sources.specs.Generated.{rising_labels}
use Rattle.oe_sources.proofs.generated_cube.labels_upward.Given as goal

abbrev pub invariant-loop-index : goal.invariant-loop-index
invariant-loop-index l = l.labels.items ≡ rising_labels l.index
