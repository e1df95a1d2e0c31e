use Rattle.std.proofs.Common.{◌≡◌, take}
use Rattle.oe_mosaic.specs.Labels.{new_names}
use Rattle.oe_mosaic.proofs.labels.new_names.Given as goal

abbrev pub invariant-loop-index : goal.invariant-loop-index
invariant-loop-index l = l.found.items ≡ new_names l.before (take l.index l.names)
