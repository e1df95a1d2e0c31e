use Rattle.std.proofs.Common.{◌≡◌, take}
use Rattle.oe_dims.specs.Dimensions.{number_labels}
use Rattle.oe_dims.specs.Indices.{same_number}
use Rattle.oe_requests.specs.Labels.{new_among}
use Rattle.oe_meanings.proofs.shape_merge.new_numbers.Given as goal

abbrev pub invariant-loop-index : goal.invariant-loop-index
invariant-loop-index l = l.labels.items ≡ new_among same_number (number_labels l.one l.kind) (take l.index l.others)
