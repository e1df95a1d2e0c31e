use Rattle.std.proofs.Common.{◌≡◌, ◌++◌, take}
use Rattle.oe_dims.specs.Dimensions.{band_names}
use Rattle.oe_dims.specs.Names.{same_name}
use Rattle.oe_requests.specs.Labels.{new_among}
use Rattle.oe_meanings.proofs.shape_merge.join_bands.Given as goal

abbrev pub invariant-loop-index : goal.invariant-loop-index
invariant-loop-index l = l.names.items ≡ band_names l.one ++ new_among same_name (band_names l.one) (take l.index l.others)
