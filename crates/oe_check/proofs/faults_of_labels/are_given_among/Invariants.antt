use Rattle.std.proofs.Common.{◌≡◌, drop, map}
use Rattle.oe_dims.specs.Dimensions.{band_names}
use Rattle.oe_dims.specs.Names.{same_name}
use Rattle.oe_requests.specs.Labels.{are_among}
use Rattle.oe_check.proofs.faults_of_labels.are_given_among.Given as goal

abbrev pub invariant-loop-index : goal.invariant-loop-index
invariant-loop-index l =
    are_among same_name (band_names l.shape) (map (λ n. n.now) l.names)
    ≡ are_among same_name (band_names l.shape) (map (λ n. n.now) (drop l.index l.names))
