use Rattle.std.proofs.Common.{◌≡◌, length, map}
use Rattle.oe_dims.specs.Dimensions.{all_differ}
use Rattle.oe_requests.proofs.parameter_box.names_differ.Given as goal

abbrev pub invariant-loop-first : goal.invariant-loop-first
invariant-loop-first l = all_differ (map (λ m. m.0) l.members) ≡ all_differ (map (λ m. m.0) l.rest)

abbrev pub decreases-loop-first : goal.decreases-loop-first
decreases-loop-first l = length l.rest
