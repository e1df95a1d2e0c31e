use Rattle.std.proofs.Common.{◌≡◌, map, take}
use Rattle.oe_graph.specs.Plain.{plain_parameter}
use Rattle.oe_graph.proofs.copy.copy_parameters.Given as goal

abbrev pub invariant-loop-parameter : goal.invariant-loop-parameter
invariant-loop-parameter l = map plain_parameter l.copy.items ≡ map plain_parameter (take l.parameter-index l.parameter-items)
