use Rattle.std.proofs.Common.{◌≡◌, map, drop}
use Rattle.oe_graph.specs.Plain.{plain_named, plain_parameter}
use Rattle.oe_calls.specs.Substituted.{values_given}
use Rattle.oe_calls.proofs.ValueLemmas.{joined}
use Rattle.oe_calls.proofs.values.values_given.Given as goal

abbrev pub invariant-loop-parameter : goal.invariant-loop-parameter
invariant-loop-parameter l =
    values_given (map plain_parameter l.parameters.items) (plain_named l.arguments.items)
    ≡ joined (plain_named l.values.items)
    (values_given (map plain_parameter (drop l.parameter-index l.parameter-items)) (plain_named l.arguments.items))
