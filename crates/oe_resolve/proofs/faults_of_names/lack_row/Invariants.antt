use Rattle.std.proofs.Common.{◌≡◌, drop, map}
use Rattle.oe_graph.specs.Plain.{plain_named, plain_parameter}
use Rattle.oe_calls.specs.Faults.{names_among}
use Rattle.oe_resolve.specs.NameFaults.{has_unknown}
use Rattle.oe_resolve.proofs.faults_of_names.lack_row.Given as goal

abbrev pub invariant-loop-argument : goal.invariant-loop-argument
invariant-loop-argument l =
    has_unknown (names_among (map plain_parameter l.parameters.items)) (plain_named l.argument-items)
    ≡ has_unknown (names_among (map plain_parameter l.parameters.items)) (plain_named (drop l.argument-index l.argument-items))
