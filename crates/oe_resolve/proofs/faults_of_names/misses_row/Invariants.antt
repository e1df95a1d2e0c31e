use Rattle.std.proofs.Common.{◌≡◌, drop, map}
use Rattle.std.specs.List.{list_any}
use Rattle.oe_graph.specs.Plain.{plain_named, plain_parameter}
use Rattle.oe_resolve.specs.NameFaults.{is_missing}
use Rattle.oe_resolve.proofs.faults_of_names.misses_row.Given as goal

abbrev pub invariant-loop-parameter : goal.invariant-loop-parameter
invariant-loop-parameter l =
    list_any (is_missing (plain_named l.arguments.items)) (map plain_parameter l.parameter-items)
    ≡ list_any (is_missing (plain_named l.arguments.items)) (map plain_parameter (drop l.parameter-index l.parameter-items))
