use Rattle.std.proofs.Common.{◌≡◌, drop, map}
use Rattle.std.specs.List.{list_any}
use Rattle.oe_dims.specs.Names.{same_name}
use Rattle.oe_graph.specs.Plain.{plain_parameter}
use Rattle.oe_calls.specs.Faults.{names_among}
use Rattle.oe_resolve.proofs.faults_of_names.has_row.Given as goal

abbrev pub invariant-loop-parameter : goal.invariant-loop-parameter
invariant-loop-parameter l =
    list_any (λ other. same_name other l.name) (names_among (map plain_parameter l.parameter-items))
    ≡ list_any (λ other. same_name other l.name) (names_among (map plain_parameter (drop l.parameter-index l.parameter-items)))
