use Rattle.std.proofs.Common.{◌≡◌, map, take}
use Rattle.oe_graph.specs.Plain.{plain_parameter}
use Rattle.oe_graph.specs.Catalogue as spec
use Rattle.oe_graph.proofs.catalogue.parameter_rows.Given as goal

abbrev pub invariant-loop-entry : goal.invariant-loop-entry
invariant-loop-entry l =
    map plain_parameter l.rows.items ≡ map spec.plain_parameter (map spec.parameter_of (take l.entry-index l.entries))
