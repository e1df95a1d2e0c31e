use Rattle.std.proofs.Common.{◌≡◌, map, take}
use Rattle.serde_json.specs.View.{view}
use Rattle.oe_graph.specs.Catalogue.{parameter_of, parameter_data}
use Rattle.oe_graph.proofs.catalogue.parameter_values.Given as goal

abbrev pub invariant-loop-entry : goal.invariant-loop-entry
invariant-loop-entry l = map view l.values.items ≡ map parameter_data (map parameter_of (take l.entry-index l.entries))
