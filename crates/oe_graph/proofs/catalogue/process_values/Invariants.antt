use Rattle.std.proofs.Common.{◌≡◌, map, take}
use Rattle.serde_json.specs.View.{view}
use Rattle.oe_graph.specs.Catalogue.{process_of, process_data}
use Rattle.oe_graph.proofs.catalogue.process_values.Given as goal

abbrev pub invariant-loop-entry : goal.invariant-loop-entry
invariant-loop-entry l = map view l.values.items ≡ map process_data (map process_of (take l.entry-index l.entries))
