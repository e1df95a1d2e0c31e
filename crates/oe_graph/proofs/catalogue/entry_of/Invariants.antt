use Rattle.std.proofs.Common.{◌≡◌, map, drop}
use Rattle.oe_graph.specs.Catalogue.{first_named, process_of}
use Rattle.oe_graph.proofs.catalogue.entry_of.Given as goal

abbrev pub invariant-loop-entry : goal.invariant-loop-entry
invariant-loop-entry l =
    first_named l.id (map process_of l.entries) ≡ first_named l.id (map process_of (drop l.entry-index l.entries))
