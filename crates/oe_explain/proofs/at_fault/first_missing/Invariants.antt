use Rattle.std.proofs.Common.{◌≡◌, map, drop, find}
use Rattle.oe_graph.specs.Catalogue.{parameter_of}
use Rattle.oe_graph.specs.Plain.{plain_named}
use Rattle.oe_explain.specs.AtFault.{is_missing}
use Rattle.oe_explain.proofs.at_fault.first_missing.Given as goal

abbrev pub invariant-loop-entry : goal.invariant-loop-entry
invariant-loop-entry l =
    find (is_missing (plain_named l.arguments.items)) (map parameter_of l.parameters)
    ≡ find (is_missing (plain_named l.arguments.items)) (map parameter_of (drop l.entry-index l.parameters))
