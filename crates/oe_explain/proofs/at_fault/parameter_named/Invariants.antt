use Rattle.std.proofs.Common.{◌≡◌, map, drop}
use Rattle.oe_graph.specs.Catalogue.{parameter_of}
use Rattle.oe_explain.specs.AtFault.{parameter_named}
use Rattle.oe_explain.proofs.at_fault.parameter_named.Given as goal

abbrev pub invariant-loop-entry : goal.invariant-loop-entry
invariant-loop-entry l =
    parameter_named l.name (map parameter_of l.parameters) ≡ parameter_named l.name (map parameter_of (drop l.entry-index l.parameters))
