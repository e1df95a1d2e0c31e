use Rattle.std.proofs.Common.{◌≡◌, map, drop, find}
use Rattle.std.specs.Option.{is_none}
use Rattle.oe_graph.specs.Catalogue.{parameter_of}
use Rattle.oe_graph.specs.Plain.{plain_named}
use Rattle.oe_graph.specs.Printed.{names_of}
use Rattle.oe_explain.specs.AtFault.{parameter_named}
use Rattle.oe_explain.proofs.at_fault.first_unknown.Given as goal

abbrev pub invariant-loop-entry : goal.invariant-loop-entry
invariant-loop-entry l =
    find (λ name. is_none (parameter_named name (map parameter_of l.parameters))) (names_of (plain_named l.entry-items))
    ≡ find (λ name. is_none (parameter_named name (map parameter_of l.parameters))) (names_of (plain_named (drop l.entry-index l.entry-items)))
