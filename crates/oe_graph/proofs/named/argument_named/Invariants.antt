use Rattle.std.proofs.Common.{◌≡◌, drop}
use Rattle.oe_graph.specs.Plain.{plain_named}
use Rattle.oe_graph.specs.References.{argument_named}
use Rattle.oe_graph.proofs.named.argument_named.Given as goal

abbrev pub invariant-loop-entry : goal.invariant-loop-entry
invariant-loop-entry l =
    argument_named l.name (plain_named (drop l.entry-index l.entry-items)) ≡ argument_named l.name (plain_named l.entry-items)
