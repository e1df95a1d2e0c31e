use Rattle.std.proofs.Common.{◌≡◌, ◌+◌, drop}
use Rattle.oe_graph.specs.Plain.{plain_named}
use Rattle.oe_graph.specs.Printed.{names_of}
use Rattle.oe_calls.specs.Rounds.{index_among}
use Rattle.oe_resolve.proofs.defaults.index_among.Given as goal

abbrev pub invariant-loop-index : goal.invariant-loop-index
invariant-loop-index l =
    index_among l.name (names_of (plain_named l.arguments.items))
    ≡ l.index + index_among l.name (names_of (plain_named (drop l.index l.arguments.items)))
