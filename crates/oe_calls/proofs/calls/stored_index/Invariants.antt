use Rattle.std.proofs.Common.{◌≡◌, map, drop}
use Rattle.oe_graph.specs.Plain.{plain_stored}
use Rattle.oe_calls.specs.Calls.{stored_named}
use Rattle.oe_calls.proofs.calls.stored_index.Given as goal

abbrev pub invariant-loop-index : goal.invariant-loop-index
invariant-loop-index l =
    stored_named l.id (map plain_stored l.stored) ≡ stored_named l.id (map plain_stored (drop l.index l.stored))
