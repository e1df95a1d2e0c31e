use Rattle.std.proofs.Common.{◌≡◌, map, take}
use Rattle.oe_graph.specs.Plain.{plain_stored}
use Rattle.oe_calls.specs.Rounds.{cleared_stored}
use Rattle.oe_resolve.proofs.clear_stored.Given as goal

abbrev pub invariant-loop-process : goal.invariant-loop-process
invariant-loop-process l =
    map plain_stored l.cleared.items ≡ map cleared_stored (map plain_stored (take l.process-index l.stored))
