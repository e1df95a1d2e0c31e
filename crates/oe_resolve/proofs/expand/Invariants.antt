use Rattle.std.proofs.Common.{◌≡◌, ◌<◌, ◌≤◌, ◌-◌, true, length, map}
use Rattle.oe_graph.specs.Plain.{plain_graph, plain_stored}
use Rattle.oe_calls.specs.HasCall.{nodes_call}
use Rattle.oe_resolve.specs.Expansion.{IsEarly}
use Rattle.oe_graph.specs.Faults.{IsLeastFault}
use Rattle.oe_calls.specs.Rounds.{expanded_by, cleared_graph}
use Rattle.oe_calls.specs.Sizes.{IsWithinLimits}
use Rattle.oe_resolve.proofs.expand.Given as goal

abbrev pub decreases-loop-times : goal.decreases-loop-times
decreases-loop-times l = 1048576 - l.times

abbrev pub invariant-loop-times : goal.invariant-loop-times
invariant-loop-times l =
    (l.times ≤ 1048576)
    × (plain_graph l.expanded ≡ expanded_by l.times (map plain_stored l.stored) (plain_graph l.graph))
    × IsLeastFault (IsEarly (map plain_stored l.stored) (plain_graph l.graph) l.times) l.fault
    × (0 < l.times → nodes_call (map plain_stored l.stored) (cleared_graph (plain_graph l.graph)).nodes ≡ true)
    × IsWithinLimits (plain_graph l.expanded)
