use Rattle.std.proofs.Common.{◌-◌, length, map}
use Rattle.oe_graph.specs.Plain.{plain_node, plain_stored}
use Rattle.oe_order.specs.Graph.{graph_of}
use Rattle.oe_calls.proofs.ReachingLemmas.{Reaching}
use Rattle.oe_calls.proofs.reach.reach.Given as goal

abbrev pub invariant-loop-done : goal.invariant-loop-done
invariant-loop-done l =
    Reaching (map plain_stored l.stored) (graph_of l.calls.links.items) (plain_node l.node) l.done l.found.items l.marks.items

abbrev pub decreases-loop-done : goal.decreases-loop-done
decreases-loop-done l = length l.calls.links.items - l.done
