use Rattle.std.proofs.Common.{map}
use Rattle.oe_graph.specs.Plain.{plain_stored}
use Rattle.oe_order.specs.Graph.{graph_of}
use Rattle.oe_calls.proofs.ReadLemmas.{IsRead}
use Rattle.oe_calls.proofs.reach.read_calls.Given as goal

abbrev pub invariant-loop-process : goal.invariant-loop-process
invariant-loop-process l =
    IsRead (map plain_stored l.stored) l.process-index (graph_of l.links.items) l.supported.items
