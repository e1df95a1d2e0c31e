use Rattle.std.proofs.Common.{Option, map, drop}
use Rattle.oe_graph.specs.Plain.{plain_node, plain_stored}
use Rattle.oe_graph.specs.declared.fault.Fault.{Fault}
use Rattle.oe_calls.proofs.FirstCallLemmas.{First}
use Rattle.oe_calls.proofs.reach.call_fault.Given as goal

abbrev pub invariant-loop-node : goal.invariant-loop-node
invariant-loop-node l =
    (o : Option Fault) → First (map plain_stored l.stored) (map plain_node (drop l.node-index l.node-items)) o
    → First (map plain_stored l.stored) (map plain_node l.node-items) o
