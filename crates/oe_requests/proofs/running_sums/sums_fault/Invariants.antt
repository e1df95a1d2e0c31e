use Rattle.std.proofs.Common.{Option, map, drop}
use Rattle.oe_graph.specs.Plain.{plain_node, plain_nodes}
use Rattle.oe_graph.specs.declared.fault.Fault.{Fault}
use Rattle.oe_requests.proofs.RunningSumLemmas.{First}
use Rattle.oe_requests.proofs.running_sums.sums_fault.Given as goal

abbrev pub invariant-loop-index : goal.invariant-loop-index
invariant-loop-index l =
    (o : Option Fault) → First l.id (plain_nodes l.nodes.items) (map plain_node (drop l.index l.nodes.items)) o
    → First l.id (plain_nodes l.nodes.items) (map plain_node l.nodes.items) o
