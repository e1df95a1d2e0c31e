use Rattle.std.proofs.Common.{◌≡◌, ℕ, map, drop}
use Rattle.oe_graph.specs.Plain.{plain_nodes, plain_stored}
use Rattle.oe_calls.specs.Calls.{fits_callback}
use Rattle.oe_calls.proofs.calls.nodes_fit.Given as goal

abbrev pub invariant-loop-node : goal.invariant-loop-node
invariant-loop-node l =
    (index : ℕ)
    → fits_callback (map plain_stored l.stored) l.of_dimension (record { nodes = plain_nodes l.node-items; result = index })
    ≡ fits_callback (map plain_stored l.stored) l.of_dimension
    (record { nodes = plain_nodes (drop l.node-index l.node-items); result = index })
