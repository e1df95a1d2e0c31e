use Rattle.std.proofs.Common.{◌-◌, length}
use Rattle.oe_order.specs.Graph.{graph_of}
use Rattle.oe_order.proofs.Lives.{Assigned}
use Rattle.oe_order.proofs.pool.assign.Given as goal

abbrev pub invariant-loop-later : goal.invariant-loop-later
invariant-loop-later l =
    Assigned (graph_of l.nodes) l.last l.steps (length l.steps - l.later) l.pool.held.items l.pool.slots.items l.pool.free.items l.pool.count
