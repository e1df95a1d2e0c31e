use Rattle.std.proofs.Common.{◌≡◌}
use Rattle.oe_order.specs.Graph.{graph_of}
use Rattle.oe_order.specs.Live.{taken_from}
use Rattle.oe_plan.proofs.widths.is_taken_from.Given as goal

-- the steps so far do not take the node
abbrev pub invariant-loop-later : goal.invariant-loop-later
invariant-loop-later l =
    taken_from (graph_of l.links) l.steps l.step l.node ≡ taken_from (graph_of l.links) l.steps l.later l.node
