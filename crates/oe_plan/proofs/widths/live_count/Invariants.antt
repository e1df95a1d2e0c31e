use Rattle.std.proofs.Common.{◌≡◌, ◌≤◌}
use Rattle.std.specs.List.{count_by, range_with_len}
use Rattle.oe_order.specs.Graph.{graph_of}
use Rattle.oe_order.specs.Live.{is_live}
use Rattle.oe_plan.proofs.widths.live_count.Given as goal

-- the live ones so far
abbrev pub invariant-loop-at : goal.invariant-loop-at
invariant-loop-at l =
    (l.count ≡ count_by (is_live (graph_of l.links) l.last l.steps l.step) (range_with_len 0 l.at)) × (l.count ≤ l.at)
