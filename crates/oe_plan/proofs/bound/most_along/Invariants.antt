use Rattle.std.proofs.Common.{◌≡◌, ◌≤◌, take}
use Rattle.std.specs.Prelude.{map, max}
use Rattle.oe_order.specs.Live.{largest}
use Rattle.oe_window.specs.Windows.{extent_along}
use Rattle.oe_plan.specs.Figures.{shape_of_node}
use Rattle.oe_plan.proofs.bound.most_along.Given as goal

-- the largest of the nodes so far
abbrev pub invariant-loop-node : goal.invariant-loop-node
invariant-loop-node l =
    (l.most ≡ max 1 (largest (map (λ node. extent_along (shape_of_node l.checked node) l.along) (take l.node-index l.steps))))
    × (l.most ≤ 65536)
