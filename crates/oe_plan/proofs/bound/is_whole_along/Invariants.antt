use Rattle.std.proofs.Common.{◌≡◌, false, take}
use Rattle.std.specs.Prelude.{unwrap_or}
use Rattle.std.specs.List.{list_any}
use Rattle.oe_check.specs.Reach.{whole_of_node}
use Rattle.oe_plan.proofs.bound.is_whole_along.Given as goal

-- none of the nodes so far needs the whole side
abbrev pub invariant-loop-node : goal.invariant-loop-node
invariant-loop-node l =
    list_any (λ node. unwrap_or (whole_of_node l.checked node l.along) false) (take l.node-index l.steps) ≡ false
