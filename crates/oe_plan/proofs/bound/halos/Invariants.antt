use Rattle.std.proofs.Common.{◌≡◌, take}
use Rattle.std.specs.Prelude.{min, sum_by, unwrap_or}
use Rattle.oe_dims.specs.declared.kind.Kind.TheVariants.{Y, X}
use Rattle.oe_check.specs.Reach.{halo_of_node}
use Rattle.oe_plan.proofs.bound.halos.Given as goal

-- the reach of the nodes so far, cut at the limit
abbrev pub invariant-loop-node : goal.invariant-loop-node
invariant-loop-node l =
    (l.along_x ≡ min 65536 (sum_by (λ node. unwrap_or (halo_of_node l.checked node X) 0) (take l.node-index l.steps)))
    × (l.along_y ≡ min 65536 (sum_by (λ node. unwrap_or (halo_of_node l.checked node Y) 0) (take l.node-index l.steps)))
