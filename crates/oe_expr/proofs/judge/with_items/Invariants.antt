use Rattle.std.proofs.Common.{◌++◌, List, Option, map, take}
use Rattle.oe_dims.specs.declared.kind.CellKind.{CellKind}
use Rattle.oe_expr.specs.KindCounts.{AreKindsOf}
use Rattle.oe_expr.specs.NodeKinds.{scalar_kind}
use Rattle.oe_expr.specs.PlainRequests.{plain_scalars}
use Rattle.oe_expr.specs.Scope.{plain_scope}
use Rattle.oe_expr.specs.States.{kind_named}
use Rattle.oe_expr.proofs.judge.with_items.Given as goal

abbrev pub invariant-loop-scalar : goal.invariant-loop-scalar
invariant-loop-scalar l =
    (kinds : List (Option CellKind)) → AreKindsOf kinds l.fn.before
    → AreKindsOf (kinds ++ map (scalar_kind (plain_scope l.scope) l.context (kind_named l.nodes l.states)) (plain_scalars (take l.scalar-index l.scalar-items))) l.kinds
