use Rattle.std.proofs.Common.{◌≡◌, ◌≤◌, length}
use Rattle.oe_expr.specs.Placed.{AreMarked, IsNeeded}
use Rattle.oe_expr.proofs.compile.needed_nodes.Given as goal

abbrev pub invariant-loop-left : goal.invariant-loop-left
invariant-loop-left l = record {
  within : l.left ≤ length l.order.items;
  long : length l.needed.items ≡ length l.nodes.items;
  last : IsNeeded l.needed.items l.last;
  marked : AreMarked l.nodes.items l.order.items l.needed.items l.left;
}

abbrev pub decreases-loop-left : goal.decreases-loop-left
decreases-loop-left l = l.left
