use Rattle.std.proofs.Common.{◌≡◌, take}
use Rattle.oe_expr.specs.PlainRequests.{plain_scalars}
use Rattle.oe_expr.specs.Places.{mark_names, items_names}
use Rattle.oe_expr.specs.Requests.{written}
use Rattle.oe_expr.proofs.compile.mark_each.Given as goal

abbrev pub invariant-loop-scalar : goal.invariant-loop-scalar
invariant-loop-scalar l =
    l.needed.items ≡ mark_names l.nodes.items l.initial.needed.items (items_names (written (plain_scalars (take l.scalar-index l.scalars.items))))
