use Rattle.std.proofs.Common.{◌≡◌, ◌++◌, map, take}
use Rattle.oe_expr.specs.PlainRequests.{plain_scalars}
use Rattle.oe_expr.specs.Places.{operand_of}
use Rattle.oe_expr.proofs.compile.push_elements.Given as goal

abbrev pub invariant-loop-scalar : goal.invariant-loop-scalar
invariant-loop-scalar l =
    l.elements.items ≡ l.initial.elements.items ++ map (operand_of l.context l.nodes.items l.places.items) (plain_scalars (take l.scalar-index l.scalars.items))
