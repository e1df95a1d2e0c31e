use Rattle.std.proofs.Common.{◌≡◌, length}
use Rattle.oe_expr.proofs.compile.null_places.Given as goal

abbrev pub invariant-loop-index : goal.invariant-loop-index
invariant-loop-index l = length l.places.items ≡ l._index
