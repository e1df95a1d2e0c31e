use Rattle.std.proofs.Common.{◌≡◌, map, take}
use Rattle.oe_expr.proofs.compile.part_starts.Given as goal

abbrev pub invariant-loop-part : goal.invariant-loop-part
invariant-loop-part l = l.starts.items ≡ map (λ part. part.from) (take l.part-index l.lists.items)
