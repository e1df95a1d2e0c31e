use Rattle.std.proofs.Common.{◌≡◌, map, drop}
use Rattle.oe_expr.specs.Operations.{operation_among}
use Rattle.oe_expr.proofs.operation.operation_in.Given as goal

abbrev pub invariant-loop-entry : goal.invariant-loop-entry
invariant-loop-entry l =
    operation_among l.id (map (λ e. (e.0.now, e.1)) l.entries)
    ≡ operation_among l.id (map (λ e. (e.0.now, e.1)) (drop l.entry-index l.entries))
