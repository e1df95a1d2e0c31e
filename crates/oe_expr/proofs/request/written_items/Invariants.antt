use Rattle.std.proofs.Common.{◌≡◌, length}
use Rattle.oe_graph.specs.Plain.{plain_args}
use Rattle.oe_expr.specs.Requests as spec
use Rattle.oe_expr.proofs.ArgumentLemmas.{scalars_from}
use Rattle.oe_expr.proofs.request.written_items.Given as goal

abbrev pub invariant-loop-arg : goal.invariant-loop-arg
invariant-loop-arg l =
    (spec.scalars_in (plain_args l.arg-items) ≡ scalars_from l.scalars.items l.arg-items l.arg-index)
    × (length l.scalars.items ≡ l.arg-index)
