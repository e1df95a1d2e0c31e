use Rattle.std.proofs.Common.{◌≡◌, ℕ, ◌<◌}
use Rattle.std.specs.List.{slice_index_or}
use Rattle.oe_cell.specs.declared.cell.Cell.TheVariants.{Empty}
use Rattle.oe_expr.specs.Operations.{binary_of}
use Rattle.oe_expr.proofs.row.one_with_each.Given as goal

abbrev pub invariant-loop-k : goal.invariant-loop-k
invariant-loop-k g l = (j : ℕ) → j < l.k → slice_index_or l.out j Empty ≡ binary_of g.O.OnTwo.operation l.x (slice_index_or l.ys j Empty)
