use Rattle.std.proofs.Common.{◌≡◌, ℕ, ◌<◌}
use Rattle.std.specs.List.{slice_index_or}
use Rattle.oe_cell.specs.declared.cell.Cell.TheVariants.{Empty}
use Rattle.oe_expr.specs.Operations.{binary_of}
use Rattle.oe_expr.proofs.row.each_with_one.Given as goal

abbrev pub invariant-loop-k : goal.invariant-loop-k
invariant-loop-k g l = (j : ℕ) → j < l.k → slice_index_or l.out j Empty ≡ binary_of g.O.OnTwo.operation (slice_index_or l.xs j Empty) l.y
