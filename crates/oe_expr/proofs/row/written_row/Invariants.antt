use Rattle.std.proofs.Common.{◌≡◌, ℕ, ◌+◌, ◌<◌, map}
use Rattle.std.specs.List.{slice_index_or}
use Rattle.oe_cell.specs.declared.cell.Cell.TheVariants.{Empty}
use Rattle.oe_fold.specs.Value.{reduction_of}
use Rattle.oe_expr.specs.Programs.{operand_value}
use Rattle.oe_expr.specs.Strips.{register_at, row_inputs}
use Rattle.oe_expr.proofs.row.written_row.Given as goal

abbrev pub invariant-loop-k : goal.invariant-loop-k
invariant-loop-k l =
    (j : ℕ) → j < l.k → slice_index_or l.out j Empty ≡ reduction_of l.reducer l.ignore (map (operand_value (row_inputs l.row l.start (l.from + j)) (register_at l.registers l.n j)) l.elements)
