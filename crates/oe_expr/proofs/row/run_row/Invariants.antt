use Rattle.std.proofs.Common.{◌≡◌, ℕ, ◌-◌, ◌<◌, ◌≤◌, length}
use Rattle.std.specs.List.{slice_index_or}
use Rattle.oe_cell.specs.declared.cell.Cell.TheVariants.{Empty}
use Rattle.oe_expr.specs.Programs.{result_value}
use Rattle.oe_expr.specs.Strips.{row_inputs}
use Rattle.oe_expr.proofs.row.run_row.Given as goal

abbrev pub invariant-loop-from : goal.invariant-loop-from
invariant-loop-from l = record {
  within : l.from ≤ length l.out;
  value : (k : ℕ) → k < l.from → slice_index_or l.out k Empty ≡ result_value l.program (row_inputs l.row l.start k);
}

abbrev pub decreases-loop-from : goal.decreases-loop-from
decreases-loop-from l = length l.out - l.from
