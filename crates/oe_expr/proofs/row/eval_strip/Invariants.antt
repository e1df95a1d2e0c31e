use Rattle.std.proofs.Common.{◌≡◌, ℕ, ◌+◌, ◌<◌, length}
use Rattle.std.specs.List.{slice_index_or}
use Rattle.oe_cell.specs.declared.cell.Cell.TheVariants.{Empty}
use Rattle.oe_expr.specs.Programs.{register_of}
use Rattle.oe_expr.specs.Strips.{register_at, row_inputs}
use Rattle.oe_expr.proofs.row.eval_strip.Given as goal

abbrev pub invariant-loop-number : goal.invariant-loop-number
invariant-loop-number l = record {
  before : (r : ℕ) → r < l.number → r + 1 < length l.program.steps.items → (j : ℕ) → j < l.n → register_at l.registers l.n j r ≡ register_of l.program.elements.items (row_inputs l.row l.start (l.from + j)) l.program.steps.items r;
  last : (r : ℕ) → r < l.number → r + 1 ≡ length l.program.steps.items → (j : ℕ) → j < l.n → slice_index_or l.out j Empty ≡ register_of l.program.elements.items (row_inputs l.row l.start (l.from + j)) l.program.steps.items r;
}
