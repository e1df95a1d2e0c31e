use Rattle.std.proofs.Common.{◌≡◌, ℕ, ◌<◌, ◌≤◌}
use Rattle.std.specs.List.{slice_index_or}
use Rattle.oe_cell.specs.declared.cell.Cell.TheVariants.{Empty}
use Rattle.oe_cell.specs.Operations.{choose_of}
use Rattle.oe_expr.proofs.row.accept_one.Given as goal

abbrev pub invariant-loop-k : goal.invariant-loop-k
invariant-loop-k l = record {
  chosen : (j : ℕ) → j < l.k → slice_index_or l.out j Empty ≡ choose_of (slice_index_or l.values j Empty) l.accept (slice_index_or l.initial.out j Empty);
  rest : (j : ℕ) → l.k ≤ j → slice_index_or l.out j Empty ≡ slice_index_or l.initial.out j Empty;
}
