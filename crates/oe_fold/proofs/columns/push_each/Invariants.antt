use Rattle.std.proofs.Common.{◌≡◌, ℕ, ◌<◌, ◌≤◌, take}
use Rattle.std.specs.List.{All, slice_index_or}
use Rattle.oe_cell.specs.Cells.{IsCell}
use Rattle.oe_cell.specs.declared.cell.Cell.TheVariants.{Empty}
use Rattle.oe_fold.specs.Progress.{step_of, no_cells}
use Rattle.oe_fold.proofs.columns.push_each.Given as goal

abbrev pub invariant-loop-k : goal.invariant-loop-k
invariant-loop-k l = record {
  stepped : (j : ℕ) → j < l.k → slice_index_or l.tallies j no_cells ≡ step_of l.reducer l.skips (slice_index_or l.initial.tallies j no_cells) (slice_index_or l.row j Empty);
  rest : (j : ℕ) → l.k ≤ j → slice_index_or l.tallies j no_cells ≡ slice_index_or l.initial.tallies j no_cells;
  known : All IsCell (take l.k l.row);
}
