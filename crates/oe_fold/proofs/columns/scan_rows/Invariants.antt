use Rattle.std.proofs.Common.{ℕ, ◌+◌, ◌<◌, ◌≤◌}
use Rattle.std.specs.List.{All, slice_index_or}
use Rattle.oe_cell.specs.Cells.{IsCell}
use Rattle.oe_fold.specs.Columns.{column}
use Rattle.oe_fold.specs.Progress.{no_cells, IsTallyOf}
use Rattle.oe_fold.proofs.columns.scan_rows.Given as goal

abbrev pub invariant-loop-t : goal.invariant-loop-t
invariant-loop-t l = record {
  tally : (k : ℕ) → k < l.n → IsTallyOf l.reducer l.skips (column l.cells l.stride l.t (l.from + k)) (slice_index_or l.tallies k no_cells);
  known : (k : ℕ) → k < l.n → All IsCell (column l.cells l.stride l.t (l.from + k));
  few : (k : ℕ) → k < l.n → (slice_index_or l.tallies k no_cells).count ≤ l.t;
}
