use Rattle.std.proofs.Common.{◌≡◌, ℕ, ◌+◌, ◌<◌, Bool, List}
use Rattle.std.specs.List.{All, slice_index_or}
use Rattle.oe_cell.specs.Cells.{IsCell}
use Rattle.oe_cell.specs.declared.cell.Cell.{Cell}
use Rattle.oe_cell.specs.declared.cell.Cell.TheVariants.{Empty}
use Rattle.oe_fold.specs.Value.{reduction_of}
use Rattle.oe_fold.specs.Progress.{skips_nulls, no_cells, IsTallyOf}
use Rattle.oe_fold.proofs.columns.settle_row.Given as goal

abbrev pub invariant-loop-k : goal.invariant-loop-k
invariant-loop-k l = record {
  value : (j : ℕ) → j < l.k → (ignore : Bool) → (cells : List Cell) → IsTallyOf l.reducer (skips_nulls l.reducer ignore) cells (slice_index_or l.tallies j no_cells) → All IsCell cells → slice_index_or l.out (l.from + j) Empty ≡ reduction_of l.reducer ignore cells;
  cell : (j : ℕ) → j < l.k → IsCell (slice_index_or l.out (l.from + j) Empty);
  before : (j : ℕ) → j < l.from → slice_index_or l.out j Empty ≡ slice_index_or l.initial.out j Empty;
}
