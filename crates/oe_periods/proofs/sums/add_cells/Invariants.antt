use Rattle.std.proofs.Common.{◌≡◌, ◌<◌, ◌≤◌, ◌++◌, ◌∷◌, [], ℕ, List, slice_index_or}
use Rattle.oe_cell.specs.declared.cell.Cell.{Cell}
use Rattle.oe_cell.specs.declared.cell.Cell.TheVariants.{Empty}
use Rattle.oe_periods.specs.Sums.{HasSummed}
use Rattle.oe_periods.proofs.sums.add_cells.Given as goal

abbrev pub invariant-loop-index : goal.invariant-loop-index
invariant-loop-index l = record {
  taken : (k : ℕ) → k < l.index → (before : List Cell)
      → HasSummed l.ignore before (slice_index_or l.fn.sums k Empty) (slice_index_or l.fn.marks k Empty)
      → HasSummed l.ignore (before ++ slice_index_or l.cells k Empty ∷ []) (slice_index_or l.sums k Empty) (slice_index_or l.marks k Empty);
  sums : (k : ℕ) → l.index ≤ k → slice_index_or l.sums k Empty ≡ slice_index_or l.fn.sums k Empty;
  marks : (k : ℕ) → l.index ≤ k → slice_index_or l.marks k Empty ≡ slice_index_or l.fn.marks k Empty;
}
