use Rattle.std.proofs.Common.{◌≡◌, ◌<◌, ◌++◌, ◌∷◌, [], ℕ, Bool, List, slice_index_or}
use Rattle.oe_cell.specs.declared.cell.Cell.{Cell}
use Rattle.oe_cell.specs.declared.cell.Cell.TheVariants.{Empty}
use Rattle.oe_periods.specs.Sums.{HasSummed, running_sum}
use Rattle.oe_periods.proofs.sums.write_sums.Given as goal

abbrev pub invariant-loop-index : goal.invariant-loop-index
invariant-loop-index l =
    (k : ℕ) → k < l.index → (ignore : Bool) (before : List Cell)
    → HasSummed ignore (before ++ slice_index_or l.cells k Empty ∷ []) (slice_index_or l.sums k Empty) (slice_index_or l.marks k Empty)
    → slice_index_or l.out k Empty ≡ running_sum ignore before (slice_index_or l.cells k Empty)
