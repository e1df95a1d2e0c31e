use Rattle.std.proofs.Common.{◌≡◌, ◌≢◌, ◌⊎◌, ℕ, ◌<◌}
use Rattle.std.specs.List.{slice_index_or}
use Rattle.oe_cell.specs.declared.cell.Cell.TheVariants.{Empty}
use Rattle.oe_dims.specs.Positions.{Position}
use Rattle.oe_dims.specs.declared.kind.Kind.TheVariants.{Time}
use Rattle.oe_periods.specs.Sums.{HasSummed}
use Rattle.oe_window.specs.Windows.{IsIn, number_in}
use Rattle.oe_ops.specs.Lists.{list_from}
use Rattle.oe_ops.specs.Slices.{along_x, at_indices}
use Rattle.oe_ops.specs.Sums.{sum_at}
use Rattle.oe_ops.proofs.accumulate.sum_line.Given as goal

abbrev pub invariant-loop-t : goal.invariant-loop-t
invariant-loop-t l = record {
  summed : (k : ℕ) → k < l.width
      → HasSummed l.ignore (list_from l.slice Time 0 l.t (along_x (at_indices 0 l.band l.y l.window.x.from) k)) (slice_index_or l.sums k Empty) (slice_index_or l.marks k Empty);
  sums : (p : Position) → IsIn l.window p → p.band ≡ l.band → p.y ≡ l.y → p.t < l.t
      → slice_index_or l.out (number_in l.window p) Empty ≡ sum_at l.ignore l.slice p;
  others : (p : Position) → IsIn l.window p → (p.band ≢ l.band) ⊎ (p.y ≢ l.y)
      → slice_index_or l.out (number_in l.window p) Empty ≡ slice_index_or l.fn.out (number_in l.window p) Empty;
}
