-- Running sums along t, as the code has them.
use Rattle.std.specs.Prelude.{◌≡◌, ◌<◌, ◌∷◌, ◌++◌, [], ℕ, Bool, List, length, slice_index_or}
use Rattle.oe_cell.specs.declared.cell.Cell.{Cell}
use Rattle.oe_cell.specs.declared.cell.Cell.TheVariants.{Empty}
use Rattle.oe_dims.specs.Positions.{Position}
use Rattle.oe_dims.specs.declared.kind.Kind.TheVariants.{Time}
use Rattle.oe_periods.specs.Sums.{HasSummed, running_sum}
use Rattle.oe_window.specs.Windows.{IsIn, number_in, span_length}
use Rattle.oe_window.specs.declared.window.Window.{Window}
use Rattle.oe_ops.specs.Lists.{list_from, with_index}
use Rattle.oe_ops.specs.Slices.{cell_of}
use Rattle.oe_ops.specs.declared.slice.Slice.{Slice}

-- the running sum at a position, from the cells that a slice lists at all indices of t up to its own
abbrev pub sum_at : Bool → Slice → Position → Cell
sum_at ignore slice p = running_sum ignore (list_from slice Time 0 p.t p) (cell_of slice p)

-- the slice lists, beside each position of a window, all those at the indices of t before the window's end
abbrev pub HoldsAllBefore : Window → Slice → Type 0
HoldsAllBefore window slice =
    (p : Position) (index : ℕ) → IsIn window p → index < window.t.to → IsIn slice.window (with_index Time p index)

-- ---- a row of pixels

-- a row of pixels along x of a window: a cell of each, and the sum and the mark of its cells so far
pub record IsRowOf (window : Window) (cells sums marks : List Cell) : Type 0 where
  pub some : 0 < length cells
  pub width : length cells ≡ span_length window.x
  pub sum_each : length sums ≡ length cells
  pub mark_each : length marks ≡ length cells

-- what is written for each pixel is the running sum at its cell, whatever cells stand before it, where its sum and its mark
-- are those of these and of its cell
abbrev pub AreRunningSums : List Cell → List Cell → List Cell → (ℕ → Cell) → Type 0
AreRunningSums cells sums marks written =
    (k : ℕ) → k < length cells → (ignore : Bool) (before : List Cell)
    → HasSummed ignore (before ++ slice_index_or cells k Empty ∷ []) (slice_index_or sums k Empty)
    (slice_index_or marks k Empty)
    → written k ≡ running_sum ignore before (slice_index_or cells k Empty)

-- the cell that a list has for a position of a window
abbrev pub cell_on : Window → List Cell → Position → Cell
cell_on window cells p = slice_index_or cells (number_in window p) Empty

-- the cells at some positions of a window are as they were
abbrev pub KeepsWhere : (Position → Type 0) → Window → List Cell → List Cell → Type 0
KeepsWhere Other window old new =
    (p : Position) → IsIn window p → Other p → cell_on window new p ≡ cell_on window old p
