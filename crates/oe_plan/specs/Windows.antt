-- The windows of all steps of a run for one chunk of its result.
use Rattle.std.specs.Prelude.{◌≡◌, ◌<◌, ◌≤◌, ℕ, List, length, slice_index, slice_index_or}
use Rattle.oe_dims.specs.declared.kind.Kind.{Kind}
use Rattle.oe_dims.specs.declared.kind.Kind.TheVariants.{Time, Bands, Y, X}
use Rattle.oe_ops.specs.Needs.{HoldsNeed, zero_window}
use Rattle.oe_order.specs.Live.{Steps}
use Rattle.oe_order.specs.Order.{IsListing}
use Rattle.oe_check.specs.Checked.{CheckedGraph}
use Rattle.oe_check.specs.Links.{links_of}
use Rattle.oe_window.specs.Windows.{Holds, position_count, span_length, whole_window}
use Rattle.oe_window.specs.declared.grid.ChunkSize.{ChunkSize}
use Rattle.oe_window.specs.declared.window.Span.{Span}
use Rattle.oe_window.specs.declared.window.Window.{Window}
use Rattle.oe_plan.specs.Figures.{largest_window, shape_of_node, side_along, steps_of}
use Rattle.oe_plan.specs.Steps.{NeedsOfNode, Takes}

-- the order is that of the run: each node that the result needs stands once, behind its arguments
pub record IsOrderOf (c : CheckedGraph) (order : Steps) : Type 0 where
  pub steps_are : order.steps ≡ steps_of c
  pub listing : IsListing (links_of c.nodes) c.result order.steps

-- the indices of a window along a dimension
abbrev pub span_along : Window → Kind → Span
span_along window Time = window.t
span_along window Bands = window.bands
span_along window Y = window.y
span_along window X = window.x

-- the window of a step, the zero window where there is no such step
abbrev pub window_at : List Window → ℕ → Window
window_at windows step = slice_index_or windows step zero_window

-- the box of the result's step holds the chunk, and that of each other step what the boxes of all steps that take its
-- cube need of it
pub record IsClosed (c : CheckedGraph) (chunk : Window) (boxes : ℕ → Window) : Type 0 where
  pub holds : (s : ℕ) → s < length (steps_of c) → slice_index (steps_of c) s ≡ c.result → Holds (boxes s) chunk
  pub needed : (s number r : ℕ) → Takes c s number r
      → HoldsNeed (NeedsOfNode c (slice_index (steps_of c) s) number) (boxes s) (boxes r)

-- The windows of a chunk: the least boxes that are closed. Each lies in the shape of its node, that of the result is
-- the chunk, and none has more indices along a dimension, or more cells, than the plan says of the largest.
pub record AreWindows (c : CheckedGraph) (size : ChunkSize) (chunk : Window) (windows : List Window) : Type 0 where
  pub each : length windows ≡ length (steps_of c)
  pub closed : IsClosed c chunk (window_at windows)
  pub least : (boxes : ℕ → Window) → IsClosed c chunk boxes
      → (s : ℕ) → s < length windows → Holds (boxes s) (window_at windows s)
  pub inside : (s : ℕ) → s < length windows
      → Holds (whole_window (shape_of_node c (slice_index (steps_of c) s))) (window_at windows s)
  pub result : (s : ℕ) → s < length windows → slice_index (steps_of c) s ≡ c.result → window_at windows s ≡ chunk
  pub sides : (s : ℕ) → s < length windows → (along : Kind)
      → span_length (span_along (window_at windows s) along) ≤ side_along c size along
  pub few : (s : ℕ) → s < length windows → position_count (window_at windows s) ≤ largest_window c size
