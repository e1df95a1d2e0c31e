-- How many cells a run holds that is folded slab by slab: a slab is a window of the part before the time cut with so
-- many dates at most, and a plane a window without t.
use Rattle.std.specs.Prelude.{◌≡◌, ℕ, ◌+◌, ◌*◌, min, slice_index}
use Rattle.oe_dims.specs.declared.kind.Kind.TheVariants.{Time, Bands, Y, X}
use Rattle.oe_order.specs.Live.{width_of}
use Rattle.oe_order.specs.Order.{order_of}
use Rattle.oe_plan.specs.Figures.{chunks_of, most_along, scratch_of, side_along, steps_of}
use Rattle.oe_plan.specs.Steps.{arguments_of_node}
use Rattle.oe_check.specs.Checked.{CheckedGraph}
use Rattle.oe_check.specs.Links.{links_of}
use Rattle.oe_window.specs.Chunks.{IsSide}
use Rattle.oe_window.specs.declared.grid.ChunkSize.{ChunkSize}
use Rattle.oe_slab.specs.Cuts.{IsTimeCut, links_behind}

-- the sides are those that chunks may have; the one along t is that of a slab
pub record AreSlabSides (size : ChunkSize) : Type 0 where
  pub x : IsSide size.x
  pub y : IsSide size.y
  pub t : IsSide size.t

-- ---- windows

-- the most cells of a window without t: the other sides are those of a run in chunks
abbrev pub largest_plane : CheckedGraph → ChunkSize → ℕ
largest_plane c size = side_along c size Bands * side_along c size Y * side_along c size X

-- the most cells of a window of a slab
abbrev pub largest_slab : CheckedGraph → ChunkSize → ℕ
largest_slab c size = largest_plane c size * min (most_along c Time) size.t

-- ---- how many windows are kept at once

-- the node whose cube a reduction takes
abbrev pub taken_by : CheckedGraph → ℕ → ℕ
taken_by c fold = slice_index (arguments_of_node c fold) 0

-- before the cut, while the cube that is folded is evaluated on a slab; nothing there takes running sums, which need all
-- dates as the cut alone does
abbrev pub width_before : CheckedGraph → ℕ → ℕ
width_before c fold =
    let taken = taken_by c fold in
    width_of (links_of c.nodes) taken (steps_of (record c { result = taken }))

-- behind it, where the folded cube counts as loaded
abbrev pub width_behind : CheckedGraph → ℕ → ℕ
width_behind c fold = width_of (links_behind c fold) c.result (order_of (links_behind c fold) c.result)

-- ---- all of them

-- how many cells a run holds at once: the slabs, the folds of one plane of two cells each, the planes behind the cut,
-- and what an evaluation needs besides
abbrev pub slab_bound : CheckedGraph → ChunkSize → ℕ → ℕ
slab_bound c size fold =
    width_before c fold * largest_slab c size + 2 * largest_plane c size + width_behind c fold * largest_plane c size
    + scratch_of c

-- these are the bound of a run that is folded slab by slab, which has a time cut, and how many chunks its result has
pub record AreSlabFigures (c : CheckedGraph) (size : ChunkSize) (bound chunks : ℕ) : Type 0 where
  pub fold : ℕ
  pub cut : IsTimeCut c fold
  pub bound_is : bound ≡ slab_bound c size fold
  pub chunks_are : chunks ≡ chunks_of c size
