-- The numbers of a plan: how large the windows of a run's nodes can be, and how many cells it holds at once.
use Rattle.std.specs.Prelude.{ℕ, ◌+◌, ◌*◌, min, max, Bool, false, if◌then◌else◌, List, length, map, slice_index, sum_by, unwrap_or}
use Rattle.std.specs.List.{list_any, range_with_len}
use Rattle.oe_dims.specs.Dimensions.{Dimensions}
use Rattle.oe_dims.specs.declared.kind.Kind.{Kind}
use Rattle.oe_dims.specs.declared.kind.Kind.TheVariants.{Time, Bands, Y, X}
use Rattle.oe_order.specs.Live.{largest, live_count}
use Rattle.oe_order.specs.Turns.{order_by_turns}
use Rattle.oe_check.specs.Checked.{CheckedGraph, outline_of_node}
use Rattle.oe_check.specs.Links.{links_of}
use Rattle.oe_check.specs.Reach.{halo_of_node, whole_of_node}
use Rattle.oe_window.specs.Chunks.{chunk_count, tiling_of}
use Rattle.oe_window.specs.Windows.{extent_along}
use Rattle.oe_window.specs.declared.grid.ChunkSize.{ChunkSize}
use Rattle.oe_plan.specs.Turns.{takes_sums, turns_of}

-- the nodes that the result needs, in the order in which they are worked off
abbrev pub steps_of : CheckedGraph → List ℕ
steps_of c = order_by_turns (links_of c.nodes) (turns_of c) c.result

-- the shape of a node's cube
abbrev pub shape_of_node : CheckedGraph → ℕ → Dimensions
shape_of_node c node = (outline_of_node c node).shape

-- ---- along one dimension, over all nodes of the run

-- the largest number of labels, and at least 1
abbrev pub most_along : CheckedGraph → Kind → ℕ
most_along c along = max 1 (largest (map (λ node. extent_along (shape_of_node c node) along) (steps_of c)))

-- by how many pixels all kernels together reach to each side
abbrev pub halo_along : CheckedGraph → Kind → ℕ
halo_along c along = sum_by (λ node. unwrap_or (halo_of_node c node along) 0) (steps_of c)

-- whether a node needs the whole side
abbrev pub is_whole_along : CheckedGraph → Kind → Bool
is_whole_along c along = list_any (λ node. unwrap_or (whole_of_node c node along) false) (steps_of c)

-- the most indices of a window for chunks of a side
abbrev pub widened : CheckedGraph → Kind → ℕ → ℕ
widened c along side =
    if is_whole_along c along then most_along c along
    else min (most_along c along) (side + 2 * halo_along c along)

-- the most indices of a window; bands are never cut
abbrev pub side_along : CheckedGraph → ChunkSize → Kind → ℕ
side_along c size Time = widened c Time size.t
side_along c size Bands = most_along c Bands
side_along c size Y = widened c Y size.y
side_along c size X = widened c X size.x

-- ---- how many windows are kept at once for a chunk

-- at a step those of all live nodes, and one more where its node takes running sums: the sums count as a node of their
-- own, which is worked off right before it
abbrev pub windows_at_step : CheckedGraph → ℕ → ℕ
windows_at_step c step =
    live_count (links_of c.nodes) c.result (steps_of c) step
    + (if takes_sums c (slice_index (steps_of c) step) then 1 else 0)

-- the most at one step
abbrev pub width_of_run : CheckedGraph → ℕ
width_of_run c = largest (map (windows_at_step c) (range_with_len 0 (length (steps_of c))))

-- ---- over all dimensions

-- the most cells of a window
abbrev pub largest_window : CheckedGraph → ChunkSize → ℕ
largest_window c size =
    side_along c size Time * side_along c size Bands * side_along c size Y * side_along c size X

-- how many cells an evaluation needs besides: for lists and for callbacks
abbrev pub scratch_of : CheckedGraph → ℕ
scratch_of c =
    2 * max (max (most_along c Time) (most_along c Bands)) (max (most_along c Y) (most_along c X)) + 192

-- how many cells so many workers hold at once, with two chunks each
abbrev pub bound_of : CheckedGraph → ChunkSize → ℕ → ℕ
bound_of c size workers = 2 * workers * (width_of_run c * largest_window c size + scratch_of c)

-- the most cells that a plan may hold at once
abbrev pub most_held_cells : ℕ
most_held_cells = 67108864

-- how many chunks the result has
abbrev pub chunks_of : CheckedGraph → ChunkSize → ℕ
chunks_of c size = chunk_count (tiling_of (shape_of_node c c.result) size)
