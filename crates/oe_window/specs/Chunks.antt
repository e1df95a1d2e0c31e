-- How a grid parts a shape into chunks.
use Rattle.std.specs.Prelude.{◌≡◌, ℕ, ◌+◌, ◌-◌, ◌*◌, ◌/◌, ◌%◌, ◌<◌, ◌≤◌, ◌==◌, min, if◌then◌else◌, List, slice_get, Some}
use Rattle.oe_dims.specs.Dimensions.{Dimensions, extent, most_labels}
use Rattle.oe_dims.specs.Positions.{Position}
use Rattle.oe_window.specs.Windows.{span_below, span_length}
use Rattle.oe_window.specs.Runs.{window_numbers}
use Rattle.oe_window.specs.declared.grid.ChunkSize.{ChunkSize}
use Rattle.oe_window.specs.declared.window.Span.{Span}
use Rattle.oe_window.specs.declared.window.Window.{Window}

-- how many indices a shape has along each dimension, and the sides of its chunks; bands are never cut
pub record Tiling : Type 0 where
  pub t : ℕ
  pub bands : ℕ
  pub y : ℕ
  pub x : ℕ
  pub side_t : ℕ
  pub side_y : ℕ
  pub side_x : ℕ

-- so many indices along t, bands, y and x, in chunks of this size
abbrev pub tiling : ℕ → ℕ → ℕ → ℕ → ChunkSize → Tiling
tiling t bands y x size = record {
  t = t;
  bands = bands;
  y = y;
  x = x;
  side_t = size.t;
  side_y = size.y;
  side_x = size.x;
}

-- the tiling of a shape into chunks of this size
abbrev pub tiling_of : Dimensions → ChunkSize → Tiling
tiling_of d size = tiling (extent d.t) (extent d.bands) (extent d.y) (extent d.x) size

-- a side that a chunk may have
abbrev pub most_side : ℕ
most_side = 4096

abbrev pub IsSide : ℕ → Type 0
IsSide side = (1 ≤ side) × (side ≤ most_side)

-- what every grid keeps
pub record IsTiling (g : Tiling) : Type 0 where
  pub t : g.t ≤ most_labels
  pub bands : g.bands ≤ most_labels
  pub y : g.y ≤ most_labels
  pub x : g.x ≤ most_labels
  pub side_t : IsSide g.side_t
  pub side_y : IsSide g.side_y
  pub side_x : IsSide g.side_x

-- a position of the shape
pub record IsInside (g : Tiling) (p : Position) : Type 0 where
  pub t : p.t < g.t
  pub bands : p.band < g.bands
  pub y : p.y < g.y
  pub x : p.x < g.x

-- how many parts of a side cover so many indices: their quotient, rounded up
abbrev pub parts_along : ℕ → ℕ → ℕ
parts_along indices side = (indices + side - 1) / side

-- how many chunks a grid has: none where a dimension has no labels
abbrev pub chunk_count : Tiling → ℕ
chunk_count g =
    if g.bands == 0 then 0
    else parts_along g.t g.side_t * parts_along g.y g.side_y * parts_along g.x g.side_x

-- the number of the chunk in which a position lies: x runs fastest, then y, then t
abbrev pub chunk_number : Tiling → Position → ℕ
chunk_number g p =
    (p.t / g.side_t * parts_along g.y g.side_y + p.y / g.side_y) * parts_along g.x g.side_x + p.x / g.side_x

-- the indices of one part, which the end of the dimension may cut
abbrev pub part_span : ℕ → ℕ → ℕ → Span
part_span indices side part = record { from = part * side; to = min (part * side + side) indices }

-- the chunk of a number
abbrev pub chunk_window : Tiling → ℕ → Window
chunk_window g k = record {
  t = part_span g.t g.side_t (k / parts_along g.x g.side_x / parts_along g.y g.side_y);
  bands = span_below g.bands;
  y = part_span g.y g.side_y (k / parts_along g.x g.side_x % parts_along g.y g.side_y);
  x = part_span g.x g.side_x (k % parts_along g.x g.side_x);
}

-- the row-major numbers of a chunk's positions
abbrev pub chunk_numbers : Dimensions → Tiling → ℕ → List ℕ
chunk_numbers d g k = window_numbers d (chunk_window g k)

-- so many lists have each number below an end once, in one of them, and have no other number
pub record PartNumbers (lists : ℕ) (numbers : ℕ → List ℕ) (end : ℕ) : Type 0 where
  pub below : (list index number : ℕ) → list < lists →
      slice_get (numbers list) index ≡ Some number → number < end
  pub some : (number : ℕ) → number < end →
      (list : ℕ) × (index : ℕ) × (list < lists) × (slice_get (numbers list) index ≡ Some number)
  pub once : (number a i b j : ℕ) → slice_get (numbers a) i ≡ Some number →
      slice_get (numbers b) j ≡ Some number → (a ≡ b) × (i ≡ j)

-- no side of the window is longer than a chunk's, and no band is cut
pub record FitsSides (g : Tiling) (window : Window) : Type 0 where
  pub t : span_length window.t ≤ g.side_t
  pub bands : window.bands ≡ span_below g.bands
  pub y : span_length window.y ≤ g.side_y
  pub x : span_length window.x ≤ g.side_x
