-- The planes and the rows of a window, each of which is one piece of the list of its positions.
use Rattle.std.specs.Prelude.{◌≡◌, ℕ, ◌+◌, ◌*◌, ◌/◌, ◌%◌, ◌==◌, if◌then◌else◌}
use Rattle.std.specs.List.{slice_range}
use Rattle.oe_dims.specs.Positions.{Position}
use Rattle.oe_window.specs.Windows.{IsIn, Holds, span_at, span_length, positions, position_count, number_in}
use Rattle.oe_window.specs.declared.window.Window.{Window}

-- the positions of the part stand one behind the other among those of the window, from a number on
pub record IsPartFrom (first : ℕ) (window part : Window) : Type 0 where
  pub inside : Holds window part
  pub numbered : (p : Position) → IsIn part p → number_in window p ≡ first + number_in part p
  pub listed : slice_range (positions window) first (first + position_count part) ≡ positions part

-- how many positions a plane has
abbrev pub plane_size : Window → ℕ
plane_size w = span_length w.y * span_length w.x

-- how many planes and rows a window has: none where it has no position
abbrev pub plane_count : Window → ℕ
plane_count w = if position_count w == 0 then 0 else span_length w.t * span_length w.bands

abbrev pub row_count : Window → ℕ
row_count w = if position_count w == 0 then 0 else span_length w.t * span_length w.bands * span_length w.y

-- the plane of a number has one index along t and one along bands; the bands run fastest
abbrev pub plane_of : Window → ℕ → Window
plane_of w n = record w {
  t = span_at (w.t.from + n / span_length w.bands);
  bands = span_at (w.bands.from + n % span_length w.bands);
}

-- the row of a number has one index along t, bands and y; y runs fastest
abbrev pub row_of : Window → ℕ → Window
row_of w n = record w {
  t = span_at (w.t.from + n / span_length w.y / span_length w.bands);
  bands = span_at (w.bands.from + n / span_length w.y % span_length w.bands);
  y = span_at (w.y.from + n % span_length w.y);
}
