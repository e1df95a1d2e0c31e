-- Runs of one length whose first numbers stand at regular distances along t, bands and y.
use Rattle.std.specs.Prelude.{◌≡◌, ℕ, ◌+◌, ◌-◌, ◌*◌, ◌/◌, ◌%◌, ◌^◌, ◌<◌, ◌≤◌, List, map}
use Rattle.std.specs.List.{flat_map, range_with_len}
use Rattle.oe_dims.specs.Dimensions.{Dimensions, extent}
use Rattle.oe_window.specs.Runs.{laid}
use Rattle.oe_window.specs.Windows.{span_length}
use Rattle.oe_window.specs.declared.layout.Layout.{Layout}
use Rattle.oe_window.specs.declared.layout.Sides.{Sides}
use Rattle.oe_window.specs.declared.window.Window.{Window}

-- the run of a number, the numbers counted with y fastest, then bands, then t
abbrev pub first_of_run : Layout → ℕ → ℕ
first_of_run l k =
    l.first + k / l.y.count / l.bands.count * l.t.stride + k / l.y.count % l.bands.count * l.bands.stride
    + k % l.y.count * l.y.stride

abbrev pub run_of : Layout → ℕ → ℕ × ℕ
run_of l k = (first_of_run l k, l.length)

-- how many runs there are
abbrev pub run_count : Layout → ℕ
run_count l = l.t.count * l.bands.count * l.y.count

-- the runs of so many numbers, from a first number on
abbrev pub runs_from : Layout → ℕ → ℕ → List (ℕ × ℕ)
runs_from l k n = map (run_of l) (range_with_len k n)

-- the runs of all numbers
abbrev pub all_runs : Layout → List (ℕ × ℕ)
all_runs l = runs_from l 0 (run_count l)

-- how many indices a window and a cube have along each dimension
abbrev pub window_sides : Window → Sides
window_sides w = record { t = span_length w.t; bands = span_length w.bands; y = span_length w.y; x = span_length w.x }

abbrev pub cube_sides : Dimensions → Sides
cube_sides d = record { t = extent d.t; bands = extent d.bands; y = extent d.y; x = extent d.x }

-- the row-major number of a window's first position in a cube
abbrev pub first_number : Dimensions → Window → ℕ
first_number d w =
    ((w.t.from * extent d.bands + w.bands.from) * extent d.y + w.y.from) * extent d.x + w.x.from

-- the numbers of a box with these sides, in a cube with those, from the first one on
abbrev pub box_numbers : ℕ → Sides → Sides → List ℕ
box_numbers first sides cube =
    flat_map (λ t. flat_map (λ band. flat_map (λ y.
    range_with_len (first + t * (cube.bands * (cube.y * cube.x)) + band * (cube.y * cube.x) + y * cube.x) sides.x)
    (range_with_len 0 sides.y)) (range_with_len 0 sides.bands)) (range_with_len 0 sides.t)

-- each run ends before the next one begins, with a number between them
pub record IsSpread (l : Layout) : Type 0 where
  pub y : 1 < l.y.count → l.length < l.y.stride
  pub bands : 1 < l.bands.count → (l.y.count - 1) * l.y.stride + l.length < l.bands.stride
  pub t : 1 < l.t.count → (l.bands.count - 1) * l.bands.stride + (l.y.count - 1) * l.y.stride + l.length < l.t.stride

-- every number fits 64 bits, and every run has its step along each dimension
pub record Fits (l : Layout) : Type 0 where
  pub bands : 1 ≤ l.bands.count
  pub y : 1 ≤ l.y.count
  pub length : 1 ≤ l.length
  pub count : run_count l < 2 ^ 60
  pub numbers : l.first + l.t.count * l.t.stride + l.bands.count * l.bands.stride + l.y.count * l.y.stride < 2 ^ 60

-- what a box needs to lie in a cube
pub record IsBox (first : ℕ) (sides cube : Sides) : Type 0 where
  pub t : 1 ≤ sides.t
  pub bands : (1 ≤ sides.bands) × (sides.bands ≤ cube.bands)
  pub y : (1 ≤ sides.y) × (sides.y ≤ cube.y)
  pub x : (1 ≤ sides.x) × (sides.x ≤ cube.x)
  pub cells : sides.t * (cube.bands * (cube.y * cube.x)) < 2 ^ 41
  pub begins : first < 2 ^ 41

-- the longest runs whose numbers laid end to end are those of a box
pub record Covers (first : ℕ) (sides cube : Sides) (l : Layout) : Type 0 where
  pub laid : laid (all_runs l) ≡ box_numbers first sides cube
  pub spread : IsSpread l
  pub fits : Fits l
