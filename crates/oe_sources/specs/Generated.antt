-- The collection that the demonstration reads: one cell for each position, made from its indices.
use Rattle.std.specs.Prelude.{◌≡◌, ℕ, ◌+◌, ◌*◌, ◌%◌, ◌-◌, ◌==◌, if◌then◌else◌, ℤ, pos, List, [], ◌∷◌, map, codes, Some}
use Rattle.std.specs.List.{range_with_len}
use Rattle.oe_cell.specs.declared.cell.Cell.{Cell}
use Rattle.oe_cell.specs.declared.cell.Cell.TheVariants.{Empty, Number}
use Rattle.oe_dims.specs.Dimensions.{Dimensions}
use Rattle.oe_dims.specs.Positions.{Position}
use Rattle.oe_sources.specs.Source.{Contents}
use Rattle.oe_window.specs.Windows.{positions, span_length, whole_window}
use Rattle.oe_window.specs.declared.window.Window.{Window}

-- 1 January 2024 at 00:00:00Z and the three days after it
abbrev pub generated_days : List ℤ
generated_days = pos 1704067200 ∷ pos 1704153600 ∷ pos 1704240000 ∷ pos 1704326400 ∷ []

-- the labels of so many pixels, 10 units apart: along y they fall to 0, along x they rise from 0
abbrev pub falling_labels : ℕ → List ℤ
falling_labels side = map (λ i. pos (10 * (side - 1 - i))) (range_with_len 0 side)

abbrev pub rising_labels : ℕ → List ℤ
rising_labels side = map (λ i. pos (10 * i)) (range_with_len 0 side)

-- four days, two bands, and so many pixels along y and x of EPSG 32633
abbrev pub generated_shape : ℕ → Dimensions
generated_shape side = record {
  epsg = 32633;
  t = Some generated_days;
  bands = Some (codes "B1" ∷ codes "B2" ∷ []);
  y = Some (falling_labels side);
  x = Some (rising_labels side);
}

-- the cell at a position is the rest of this sum by 101
abbrev pub generated_sum : ℕ → Position → ℕ
generated_sum seed p = seed + 7 * p.x + 13 * p.y + 17 * p.t + 19 * p.band

-- a rest as a cell: null where it is 100
abbrev pub rest_cell : ℕ → Cell
rest_cell rest = if rest == 100 then Empty else Number (record { num = pos rest; den = 1 })

abbrev pub generated_cell : ℕ → Position → Cell
generated_cell seed p = rest_cell (generated_sum seed p % 101)

abbrev pub generated_contents : ℕ → ℕ → Contents
generated_contents seed side = record {
  cells = map (generated_cell seed) (positions (whole_window (generated_shape side)));
  damaged = [];
}

-- a window with one index along t, bands and y, and its first position
pub record IsRow (window : Window) : Type 0 where
  pub t : span_length window.t ≡ 1
  pub bands : span_length window.bands ≡ 1
  pub y : span_length window.y ≡ 1
