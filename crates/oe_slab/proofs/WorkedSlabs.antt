-- Worked values: slabs of a small cube and what a workspace holds, found by hand.
use Rattle.std.specs.Prelude.{◌≡◌, pos, true, false, List, [], ◌∷◌, Some, None, refl}
use Rattle.oe_cell.specs.declared.cell.Cell.{Cell}
use Rattle.oe_cell.specs.declared.cell.Cell.TheVariants.{Empty, Flag, Over}
use Rattle.oe_dims.specs.Cube.{Cube}
use Rattle.oe_fold.specs.Progress.{no_cells}
use Rattle.oe_fold.specs.declared.pass.Pass.{Pass}
use Rattle.oe_fold.specs.declared.reducer.Reducer.TheVariants.{Any}
use Rattle.oe_window.specs.Cells.{cells_on}
use Rattle.oe_window.specs.Windows.{span_below}
use Rattle.oe_window.specs.declared.window.Window.{Window}
use Rattle.oe_slab.specs.Slabs.{IsPlane, cells_by_date, numbered_position, slab_window}
use Rattle.oe_slab.specs.Workspaces.{held_cells}

-- 3 dates of 2 pixels
abbrev flags : Cube Cell
flags = record {
  shape = record { epsg = 0; t = Some (pos 0 ∷ pos 1 ∷ pos 2 ∷ []); bands = None; y = None; x = Some (pos 5 ∷ pos 6 ∷ []) };
  cells = Flag true ∷ Empty ∷ Flag false ∷ Over ∷ Empty ∷ Flag true ∷ [];
}

abbrev plane : Window
plane = record { t = span_below 1; bands = span_below 1; y = span_below 1; x = span_below 2 }

is_plane : IsPlane plane
is_plane = refl

-- its second position, and the cells there at 2 dates and at all 3
second : numbered_position plane 1 ≡ record { t = 0; band = 0; y = 0; x = 1 }
second = refl

two_dates : cells_by_date flags plane 2 1 ≡ Empty ∷ Over ∷ []
two_dates = refl

all_dates : cells_by_date flags plane 3 0 ≡ Flag true ∷ Flag false ∷ Empty ∷ []
all_dates = refl

-- the slab of the last two dates
slab : cells_on Empty flags (slab_window plane 1 3) ≡ Flag false ∷ Over ∷ Empty ∷ Flag true ∷ []
slab = refl

-- a slab of 2 dates, 2 folds of two cells, two planes and 3 cells: 4 + 4 + 4 + 3
abbrev fold : Pass
fold = record { reducer = Any; skips = true; tally = no_cells }

abbrev pixels : List Cell
pixels = Empty ∷ Empty ∷ []

held : held_cells (record {
  before = (Empty ∷ Empty ∷ Empty ∷ Empty ∷ []) ∷ [];
  folds = fold ∷ fold ∷ [];
  behind = pixels ∷ pixels ∷ [];
  scratch = Empty ∷ Empty ∷ Empty ∷ [];
  windows = [];
  windows_before = [];
  windows_behind = [];
}) ≡ 15
held = refl
