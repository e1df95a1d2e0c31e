-- Worked values of `load_collection`, the filters and `save_result`, by hand.
use Rattle.std.specs.Prelude.{◌≡◌, ℕ, ℤ, pos, negsuc, List, [], ◌∷◌, Option, Some, None, codes, refl}
use Rattle.oe_cell.specs.declared.cell.Cell.{Cell}
use Rattle.oe_cell.specs.declared.cell.Cell.TheVariants.{Empty, Over}
use Rattle.oe_dims.specs.Cube.{Cube}
use Rattle.oe_requests.specs.Extents.{Restriction, no_restriction, part_in_time}
use Rattle.oe_meanings.specs.Meaning.{restricted_cube, cube_of}
use Rattle.oe_requests.specs.Operations.{give_back}
use Rattle.oe_requests.specs.Parameters.{extent_from}
use Rattle.oe_check.proofs.WorkedWords.{whole, cells_of, january_1, january_2, january_3, year_2025, year_2026, shape_with, cube_with, pixel, square, line, banded, dated, series}

abbrev in_time : Option ℤ → Option ℤ → Restriction
in_time start end = record { box = None; time = Some (extent_from start end); bands = None }

abbrev in_box : ℤ → ℤ → ℤ → ℤ → Restriction
in_box west south east north =
    record { box = Some (record { west = west; south = south; east = east; north = north; epsg = 4326 }); time = None; bands = None }

abbrev with_bands : List (List ℕ) → Restriction
with_bands bands = record { box = None; time = None; bands = Some bands }

-- ---- in time

-- no date of the cube lies in the extent: the dimension is left without labels, the cube without cells
nothing_in_2025 :
    restricted_cube (in_time (Some year_2025) (Some year_2026)) (cube_with pixel (cells_of (7 ∷ [])))
    ≡ cube_with (shape_with [] (codes "B1" ∷ []) (pos 0 ∷ []) (pos 0 ∷ [])) []
nothing_in_2025 = refl

-- the start is inside, and the end is not
start_alone :
    restricted_cube (in_time (Some january_1) (Some january_2)) (dated (january_1 ∷ january_2 ∷ []) (cells_of (5 ∷ 6 ∷ [])))
    ≡ dated (january_1 ∷ []) (cells_of (5 ∷ []))
start_alone = refl

from_the_second :
    restricted_cube (in_time (Some january_2) None) (dated (january_1 ∷ january_2 ∷ january_3 ∷ []) (cells_of (5 ∷ 6 ∷ 7 ∷ [])))
    ≡ dated (january_2 ∷ january_3 ∷ []) (cells_of (6 ∷ 7 ∷ []))
from_the_second = refl

before_the_second :
    restricted_cube (in_time None (Some january_2)) (series (january_1 ∷ january_2 ∷ []) (Over ∷ Empty ∷ [])) ≡ series (january_1 ∷ []) (Over ∷ [])
before_the_second = refl

-- the index range of the labels inside
second_of_three : part_in_time (extent_from (Some january_2) (Some january_3)) (january_1 ∷ january_2 ∷ january_3 ∷ []) ≡ record { from = 1; to = 2 }
second_of_three = refl

-- ---- in space: both borders are inside

whole_square : restricted_cube (in_box (pos 0) (pos 0) (pos 10) (pos 10)) square ≡ square
whole_square = refl

lower_row :
    restricted_cube (in_box (negsuc 4) (negsuc 4) (pos 10) (pos 9)) square
    ≡ cube_with (shape_with (january_1 ∷ []) (codes "B1" ∷ []) (pos 0 ∷ []) (pos 0 ∷ pos 10 ∷ [])) (cells_of (3 ∷ 4 ∷ []))
lower_row = refl

upper_right :
    restricted_cube (in_box (pos 1) (pos 10) (pos 10) (pos 10)) square
    ≡ cube_with (shape_with (january_1 ∷ []) (codes "B1" ∷ []) (pos 10 ∷ []) (pos 10 ∷ [])) (cells_of (2 ∷ []))
upper_right = refl

between_pixels :
    restricted_cube (in_box (pos 1) (pos 0) (pos 9) (pos 10)) square
    ≡ cube_with (shape_with (january_1 ∷ []) (codes "B1" ∷ []) (pos 10 ∷ pos 0 ∷ []) []) []
between_pixels = refl

-- ---- by bands: in the order in which they are given

three_bands : Cube Cell
three_bands = banded (codes "B1" ∷ codes "B2" ∷ codes "B3" ∷ []) (cells_of (1 ∷ 2 ∷ 3 ∷ []))

other_order : restricted_cube (with_bands (codes "B3" ∷ codes "B1" ∷ [])) three_bands ≡ banded (codes "B3" ∷ codes "B1" ∷ []) (cells_of (3 ∷ 1 ∷ []))
unfolding three_bands
other_order = refl

one_band : restricted_cube (with_bands (codes "B2" ∷ [])) three_bands ≡ banded (codes "B2" ∷ []) (cells_of (2 ∷ []))
unfolding three_bands
one_band = refl

all_bands_given : restricted_cube (with_bands (codes "B1" ∷ codes "B2" ∷ codes "B3" ∷ [])) three_bands ≡ three_bands
unfolding three_bands
all_bands_given = refl

-- ---- a load: all restrictions at once, or none

loaded_whole : restricted_cube no_restriction three_bands ≡ three_bands
unfolding three_bands
loaded_whole = refl

loaded_part :
    restricted_cube (record {
      box = Some (record { west = pos 1; south = pos 0; east = pos 2; north = pos 0; epsg = 4326 });
      time = Some (extent_from (Some january_1) None);
      bands = Some (codes "B1" ∷ []);
    }) line
    ≡ cube_with (shape_with (january_1 ∷ []) (codes "B1" ∷ []) (pos 0 ∷ []) (pos 1 ∷ pos 2 ∷ [])) (cells_of (2 ∷ 4 ∷ []))
loaded_part = refl

-- a cube without x and y keeps what it has
loaded_series : restricted_cube no_restriction (series (january_1 ∷ january_2 ∷ []) (whole 1 ∷ Empty ∷ [])) ≡ series (january_1 ∷ january_2 ∷ []) (whole 1 ∷ Empty ∷ [])
loaded_series = refl

-- ---- `save_result`

saved : cube_of give_back (square ∷ []) ≡ square
saved = refl

saved_line : cube_of give_back (line ∷ []) ≡ line
saved_line = refl

saved_without_labels : cube_of give_back (series [] [] ∷ []) ≡ series [] []
saved_without_labels = refl
