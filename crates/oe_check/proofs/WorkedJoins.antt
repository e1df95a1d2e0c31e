-- Worked values of `merge_cubes` and `mask`, by hand.
use Rattle.std.specs.Prelude.{◌≡◌, pos, negsuc, true, false, List, [], ◌∷◌, Option, Some, None, codes, refl}
use Rattle.oe_cell.specs.Exact.{gcd_within, gcd_of, cell_of_lowest, exact}
use Rattle.oe_cell.specs.declared.cell.Cell.{Cell}
use Rattle.oe_cell.specs.declared.cell.Cell.TheVariants.{Empty, Flag, Over}
use Rattle.oe_dims.specs.Cube.{Cube}
use Rattle.oe_dims.specs.declared.kind.CellKind.TheVariants.{Numbers}
use Rattle.oe_expr.specs.Callback.{Callback}
use Rattle.oe_expr.specs.Nodes.{down_from}
use Rattle.oe_expr.specs.Scope as scope
use Rattle.oe_requests.specs.Labels.{is_below, is_above, sorted_labels, shape_of_merge}
use Rattle.oe_meanings.specs.Meaning.{merged, covered}
use Rattle.oe_check.proofs.WorkedWords.{whole, cells_of, january_1, january_2, january_3, cube_with, shape_with, line, banded, dated, series, single, resolving, under}

-- ---- labels

in_time_order : sorted_labels is_below (january_2 ∷ january_3 ∷ january_1 ∷ []) ≡ january_1 ∷ january_2 ∷ january_3 ∷ []
in_time_order = refl

from_the_top : sorted_labels is_above (pos 0 ∷ negsuc 9 ∷ pos 10 ∷ []) ≡ pos 10 ∷ pos 0 ∷ negsuc 9 ∷ []
from_the_top = refl

-- the reference system of the cube that has one; labels of both
shape_of_two :
    shape_of_merge (series (january_2 ∷ []) []).shape (shape_with (january_1 ∷ january_2 ∷ []) (codes "B1" ∷ []) (pos 0 ∷ []) (pos 0 ∷ []))
    ≡ shape_with (january_1 ∷ january_2 ∷ []) (codes "B1" ∷ []) (pos 0 ∷ []) (pos 0 ∷ [])
shape_of_two = refl

-- ---- `merge_cubes`

abbrev difference : Option Callback
difference = Some (under (scope.merge Numbers) (resolving (codes "subtract")))

-- B2 is in both: its cell is that of the first cube less that of the second
bands_of_both :
    merged difference (banded (codes "B1" ∷ codes "B2" ∷ []) (cells_of (10 ∷ 20 ∷ []))) (banded (codes "B2" ∷ codes "B3" ∷ []) (cells_of (5 ∷ 7 ∷ [])))
    ≡ banded (codes "B1" ∷ codes "B2" ∷ codes "B3" ∷ []) (cells_of (10 ∷ 15 ∷ 7 ∷ []))
unfolding down_from exact gcd_of gcd_within cell_of_lowest
bands_of_both = refl

-- the other way round the bands stand in another order
the_other_way :
    (merged difference (banded (codes "B2" ∷ codes "B3" ∷ []) (cells_of (5 ∷ 7 ∷ []))) (banded (codes "B1" ∷ codes "B2" ∷ []) (cells_of (10 ∷ 2 ∷ [])))).cells
    ≡ cells_of (3 ∷ 7 ∷ 10 ∷ [])
unfolding down_from exact gcd_of gcd_within cell_of_lowest
the_other_way = refl

-- no tuple is in both: no resolver is needed, and nulls stand
two_dates : merged None (dated (january_2 ∷ []) (Empty ∷ [])) (dated (january_1 ∷ []) (cells_of (4 ∷ []))) ≡ dated (january_1 ∷ january_2 ∷ []) (whole 4 ∷ Empty ∷ [])
two_dates = refl

-- a cube without dimensions is repeated over all of them
repeated :
    (merged difference line (single (whole 1))).cells ≡ cells_of (0 ∷ 1 ∷ 3 ∷ [])
unfolding down_from exact gcd_of gcd_within cell_of_lowest
repeated = refl

-- without dimensions, over t; a null of one cube is given to the resolver
repeated_series :
    (merged difference (single (whole 5)) (series (january_1 ∷ january_2 ∷ []) (whole 3 ∷ Empty ∷ []))).cells ≡ whole 2 ∷ Empty ∷ []
unfolding down_from exact gcd_of gcd_within cell_of_lowest
repeated_series = refl

-- along y labels fall
rows_of_both :
    merged None (cube_with (shape_with (january_1 ∷ []) (codes "B1" ∷ []) (pos 10 ∷ negsuc 9 ∷ []) (pos 0 ∷ [])) (cells_of (1 ∷ 2 ∷ [])))
    (cube_with (shape_with (january_1 ∷ []) (codes "B1" ∷ []) (pos 20 ∷ pos 0 ∷ []) (pos 0 ∷ [])) (cells_of (3 ∷ 4 ∷ [])))
    ≡ cube_with (shape_with (january_1 ∷ []) (codes "B1" ∷ []) (pos 20 ∷ pos 10 ∷ pos 0 ∷ negsuc 9 ∷ []) (pos 0 ∷ [])) (cells_of (3 ∷ 1 ∷ 4 ∷ 2 ∷ []))
rows_of_both = refl

-- ---- `mask`

-- two dates, x 0, 1, 2; the mask has no t
abbrev two_lines : List Cell → Cube Cell
two_lines cells =
    cube_with (shape_with (january_1 ∷ january_2 ∷ []) (codes "B1" ∷ []) (pos 0 ∷ []) (pos 0 ∷ pos 1 ∷ pos 2 ∷ [])) cells

abbrev along_x : List Cell → Cube Cell
along_x cells = cube_with (record { epsg = 4326; t = None; bands = None; y = None; x = Some (pos 0 ∷ pos 1 ∷ pos 2 ∷ []) }) cells

masked_line :
    covered Empty (two_lines (cells_of (5 ∷ 6 ∷ 7 ∷ 8 ∷ 9 ∷ 10 ∷ []))) (along_x (whole 1 ∷ whole 0 ∷ Empty ∷ []))
    ≡ two_lines (Empty ∷ whole 6 ∷ whole 7 ∷ Empty ∷ whole 9 ∷ whole 10 ∷ [])
masked_line = refl

-- a mask of flags, and a replacement; a cell that is masked may be Over
masked_by_flags :
    covered (whole 0) (two_lines (Over ∷ whole 6 ∷ whole 7 ∷ whole 8 ∷ Over ∷ whole 10 ∷ [])) (along_x (Flag true ∷ Flag false ∷ Empty ∷ []))
    ≡ two_lines (whole 0 ∷ whole 6 ∷ whole 7 ∷ whole 0 ∷ Over ∷ whole 10 ∷ [])
masked_by_flags = refl

-- an Over in the mask gives Over
masked_by_over : (covered Empty line (single Over)).cells ≡ Over ∷ Over ∷ Over ∷ []
masked_by_over = refl

-- bands are found by their names
masked_bands :
    covered Empty (banded (codes "B1" ∷ codes "B2" ∷ []) (cells_of (1 ∷ 2 ∷ []))) (banded (codes "B2" ∷ codes "B1" ∷ []) (cells_of (1 ∷ 0 ∷ [])))
    ≡ banded (codes "B1" ∷ codes "B2" ∷ []) (whole 1 ∷ Empty ∷ [])
masked_bands = refl
