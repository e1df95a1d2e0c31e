-- Worked values of `reduce_dimension` and `aggregate_temporal`, by hand.
use Rattle.std.specs.Prelude.{◌≡◌, ℕ, ℤ, pos, negsuc, true, false, List, [], ◌∷◌, Some, None, codes, refl}
use Rattle.oe_cell.specs.Exact.{gcd_within, gcd_of, cell_of_lowest, exact}
use Rattle.oe_cell.specs.Rational.{whole_of}
use Rattle.oe_cell.specs.declared.cell.Cell.{Cell}
use Rattle.oe_cell.specs.declared.cell.Cell.TheVariants.{Empty, Flag, Number, Over}
use Rattle.oe_dims.specs.Cube.{Cube}
use Rattle.oe_dims.specs.declared.kind.CellKind.TheVariants.{Numbers}
use Rattle.oe_dims.specs.declared.kind.Kind.TheVariants.{Time, Bands, Y, X}
use Rattle.oe_fold.specs.Value.{reduction_of}
use Rattle.oe_graph.specs.Tree as tree
use Rattle.oe_graph.specs.Tree.{PlainGraph}
use Rattle.oe_expr.specs.Callback.{Callback, callback_of}
use Rattle.oe_expr.specs.Nodes.{down_from}
use Rattle.oe_expr.specs.Scope as scope
use Rattle.oe_meanings.specs.Meaning.{reduced, aggregated}
use Rattle.oe_requests.specs.Operations.{reduction_scope, interval_scope}
use Rattle.oe_requests.specs.Parameters.{labelled_interval, extent_from}
use Rattle.oe_requests.specs.declared.extent.Interval.{Interval}
use Rattle.oe_check.proofs.WorkedWords.{fraction, whole, cells_of, largest, january_1, january_2, january_3, january_4, february_1, february_2, cube_with, square, banded, dated, single, reducing, counting, ratio}

-- ---- `reduce_dimension`

abbrev under_time : Cube Cell → PlainGraph → Callback
under_time cube graph = callback_of graph (reduction_scope Time (record { shape = cube.shape; kind = Numbers })) Empty

-- over t, at the one pixel
abbrev over_time : PlainGraph → List ℤ → List Cell → List Cell
over_time graph dates cells = (reduced Time (under_time (dated dates cells) graph) (dated dates cells)).cells

-- the sum goes from the first on: it passes the largest number, although the total would fit
passed_on_the_way :
    over_time (reducing (codes "sum") true) (january_1 ∷ january_2 ∷ january_3 ∷ []) (largest ∷ whole 1 ∷ Number (whole_of (negsuc 0)) ∷ []) ≡ Over ∷ []
unfolding down_from reduction_of exact gcd_of gcd_within cell_of_lowest
passed_on_the_way = refl

mean_of_two : over_time (reducing (codes "mean") true) (january_1 ∷ january_2 ∷ []) (cells_of (1 ∷ 2 ∷ [])) ≡ fraction (pos 3) 2 ∷ []
unfolding down_from reduction_of exact gcd_of gcd_within cell_of_lowest
mean_of_two = refl

mean_of_nulls : over_time (reducing (codes "mean") true) (january_1 ∷ january_2 ∷ []) (Empty ∷ Empty ∷ []) ≡ Empty ∷ []
unfolding down_from reduction_of
mean_of_nulls = refl

mean_beside_null : over_time (reducing (codes "mean") false) (january_1 ∷ january_2 ∷ []) (whole 1 ∷ Empty ∷ []) ≡ Empty ∷ []
unfolding down_from reduction_of
mean_beside_null = refl

count_of_nulls : over_time (counting tree.null) (january_1 ∷ january_2 ∷ []) (Empty ∷ Empty ∷ []) ≡ whole 0 ∷ []
unfolding down_from reduction_of
count_of_nulls = refl

any_beside_null : over_time (reducing (codes "any") false) (january_1 ∷ january_2 ∷ []) (Flag true ∷ Empty ∷ []) ≡ Flag true ∷ []
unfolding down_from reduction_of
any_beside_null = refl

-- without dates a sum is null
no_dates : over_time (reducing (codes "sum") true) [] [] ≡ Empty ∷ []
unfolding down_from reduction_of
no_dates = refl

-- (B08 - B04) / (B08 + B04), where B08 stands before B04 or after it
abbrev ratio_of : List (List ℕ) → List Cell → List Cell
ratio_of bands cells =
    (reduced Bands (callback_of ratio (reduction_scope Bands (record { shape = (banded bands cells).shape; kind = Numbers })) Empty)
    (banded bands cells)).cells

ratio_of_5_and_3 : ratio_of (codes "B08" ∷ codes "B04" ∷ []) (cells_of (5 ∷ 3 ∷ [])) ≡ fraction (pos 1) 4 ∷ []
unfolding down_from exact gcd_of gcd_within cell_of_lowest
ratio_of_5_and_3 = refl

in_the_other_order : ratio_of (codes "B04" ∷ codes "B08" ∷ []) (cells_of (3 ∷ 5 ∷ [])) ≡ fraction (pos 1) 4 ∷ []
unfolding down_from exact gcd_of gcd_within cell_of_lowest
in_the_other_order = refl

ratio_of_0_and_0 : ratio_of (codes "B08" ∷ codes "B04" ∷ []) (cells_of (0 ∷ 0 ∷ [])) ≡ Empty ∷ []
unfolding down_from exact gcd_of gcd_within cell_of_lowest
ratio_of_0_and_0 = refl

abbrev summed : Callback
summed = callback_of (reducing (codes "sum") true) (scope.reduce Numbers scope.no_labels []) Empty

-- down the columns, and then along the one row that is left
columns : reduced Y summed square ≡ cube_with (record { epsg = 4326; t = Some (january_1 ∷ []); bands = Some (codes "B1" ∷ []); y = None; x = Some (pos 0 ∷ pos 10 ∷ []) }) (cells_of (4 ∷ 6 ∷ []))
unfolding down_from reduction_of exact gcd_of gcd_within cell_of_lowest
columns = refl

-- the code of the reference system goes with the last dimension of pixels alone
both_sides : reduced X summed (reduced Y summed square) ≡ cube_with (record { epsg = 0; t = Some (january_1 ∷ []); bands = Some (codes "B1" ∷ []); y = None; x = None }) (cells_of (10 ∷ []))
unfolding down_from reduction_of exact gcd_of gcd_within cell_of_lowest
both_sides = refl

all_four : reduced Time summed (reduced Bands summed (reduced X summed (reduced Y summed square))) ≡ single (whole 10)
unfolding down_from reduction_of exact gcd_of gcd_within cell_of_lowest
all_four = refl

-- ---- `aggregate_temporal`

abbrev from_to : ℤ → ℤ → ℤ → Interval
from_to start end label = labelled_interval (extent_from (Some start) (Some end)) label

abbrev three_days : Cube Cell
three_days = dated (january_1 ∷ january_2 ∷ january_3 ∷ []) (cells_of (1 ∷ 2 ∷ 4 ∷ []))

abbrev sums_in : List Interval → Cube Cell
sums_in intervals =
    aggregated intervals
    (callback_of (reducing (codes "sum") true) (interval_scope intervals (record { shape = three_days.shape; kind = Numbers })) Empty)
    three_days

-- intervals may overlap, and may have no date; each is named by its start
by_starts :
    sums_in (from_to january_1 january_3 january_1 ∷ from_to january_2 january_4 january_2 ∷ from_to february_1 february_2 february_1 ∷ [])
    ≡ dated (january_1 ∷ january_2 ∷ february_1 ∷ []) (whole 3 ∷ whole 6 ∷ Empty ∷ [])
unfolding down_from reduction_of exact gcd_of gcd_within cell_of_lowest
by_starts = refl

-- labels stand in the order of time, whatever the order of the intervals
in_time_order :
    sums_in (from_to january_2 january_4 february_1 ∷ from_to january_1 january_3 january_4 ∷ [])
    ≡ dated (january_4 ∷ february_1 ∷ []) (cells_of (3 ∷ 6 ∷ []))
unfolding down_from reduction_of exact gcd_of gcd_within cell_of_lowest
in_time_order = refl

-- an end that is missing does not limit
to_the_end :
    sums_in (labelled_interval (extent_from (Some january_2) None) january_2 ∷ labelled_interval (extent_from None (Some january_2)) january_1 ∷ [])
    ≡ dated (january_1 ∷ january_2 ∷ []) (cells_of (1 ∷ 6 ∷ []))
unfolding down_from reduction_of exact gcd_of gcd_within cell_of_lowest
to_the_end = refl

no_intervals : sums_in [] ≡ dated [] []
no_intervals = refl
