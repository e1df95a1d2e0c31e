-- The value of a reduction, as a function, for the definitions that go on from it. Where order counts, it takes the
-- list in order.
use Rattle.std.specs.Prelude.{◌-◌, Bool, cond, List, [], ◌∷◌, length, slice_index_or, unwrap_or, not, count_by}
use Rattle.std.specs.List.{list_any, reduce}
use Rattle.oe_cell.specs.Operations.{add_of, multiply_of, divide_of, or_of, and_of}
use Rattle.oe_cell.specs.declared.cell.Cell.{Cell}
use Rattle.oe_cell.specs.declared.cell.Cell.TheVariants.{Empty, Over}
use Rattle.oe_cell.specs.Kinds.{is_over, is_empty}
use Rattle.oe_fold.specs.Counted.{counted_cells, whole_cell}
use Rattle.oe_fold.specs.Order.{is_below}
use Rattle.oe_fold.specs.Reduction.{makes_null, middle_of}
use Rattle.oe_fold.specs.declared.reducer.Reducer.{Reducer}
use Rattle.oe_fold.specs.declared.reducer.Reducer.TheVariants.{Sum, Product, Mean, Min, Max, Median, First, Last, Any, All as EveryOne, Count, CountAll}

-- a cell put before the first of the others that is not less than it
abbrev pub put_in_order : Cell → List Cell → List Cell
put_in_order x [] = x ∷ []
put_in_order x (y ∷ ys) = cond (is_below y x) (y ∷ put_in_order x ys) (x ∷ y ∷ ys)

-- the cells in order
abbrev pub in_order : List Cell → List Cell
in_order [] = []
in_order (x ∷ xs) = put_in_order x (in_order xs)

-- of a list that is not empty and has no cell that makes the result null
abbrev pub result_without_null : Reducer → List Cell → Cell
result_without_null Sum cells = unwrap_or (reduce add_of cells) Empty
result_without_null Product cells = unwrap_or (reduce multiply_of cells) Empty
result_without_null Mean cells = divide_of (unwrap_or (reduce add_of cells) Empty) (whole_cell (length cells))
result_without_null Min cells = slice_index_or (in_order cells) 0 Empty
result_without_null Max cells = slice_index_or (in_order cells) (length cells - 1) Empty
result_without_null Median cells = middle_of (in_order cells)
result_without_null First cells = slice_index_or cells 0 Empty
result_without_null Last cells = slice_index_or cells (length cells - 1) Empty
result_without_null Any cells = unwrap_or (reduce or_of cells) Empty
result_without_null EveryOne cells = unwrap_or (reduce and_of cells) Empty
result_without_null Count cells = whole_cell (length cells)
result_without_null CountAll cells = whole_cell (length cells)

-- of the cells that count
abbrev pub result_of_counted : Reducer → List Cell → Cell
result_of_counted r [] = Empty
result_of_counted r (x ∷ xs) = cond (list_any (makes_null r) (x ∷ xs)) Empty (result_without_null r (x ∷ xs))

-- of a list without Over
abbrev pub result_without_over : Reducer → Bool → List Cell → Cell
result_without_over Count ignore cells = whole_cell (count_by (λ x. not (is_empty x)) cells)
result_without_over CountAll ignore cells = whole_cell (length cells)
result_without_over Sum ignore cells = result_of_counted Sum (counted_cells ignore cells)
result_without_over Product ignore cells = result_of_counted Product (counted_cells ignore cells)
result_without_over Mean ignore cells = result_of_counted Mean (counted_cells ignore cells)
result_without_over Min ignore cells = result_of_counted Min (counted_cells ignore cells)
result_without_over Max ignore cells = result_of_counted Max (counted_cells ignore cells)
result_without_over Median ignore cells = result_of_counted Median (counted_cells ignore cells)
result_without_over First ignore cells = result_of_counted First (counted_cells ignore cells)
result_without_over Last ignore cells = result_of_counted Last (counted_cells ignore cells)
result_without_over Any ignore cells = result_of_counted Any (counted_cells ignore cells)
result_without_over EveryOne ignore cells = result_of_counted EveryOne (counted_cells ignore cells)

-- the one cell that the definition allows
unfoldable pub reduction_of : Reducer → Bool → List Cell → Cell
reduction_of r ignore cells = cond (list_any is_over cells) Over (result_without_over r ignore cells)
