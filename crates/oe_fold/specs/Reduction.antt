-- What each reducer of openEO Processes makes of a list of cells. The first case that fits decides.
use Rattle.std.specs.Prelude.{◌≡◌, ◌-◌, ◌/◌, ◌%◌, ◌==◌, Bool, true, false, not, if◌then◌else◌, List, [], ◌∷◌, length, slice_index_or, Some, MatchBool, All, Contains, count_by, IsPermutation}
use Rattle.std.specs.List.{list_any, reduce, slice_get}
use Rattle.std.specs.List.Sorted.{IsSortedBy}
use Rattle.oe_cell.specs.Operations.{add_of, multiply_of, divide_of, or_of, and_of}
use Rattle.oe_cell.specs.declared.cell.Cell.{Cell}
use Rattle.oe_cell.specs.declared.cell.Cell.TheVariants.{Empty, Over}
use Rattle.oe_cell.specs.Kinds.{is_over, is_empty, is_number, is_null_or_flag}
use Rattle.oe_fold.specs.Counted.{counted_cells, whole_cell}
use Rattle.oe_fold.specs.Order.{is_below}
use Rattle.oe_fold.specs.declared.reducer.Reducer.{Reducer}
use Rattle.oe_fold.specs.declared.reducer.Reducer.TheVariants.{Sum, Product, Mean, Min, Max, Median, First, Last, Any, All as EveryOne, Count, CountAll}

-- the result is a number of cells, whatever they are
abbrev pub is_count : Reducer → Bool
is_count Count = true
is_count CountAll = true
is_count Sum = false
is_count Product = false
is_count Mean = false
is_count Min = false
is_count Max = false
is_count Median = false
is_count First = false
is_count Last = false
is_count Any = false
is_count EveryOne = false

-- a cell that makes the result null: a null for arithmetic, a null or a flag for an order, a number for logic
abbrev pub makes_null : Reducer → Cell → Bool
makes_null Sum x = is_empty x
makes_null Product x = is_empty x
makes_null Mean x = is_empty x
makes_null Min x = is_null_or_flag x
makes_null Max x = is_null_or_flag x
makes_null Median x = is_null_or_flag x
makes_null Any x = is_number x
makes_null EveryOne x = is_number x
makes_null First x = false
makes_null Last x = false
makes_null Count x = false
makes_null CountAll x = false

-- the member that no member is less than
abbrev pub IsLeast : List Cell → Cell → Type 0
IsLeast cells c = Contains cells c × All (λ x. is_below x c ≡ false) cells

-- the member that no member is greater than
abbrev pub IsGreatest : List Cell → Cell → Type 0
IsGreatest cells c = Contains cells c × All (λ x. is_below c x ≡ false) cells

-- the two middle ones of an even number of cells, added
abbrev pub middle_sum : List Cell → Cell
middle_sum cells =
    add_of (slice_index_or cells (length cells / 2 - 1) Empty) (slice_index_or cells (length cells / 2) Empty)

-- the middle of an odd number of cells, and of an even number the two middle ones added and divided by 2
abbrev pub middle_of : List Cell → Cell
middle_of cells =
    if length cells % 2 == 1 then slice_index_or cells (length cells / 2) Empty
    else divide_of (middle_sum cells) (whole_cell 2)

-- the middle of the list that is in order and has the same members as often
abbrev pub IsMedian : List Cell → Cell → Type 0
IsMedian cells c =
    (ordered : List Cell) × IsPermutation cells ordered × IsSortedBy is_below ordered × (c ≡ middle_of ordered)

-- of a list that is not empty and has no cell that makes the result null: folds go from the first cell on
abbrev pub IsResultWithoutNull : Reducer → List Cell → Cell → Type 0
IsResultWithoutNull Sum cells c = reduce add_of cells ≡ Some c
IsResultWithoutNull Product cells c = reduce multiply_of cells ≡ Some c
IsResultWithoutNull Mean cells c =
    (sum : Cell) × (reduce add_of cells ≡ Some sum) × (c ≡ divide_of sum (whole_cell (length cells)))
IsResultWithoutNull Min cells c = IsLeast cells c
IsResultWithoutNull Max cells c = IsGreatest cells c
IsResultWithoutNull Median cells c = IsMedian cells c
IsResultWithoutNull First cells c = slice_get cells 0 ≡ Some c
IsResultWithoutNull Last cells c = slice_get cells (length cells - 1) ≡ Some c
IsResultWithoutNull Any cells c = reduce or_of cells ≡ Some c
IsResultWithoutNull EveryOne cells c = reduce and_of cells ≡ Some c
IsResultWithoutNull Count cells c = c ≡ whole_cell (length cells)
IsResultWithoutNull CountAll cells c = c ≡ whole_cell (length cells)

-- of the cells that count: null where there is none, or where one makes the result null
abbrev pub IsResultOfCounted : Reducer → List Cell → Cell → Type 0
IsResultOfCounted r [] c = c ≡ Empty
IsResultOfCounted r (x ∷ xs) c =
    MatchBool (list_any (makes_null r) (x ∷ xs)) (c ≡ Empty) (IsResultWithoutNull r (x ∷ xs) c)

-- of a list without Over: the number of cells that are not null, the number of all, or the value of those that count
abbrev pub IsResultWithoutOver : Reducer → Bool → List Cell → Cell → Type 0
IsResultWithoutOver Count ignore cells c = c ≡ whole_cell (count_by (λ x. not (is_empty x)) cells)
IsResultWithoutOver CountAll ignore cells c = c ≡ whole_cell (length cells)
IsResultWithoutOver Sum ignore cells c = IsResultOfCounted Sum (counted_cells ignore cells) c
IsResultWithoutOver Product ignore cells c = IsResultOfCounted Product (counted_cells ignore cells) c
IsResultWithoutOver Mean ignore cells c = IsResultOfCounted Mean (counted_cells ignore cells) c
IsResultWithoutOver Min ignore cells c = IsResultOfCounted Min (counted_cells ignore cells) c
IsResultWithoutOver Max ignore cells c = IsResultOfCounted Max (counted_cells ignore cells) c
IsResultWithoutOver Median ignore cells c = IsResultOfCounted Median (counted_cells ignore cells) c
IsResultWithoutOver First ignore cells c = IsResultOfCounted First (counted_cells ignore cells) c
IsResultWithoutOver Last ignore cells c = IsResultOfCounted Last (counted_cells ignore cells) c
IsResultWithoutOver Any ignore cells c = IsResultOfCounted Any (counted_cells ignore cells) c
IsResultWithoutOver EveryOne ignore cells c = IsResultOfCounted EveryOne (counted_cells ignore cells) c

-- an Over anywhere gives Over
unfoldable pub IsReduction : Reducer → Bool → List Cell → Cell → Type 0
IsReduction r ignore cells c = MatchBool (list_any is_over cells) (c ≡ Over) (IsResultWithoutOver r ignore cells c)
