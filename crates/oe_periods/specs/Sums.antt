-- Running sums along `t` (openEO Processes, `cumsum`; what Over and nulls give are rules of this profile).
use Rattle.std.specs.Prelude.{◌≡◌, ◌⊎◌, ℕ, Bool, true, false, not, ◌&&◌, ◌||◌, List, [], ◌∷◌, ◌++◌, filter, slice_index_or, if◌then◌else◌}
use Rattle.std.specs.List.{list_all, list_any, fold}
use Rattle.oe_cell.specs.Kinds.{is_empty, is_over}
use Rattle.oe_cell.specs.Operations.{add_of}
use Rattle.oe_cell.specs.declared.cell.Cell.{Cell}
use Rattle.oe_cell.specs.declared.cell.Cell.TheVariants.{Empty, Flag, Number, Over}

-- the sum of cells one behind the other; null where there is none
abbrev pub left_sum : List Cell → Cell
left_sum [] = Empty
left_sum (cell ∷ rest) = fold add_of cell rest

-- the sum of those that are not null
abbrev pub sum_so_far : List Cell → Cell
sum_so_far cells = left_sum (filter (λ c. not (is_empty c)) cells)

-- a sum at a cell: null at a null, but Over stays
abbrev pub sum_at : Cell → Cell → Cell
sum_at cell Over = Over
sum_at cell sum = if is_empty cell then Empty else sum

-- What stands at a cell behind others: Over where one of all these is Over; null where nulls count and one of them is
-- null, or where all are; else the sum so far.
abbrev pub running_sum : Bool → List Cell → Cell → Cell
running_sum ignore before cell =
    let cells = before ++ cell ∷ [] in
    if list_any is_over cells then Over else (
    if (not ignore && list_any is_empty cells) || list_all is_empty cells then Empty
    else sum_at cell (sum_so_far cells))

-- ---- what two cells keep of the cells of a pixel so far

-- the running sum stays null from here on, unless an Over comes: a null counts, or cells that have no sum were added
pub record StaysNull (ignore : Bool) (cells : List Cell) : Type 0 where
  pub no_over : list_any is_over cells ≡ false
  pub cause : ((not ignore && list_any is_empty cells) ≡ true)
      ⊎ ((list_all is_empty cells ≡ false) × (sum_so_far cells ≡ Empty))

-- nothing but the sum decides, which is null only where all cells are
pub record IsSumOf (ignore : Bool) (cells : List Cell) (sum : Cell) : Type 0 where
  pub no_over : list_any is_over cells ≡ false
  pub no_null : (not ignore && list_any is_empty cells) ≡ false
  pub sum_is : sum ≡ sum_so_far cells
  pub empty_is : is_empty sum ≡ list_all is_empty cells

-- the sum of the cells so far, and the mark, which says that something else decides: Over or a flag
abbrev pub HasSummed : Bool → List Cell → Cell → Cell → Type 0
HasSummed ignore cells sum Over = list_any is_over cells ≡ true
HasSummed ignore cells sum (Flag b) = StaysNull ignore cells
HasSummed ignore cells sum Empty = IsSumOf ignore cells sum
HasSummed ignore cells sum (Number q) = ⊥

-- the same of the pixel at an index of a row of sums and marks
abbrev pub HasSummedAt : Bool → List Cell → List Cell → List Cell → ℕ → Type 0
HasSummedAt ignore cells sums marks k =
    HasSummed ignore cells (slice_index_or sums k Empty) (slice_index_or marks k Empty)
