-- The order of cells: `is_below`, by which reductions are defined, and `is_before`, by which the code sorts all cells.
use Rattle.std.specs.Prelude.{Bool, false, cond, nat_lt, ◌&&◌}
use Rattle.std.specs.Ordering.{is_lt}
use Rattle.oe_cell.specs.Order.{compare_of}
use Rattle.oe_cell.specs.declared.cell.Cell.{Cell}
use Rattle.oe_cell.specs.declared.cell.Cell.TheVariants.{Empty, Flag, Number, Over}

-- both are numbers, and the first is less than the second
abbrev pub is_below : Cell → Cell → Bool
is_below (Number p) (Number q) = is_lt (compare_of p q)
is_below (Number p) Empty = false
is_below (Number p) (Flag b) = false
is_below (Number p) Over = false
is_below Empty y = false
is_below (Flag a) y = false
is_below Over y = false

-- a number whose denominator is above 0
abbrev pub is_sound : Cell → Bool
is_sound (Number q) = nat_lt 0 q.den
is_sound Empty = false
is_sound (Flag b) = false
is_sound Over = false

-- the code's sort order, in no definition of a reduction: numbers by value as in `is_below`, and every other cell
-- before them
abbrev pub is_before : Cell → Cell → Bool
is_before x y = cond (is_sound x) (is_sound y && is_below x y) (is_sound y)
