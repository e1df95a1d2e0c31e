-- The cells of a list that count.
use Rattle.std.specs.Prelude.{ℕ, Bool, not, ◌&&◌, pos, List, filter}
use Rattle.oe_cell.specs.Kinds.{is_empty}
use Rattle.oe_cell.specs.Rational.{whole_of}
use Rattle.oe_cell.specs.declared.cell.Cell.{Cell}
use Rattle.oe_cell.specs.declared.cell.Cell.TheVariants.{Number}

-- a cell counts unless nulls are ignored and it is one
abbrev pub is_counted : Bool → Cell → Bool
is_counted ignore x = not (ignore && is_empty x)

-- the cells that count, in their order
abbrev pub counted_cells : Bool → List Cell → List Cell
counted_cells ignore cells = filter (is_counted ignore) cells

-- a whole number
abbrev pub whole_cell : ℕ → Cell
whole_cell n = Number (whole_of (pos n))
