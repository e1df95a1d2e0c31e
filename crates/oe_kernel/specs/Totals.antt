-- What a running total is as a cell.
use Rattle.oe_cell.specs.Exact.{cell_of_lowest}
use Rattle.oe_cell.specs.declared.cell.Cell.{Cell}
use Rattle.oe_kernel.specs.declared.total.Total.{Total}
use Rattle.oe_kernel.specs.declared.total.Total.TheVariants.{Whole, Other}

-- a whole number is a number where it is in range, else Over
abbrev pub total_of : Total → Cell
total_of (Whole n) = cell_of_lowest n 1
total_of (Other c) = c
