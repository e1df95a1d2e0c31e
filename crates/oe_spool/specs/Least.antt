-- The least row-major number at which a cell is Over.
use Rattle.std.specs.Prelude.{◌≡◌, ◌≢◌, ℕ, zero, suc, ◌≤◌, min, List, Option, Some, None}
use Rattle.oe_cell.specs.Kinds.{is_over}
use Rattle.oe_cell.specs.declared.cell.Cell.{Cell}
use Rattle.oe_cell.specs.declared.cell.Cell.TheVariants.{Empty, Over}
use Rattle.oe_dims.specs.Cube.{Cube}
use Rattle.oe_dims.specs.Indices.{index_where}
use Rattle.oe_dims.specs.Positions.{Position, number_of}
use Rattle.oe_window.specs.Cells.{cell_at}

-- the number of a position of the set whose cell is Over, and of none with a lower number
pub record IsFirstOver (cube : Cube Cell) (positions : Position → Type 0) (number : ℕ) : Type 0 where
  pub p : Position
  pub inside : positions p
  pub over : cell_at Empty cube p ≡ Over
  pub number_is : number_of cube.shape p ≡ number
  pub least : (q : Position) → positions q → cell_at Empty cube q ≡ Over → number ≤ number_of cube.shape q

-- the least number of a position of the set whose cell is Over, none exactly where there is no such position
abbrev pub IsLeastOver : Cube Cell → (Position → Type 0) → Option ℕ → Type 0
IsLeastOver cube positions None = (p : Position) → positions p → cell_at Empty cube p ≢ Over
IsLeastOver cube positions (Some number) = IsFirstOver cube positions number

-- the least number of a cell that is Over, in a list of all cells
abbrev pub least_over_of : List Cell → Option ℕ
least_over_of cells = index_where is_over cells

-- the lesser of two numbers that may be missing, the one that is there where one is missing
abbrev pub lesser_of : Option ℕ → Option ℕ → Option ℕ
lesser_of None b = b
lesser_of (Some a) None = Some a
lesser_of (Some a) (Some b) = Some (min a b)

-- the least of the first so many numbers, each of which may be missing
abbrev pub least_of_first : (ℕ → Option ℕ) → ℕ → Option ℕ
least_of_first found zero = None
least_of_first found (suc n) = lesser_of (least_of_first found n) (found n)
