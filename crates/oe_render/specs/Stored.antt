-- The cells of a cube as they stand in a store: as records one behind the other, in row-major order.
use Rattle.std.specs.Prelude.{◌≡◌, ◌≢◌, ℕ, List, length, Option, IfSome}
use Rattle.std.specs.List.{All}
use Rattle.oe_cell.specs.Cells.{IsCell}
use Rattle.oe_cell.specs.Record.{records_of}
use Rattle.oe_cell.specs.declared.cell.Cell.{Cell}
use Rattle.oe_cell.specs.declared.cell.Cell.TheVariants.{Over}
use Rattle.oe_outside.specs.Stored.{StoreHolds}

-- cells that were read from an offset of a store: where its bytes are visible, their records stand there
pub record AreReadFrom (store : Option (List ℕ)) (at : ℕ) (cells : List Cell) : Type 0 where
  pub fit : All IsCell cells
  pub held : StoreHolds store at (records_of cells)

-- so many cells, none of them Over; where the bytes of the store are visible, their records stand at the offset
pub record AreStored (store : Option (List ℕ)) (at count : ℕ) (cells : List Cell) : Type 0 where
  pub counted : length cells ≡ count
  pub read : AreReadFrom store at cells
  pub numbered : All (λ c. c ≢ Over) cells

-- a store whose bytes are visible has the records of so many cells at an offset, none of them Over
abbrev pub HasCells : Option (List ℕ) → ℕ → ℕ → Type 0
HasCells store at count = IfSome store (λ _. (cells : List Cell) × AreStored store at count cells)
