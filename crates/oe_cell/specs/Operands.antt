-- Cells that were sorted as operands: the numbers, or what every operation on numbers gives.
use Rattle.std.specs.Prelude.{◌≡◌}
use Rattle.oe_cell.specs.Fraction.{Fraction, IsNumber}
use Rattle.oe_cell.specs.Cells.{IsCell, IfNumber, IfNumbers, on_number, on_numbers}
use Rattle.oe_cell.specs.Kinds.{IsNumeric, IsLogical}
use Rattle.oe_cell.specs.declared.cell.Cell.{Cell}
use Rattle.oe_cell.specs.declared.cell.Cell.TheVariants.{Empty, Number, Over}
use Rattle.oe_cell.specs.declared.operands.Lack.{Lack}
use Rattle.oe_cell.specs.declared.operands.Lack.TheVariants.{Null, Over as OverLack}
use Rattle.oe_cell.specs.declared.operands.Operands.{Operands}
use Rattle.oe_cell.specs.declared.operands.Operands.TheVariants.{Numbers, Neither}
use Rattle.oe_cell.specs.declared.operands.Operand.{Operand}
use Rattle.oe_cell.specs.declared.operands.Operand.TheVariants.{Number as One, Neither as NoOne}

-- the cell of what is given in place of a value
abbrev pub lack_of : Lack → Cell
lack_of Null = Empty
lack_of OverLack = Over

-- the cells are those two numbers
pub record AreNumbers (x y : Cell) (p q : Fraction) : Type 0 where
  pub left : x ≡ Number p
  pub right : y ≡ Number q
  pub left_number : IsNumber p
  pub right_number : IsNumber q

-- the cells are not both numbers, and every operation on numbers gives the third cell, which is null or Over
pub record AreNotNumbers (x y c : Cell) : Type 0 where
  pub not_both : IfNumbers x y (λ p q. ⊥)
  pub value : (f : Fraction → Fraction → Cell) → c ≡ on_numbers f x y
  pub cell : IsCell c
  pub numeric : IsNumeric c
  pub logical : IsLogical c

abbrev pub IsSorted : Cell → Cell → Operands → Type 0
IsSorted x y (Numbers p q) = AreNumbers x y p q
IsSorted x y (Neither l) = AreNotNumbers x y (lack_of l)

-- the cell is that number
pub record IsOneNumber (x : Cell) (p : Fraction) : Type 0 where
  pub is : x ≡ Number p
  pub number : IsNumber p

-- the cell is no number, and every operation on one number gives the other cell, which is null or Over
pub record IsNoNumber (x c : Cell) : Type 0 where
  pub not_one : IfNumber x (λ p. ⊥)
  pub value : (f : Fraction → Cell) → c ≡ on_number f x
  pub cell : IsCell c
  pub numeric : IsNumeric c

abbrev pub IsSortedOne : Cell → Operand → Type 0
IsSortedOne x (One p) = IsOneNumber x p
IsSortedOne x (NoOne l) = IsNoNumber x (lack_of l)
