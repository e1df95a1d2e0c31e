-- Cells as operands: the cases that all operations share, tried from the first to the last.
use Rattle.std.specs.Prelude.{⊤, ◌<◌, unsigned_abs}
use Rattle.oe_cell.specs.Fraction.{Fraction, IsNumber}
use Rattle.oe_cell.specs.declared.cell.Cell.{Cell}
use Rattle.oe_cell.specs.declared.cell.Cell.TheVariants.{Empty, Flag, Number, Over}

-- what the program's cells always are: a number in the cell is in lowest terms and in range
abbrev pub IsCell : Cell → Type 0
IsCell (Number q) = IsNumber q
IsCell (Flag b) = ⊤
IsCell Empty = ⊤
IsCell Over = ⊤

-- a fact of the number, where the cell is one
abbrev pub IfNumber : Cell → (Fraction → Type 0) → Type 0
IfNumber (Number q) P = P q
IfNumber (Flag b) P = ⊤
IfNumber Empty P = ⊤
IfNumber Over P = ⊤

-- a fact of two numbers, where both cells are numbers
abbrev pub IfNumbers : Cell → Cell → (Fraction → Fraction → Type 0) → Type 0
IfNumbers x y P = IfNumber x (λ p. IfNumber y (λ q. P p q))

-- the same, where the second number may divide
abbrev pub IfDivided : Cell → Cell → (Fraction → Fraction → Type 0) → Type 0
IfDivided x y P = IfNumbers x y (λ p q. 0 < unsigned_abs q.num → P p q)

-- an operation on two numbers: Over before all else, null at a flag or a null, and then what f makes of the numbers
abbrev pub on_numbers : (Fraction → Fraction → Cell) → Cell → Cell → Cell
on_numbers f Over y = Over
on_numbers f x Over = Over
on_numbers f (Flag a) y = Empty
on_numbers f x (Flag b) = Empty
on_numbers f Empty y = Empty
on_numbers f x Empty = Empty
on_numbers f (Number p) (Number q) = f p q

-- an operation on one number, by the same cases
abbrev pub on_number : (Fraction → Cell) → Cell → Cell
on_number f Over = Over
on_number f (Flag a) = Empty
on_number f Empty = Empty
on_number f (Number p) = f p
