-- How a cell is spelled in JSON: `null`, `true`, `false`, a whole number in decimal, any other as "n/d" in quotes.
use Rattle.std.specs.Prelude.{ℕ, ◌==◌, true, false, List, [], ◌++◌, if◌then◌else◌, codes, decimal}
use Rattle.std.specs.Fmt.{signed_decimal}
use Rattle.oe_cell.specs.Fraction.{Fraction}
use Rattle.oe_cell.specs.declared.cell.Cell.{Cell}
use Rattle.oe_cell.specs.declared.cell.Cell.TheVariants.{Empty, Flag, Number, Over}

-- a number: in decimal where its denominator is 1, else as "n/d" in quotes
abbrev pub number_text : Fraction → List ℕ
number_text q =
    if q.den == 1 then signed_decimal q.num
    else codes "\"" ++ signed_decimal q.num ++ codes "/" ++ decimal q.den ++ codes "\""

-- a cell that fits; Over has no spelling
abbrev pub cell_text : Cell → List ℕ
cell_text Empty = codes "null"
cell_text (Flag true) = codes "true"
cell_text (Flag false) = codes "false"
cell_text (Number q) = number_text q
cell_text Over = []
