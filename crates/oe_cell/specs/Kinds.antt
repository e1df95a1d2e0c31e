-- Kinds of cells: what a cell holds, as tests, and the cells that numbers or flags may give.
use Rattle.std.specs.Prelude.{Bool, IsTrue, true, false, ⊤}
use Rattle.oe_cell.specs.declared.cell.Cell.{Cell}
use Rattle.oe_cell.specs.declared.cell.Cell.TheVariants.{Empty, Flag, Number, Over}

abbrev pub is_over : Cell → Bool
is_over Over = true
is_over Empty = false
is_over (Flag b) = false
is_over (Number q) = false

abbrev pub is_empty : Cell → Bool
is_empty Empty = true
is_empty Over = false
is_empty (Flag b) = false
is_empty (Number q) = false

abbrev pub is_number : Cell → Bool
is_number (Number q) = true
is_number Empty = false
is_number (Flag b) = false
is_number Over = false

abbrev pub is_null_or_flag : Cell → Bool
is_null_or_flag Empty = true
is_null_or_flag (Flag b) = true
is_null_or_flag (Number q) = false
is_null_or_flag Over = false

-- null, Over or a number: what arithmetic may give
abbrev pub IsNumeric : Cell → Type 0
IsNumeric Empty = ⊤
IsNumeric Over = ⊤
IsNumeric (Number q) = ⊤
IsNumeric (Flag b) = ⊥

-- null, Over or a flag: what comparisons and logic may give
abbrev pub IsLogical : Cell → Type 0
IsLogical Empty = ⊤
IsLogical Over = ⊤
IsLogical (Number q) = ⊥
IsLogical (Flag b) = ⊤

-- the third cell passes every test that null, Over and the first two pass
abbrev pub HasCommonFacts : Cell → Cell → Cell → Type 0
HasCommonFacts x y result =
    (test : Cell → Bool) → IsTrue (test Empty) → IsTrue (test Over) → IsTrue (test x) → IsTrue (test y)
    → IsTrue (test result)
