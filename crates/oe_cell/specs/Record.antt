-- A cell as a record of 17 bytes: a tag, the numerator in two's complement and the denominator, 8 bytes each with the
-- highest first.
use Rattle.std.specs.Prelude.{◌≡◌, ℕ, true, false, List, ◌∷◌, ◌++◌, ℤ, pos}
use Rattle.std.specs.Int.{w64, to_be_bytes, cast_unsigned}
use Rattle.std.specs.List.{flat_map}
use Rattle.oe_cell.specs.Cells.{IsCell}
use Rattle.oe_cell.specs.declared.cell.Cell.{Cell}
use Rattle.oe_cell.specs.declared.cell.Cell.TheVariants.{Empty, Flag, Number, Over}

-- the bytes of a tag, a numerator and a denominator
unfoldable pub bytes_of : ℕ → ℤ → ℕ → List ℕ
bytes_of tag num den = tag ∷ to_be_bytes w64 (cast_unsigned w64 num) ++ to_be_bytes w64 den

-- tag 0 is null, 1 false, 2 true, 3 a number and 4 Over; the bytes after each tag but 3 are 0
abbrev pub record_of : Cell → List ℕ
record_of Empty = bytes_of 0 (pos 0) 0
record_of (Flag false) = bytes_of 1 (pos 0) 0
record_of (Flag true) = bytes_of 2 (pos 0) 0
record_of (Number q) = bytes_of 3 q.num q.den
record_of Over = bytes_of 4 (pos 0) 0

-- the bytes are the record of some cell, whose number is in lowest terms and in range
abbrev pub IsRecord : List ℕ → Type 0
IsRecord bytes = (c : Cell) × IsCell c × (record_of c ≡ bytes)

-- the records of cells, one behind the other, so that of cell k from byte 17 k on
abbrev pub records_of : List Cell → List ℕ
records_of cells = flat_map record_of cells
