-- Records of three widths: 1 byte for null and flags, 9 for whole numbers too, and 17 for every cell.
use Rattle.std.specs.Prelude.{◌≡◌, ◌==◌, ℕ, ◌*◌, ◌≤◌, true, false, if◌then◌else◌, List, [], ◌∷◌, ◌++◌, take, drop, slice_get, ℤ, pos, Option, Some, None, IsSome, unwrap_or}
use Rattle.std.specs.Int.{w64, to_be_bytes, cast_unsigned}
use Rattle.std.specs.List.{All, flat_map}
use Rattle.oe_cell.specs.Cells.{IsCell}
use Rattle.oe_cell.specs.Record.{record_of}
use Rattle.oe_cell.specs.declared.cell.Cell.{Cell}
use Rattle.oe_cell.specs.declared.cell.Cell.TheVariants.{Empty, Flag, Number, Over}
use Rattle.oe_wide.specs.declared.width.Width.{Width}
use Rattle.oe_wide.specs.declared.width.Width.TheVariants.{One, Nine, Seventeen}

-- how many bytes a record of the width has
abbrev pub byte_count : Width → ℕ
byte_count One = 1
byte_count Nine = 9
byte_count Seventeen = 17

-- a tag, and a whole number in two's complement as 8 bytes, the highest first
unfoldable pub nine_bytes : ℕ → ℤ → List ℕ
nine_bytes tag num = tag ∷ to_be_bytes w64 (cast_unsigned w64 num)

-- the record of a cell in a width, none where the width is too small: in 1 byte the tags 0 to 2 of null, false and
-- true; in 9 bytes these with zeros behind them, and tag 5 with a whole number; in 17 bytes the record of any cell
abbrev pub record_in : Width → Cell → Option (List ℕ)
record_in One Empty = Some (0 ∷ [])
record_in One (Flag false) = Some (1 ∷ [])
record_in One (Flag true) = Some (2 ∷ [])
record_in One (Number q) = None
record_in One Over = None
record_in Nine Empty = Some (nine_bytes 0 (pos 0))
record_in Nine (Flag false) = Some (nine_bytes 1 (pos 0))
record_in Nine (Flag true) = Some (nine_bytes 2 (pos 0))
record_in Nine (Number q) = if q.den == 1 then Some (nine_bytes 5 q.num) else None
record_in Nine Over = None
record_in Seventeen cell = Some (record_of cell)

-- the cell has a record in the width
abbrev pub FitsIn : Width → Cell → Type 0
FitsIn width cell = IsSome (record_in width cell)

-- each of the cells has one
abbrev pub AllFitIn : Width → List Cell → Type 0
AllFitIn width cells = All (FitsIn width) cells

-- the bytes are the record of the cell, whose number is in lowest terms and in range
pub record IsRecordIn (width : Width) (bytes : List ℕ) (cell : Cell) : Type 0 where
  pub valid : IsCell cell
  pub bytes_are : record_in width cell ≡ Some bytes

-- the bytes of a cell's record, none where the width is too small
abbrev pub record_bytes : Width → Cell → List ℕ
record_bytes width cell = unwrap_or (record_in width cell) []

-- the records of cells, one behind the other
abbrev pub records_in : Width → List Cell → List ℕ
records_in width cells = flat_map (record_bytes width) cells

-- the bytes of the record at an index, among records of one width
abbrev pub part_at : Width → List ℕ → ℕ → List ℕ
part_at width bytes k = take (byte_count width) (drop (byte_count width * k) bytes)

-- each of the cells has its record at its index
abbrev pub HaveRecords : Width → List ℕ → List Cell → Type 0
HaveRecords width bytes cells =
    (k : ℕ) (cell : Cell) → slice_get cells k ≡ Some cell → IsRecordIn width (part_at width bytes k) cell

-- the width is the least in which a fact holds
pub record IsLeastWidth (Holds : Width → Type 0) (width : Width) : Type 0 where
  pub holds : Holds width
  pub least : (other : Width) → Holds other → byte_count width ≤ byte_count other
