-- What the bytes of a record say of a cell of a collection.
use Rattle.std.specs.Prelude.{◌≡◌, ℕ, ◌^◌, ◌==◌, ◌&&◌, nat_lt, nat_le, Bool, true, false, if◌then◌else◌, List, take, drop, slice_index_or, unsigned_abs, Option, Some, None}
use Rattle.std.specs.Int.{w64, from_be_bytes, cast_signed}
use Rattle.std.specs.Option.{option_map_or}
use Rattle.oe_cell.specs.Exact.{gcd_of}
use Rattle.oe_cell.specs.Fraction.{Fraction}
use Rattle.oe_cell.specs.declared.cell.Cell.{Cell}
use Rattle.oe_cell.specs.declared.cell.Cell.TheVariants.{Empty, Flag, Number, Over}
use Rattle.oe_cube.specs.Kinds.{is_null_or_of}
use Rattle.oe_dims.specs.Names.{same_name}
use Rattle.oe_dims.specs.declared.kind.CellKind.{CellKind}
use Rattle.oe_wide.specs.Wide.{IsRecordIn, record_in}
use Rattle.oe_wide.specs.declared.width.Width.{Width}

-- the bytes are the record of a cell that a collection of the kind may hold
pub record IsStoredAs (kind : CellKind) (width : Width) (bytes : List ℕ) (cell : Cell) : Type 0 where
  pub is_record : IsRecordIn width bytes cell
  pub of_kind : is_null_or_of kind cell ≡ true

-- ---- the same, computed

-- the number is in lowest terms and in range
abbrev pub is_valid_number : Fraction → Bool
is_valid_number q =
    nat_lt (unsigned_abs q.num) (2 ^ 63) && nat_le 1 q.den && nat_lt q.den (2 ^ 63)
    && (gcd_of (unsigned_abs q.num) q.den == 1)

abbrev pub is_valid_cell : Cell → Bool
is_valid_cell (Number q) = is_valid_number q
is_valid_cell Empty = true
is_valid_cell (Flag b) = true
is_valid_cell Over = true

-- the parts of a record, as far as it has them: the tag, the numerator and the denominator
abbrev pub tag_in : List ℕ → ℕ
tag_in bytes = slice_index_or bytes 0 0

abbrev pub fraction_in : List ℕ → Fraction
fraction_in bytes = record {
  num = cast_signed w64 (from_be_bytes w64 (take 8 (drop 1 bytes)));
  den = from_be_bytes w64 (take 8 (drop 9 bytes));
}

-- the one cell, other than Over, whose record the bytes can be
unfoldable pub candidate : List ℕ → Cell
candidate bytes =
    if tag_in bytes == 1 then Flag false
    else (if tag_in bytes == 2 then Flag true
    else (if tag_in bytes == 3 then Number (fraction_in bytes)
    else (if tag_in bytes == 5 then Number (record { num = (fraction_in bytes).num; den = 1 })
    else Empty)))

-- the cell of the kind whose record the bytes are, if they are that of one
unfoldable pub stored_cell : CellKind → Width → List ℕ → Option Cell
stored_cell kind width bytes =
    let cell = candidate bytes in
    if is_valid_cell cell && is_null_or_of kind cell && option_map_or (same_name bytes) (record_in width cell) false
    then Some cell else None
