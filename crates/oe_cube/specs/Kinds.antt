-- Kinds of cells, as a cube has them.
use Rattle.std.specs.Prelude.{Bool, true, false}
use Rattle.oe_cell.specs.Kinds.{IsNumeric, IsLogical}
use Rattle.oe_cell.specs.declared.cell.Cell.{Cell}
use Rattle.oe_cell.specs.declared.cell.Cell.TheVariants.{Empty, Flag, Number, Over}
use Rattle.oe_dims.specs.declared.kind.CellKind.{CellKind}
use Rattle.oe_dims.specs.declared.kind.CellKind.TheVariants.{Numbers, Flags}

-- the cell is null, Over or of the kind: what a cube of the kind may hold
abbrev pub IsOfKind : CellKind → Cell → Type 0
IsOfKind Numbers c = IsNumeric c
IsOfKind Flags c = IsLogical c

-- the cell is null or of the kind, and so never Over: what a collection of the kind may hold
abbrev pub is_null_or_of : CellKind → Cell → Bool
is_null_or_of kind Empty = true
is_null_or_of Numbers (Flag b) = false
is_null_or_of Numbers (Number q) = true
is_null_or_of Flags (Flag b) = true
is_null_or_of Flags (Number q) = false
is_null_or_of kind Over = false
