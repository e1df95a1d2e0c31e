-- Kinds of cells as a check sees them: numbers, flags, or open, as that of a null, which fits each use by itself.
use Rattle.std.specs.Prelude.{Bool, true, false, ◌&&◌, List, [], ◌∷◌, Option, Some, None}
use Rattle.std.specs.List.{list_any}
use Rattle.oe_cell.specs.Kinds.{IsNumeric, IsLogical}
use Rattle.oe_cell.specs.declared.cell.Cell.{Cell}
use Rattle.oe_cell.specs.declared.cell.Cell.TheVariants.{Empty, Flag, Number, Over}
use Rattle.oe_cube.specs.Kinds.{IsOfKind}
use Rattle.oe_dims.specs.declared.kind.CellKind.{CellKind}
use Rattle.oe_dims.specs.declared.kind.CellKind.TheVariants.{Numbers, Flags}

-- the cell is null, Over or of the kind where that is known; of an open kind are null and Over alone
abbrev pub FitsKind : Option CellKind → Cell → Type 0
FitsKind (Some kind) c = IsOfKind kind c
FitsKind None c = IsNumeric c × IsLogical c

-- the kind of a literal
abbrev pub literal_kind : Cell → Option CellKind
literal_kind Empty = None
literal_kind (Flag b) = Some Flags
literal_kind (Number q) = Some Numbers
literal_kind Over = None

abbrev pub is_numbers : Option CellKind → Bool
is_numbers (Some Numbers) = true
is_numbers (Some Flags) = false
is_numbers None = false

abbrev pub is_flags : Option CellKind → Bool
is_flags (Some Flags) = true
is_flags (Some Numbers) = false
is_flags None = false

-- both kinds occur
abbrev pub are_mixed : List (Option CellKind) → Bool
are_mixed kinds = list_any is_numbers kinds && list_any is_flags kinds

-- the first kind that is known, which is that of all where they are not mixed
abbrev pub kind_among : List (Option CellKind) → Option CellKind
kind_among [] = None
kind_among (Some kind ∷ kinds) = Some kind
kind_among (None ∷ kinds) = kind_among kinds
