-- Words that the rows of the table of faults share: dimensions that a cube lacks, and how two cubes compare.
use Rattle.std.specs.Prelude.{ℕ, ◌==◌, ◌&&◌, ◌||◌, not, Bool, true, false, List, [], ◌∷◌, Option, Some, None, codes, is_some, is_none}
use Rattle.std.specs.List.{list_any}
use Rattle.std.specs.Option.{option_map_or}
use Rattle.oe_dims.specs.Dimensions.{Dimensions}
use Rattle.oe_dims.specs.Indices.{same_number}
use Rattle.oe_dims.specs.Names.{same_name}
use Rattle.oe_dims.specs.declared.kind.CellKind.{CellKind}
use Rattle.oe_dims.specs.declared.kind.CellKind.TheVariants.{Numbers, Flags}
use Rattle.oe_dims.specs.declared.kind.Kind.{Kind}
use Rattle.oe_dims.specs.declared.kind.Kind.TheVariants.{Time, Bands, Y, X}
use Rattle.oe_requests.specs.Operations.{dimension_named}

-- ---- dimensions of one cube

-- the cube lacks the dimension
abbrev pub lacks_dimension : Kind → Dimensions → Bool
lacks_dimension Time d = is_none d.t
lacks_dimension Bands d = is_none d.bands
lacks_dimension Y d = is_none d.y
lacks_dimension X d = is_none d.x

-- it lacks x or y
abbrev pub lacks_plane : Dimensions → Bool
lacks_plane d = lacks_dimension Y d || lacks_dimension X d

-- it lacks the dimension of a name, as every cube does where the name is not that of a dimension
abbrev pub lacks_named : List ℕ → Dimensions → Bool
lacks_named name d = option_map_or (λ along. lacks_dimension along d) (dimension_named name) true

-- a name is given, and is not that of t
abbrev pub names_other : Option (List ℕ) → Bool
names_other name = option_map_or (λ bytes. not (same_name bytes (codes "t"))) name false

-- ---- two cubes

-- the first has a dimension that the second lacks
abbrev pub has_another : Dimensions → Dimensions → Bool
has_another one two =
    (is_some one.t && is_none two.t) || (is_some one.bands && is_none two.bands)
    || (is_some one.y && is_none two.y) || (is_some one.x && is_none two.x)

-- a reference system has an EPSG code; 0 stands where there is none, as on a cube without x and y
abbrev pub has_code : ℕ → Bool
has_code epsg = not (epsg == 0)

-- both have an EPSG code, and these differ
abbrev pub codes_differ : Dimensions → Dimensions → Bool
codes_differ one two = has_code one.epsg && has_code two.epsg && not (one.epsg == two.epsg)

-- there is a label
abbrev pub has_label : {L : Type 0} → List L → Bool
has_label [] = false
has_label (label ∷ labels) = true

-- along one dimension, a label is in both cubes: where both have it a common one; where one has it any, since the other
-- is repeated over it; and where neither has it nothing is asked
abbrev pub meet_in : {L : Type 0} → (L → L → Bool) → Option (List L) → Option (List L) → Bool
meet_in same None None = true
meet_in same (Some one) None = has_label one
meet_in same None (Some two) = has_label two
meet_in same (Some one) (Some two) = list_any (λ label. list_any (same label) two) one

-- a tuple of labels is in both cubes
abbrev pub share_tuple : Dimensions → Dimensions → Bool
share_tuple one two =
    meet_in same_number one.t two.t && meet_in same_name one.bands two.bands
    && meet_in same_number one.y two.y && meet_in same_number one.x two.x

-- ---- kinds of cells

abbrev pub same_cell_kind : CellKind → CellKind → Bool
same_cell_kind Numbers Numbers = true
same_cell_kind Flags Flags = true
same_cell_kind _ _ = false
