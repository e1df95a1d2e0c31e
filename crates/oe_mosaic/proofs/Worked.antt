-- Worked values of the definitions.
use Rattle.std.specs.Prelude.{◌≡◌, ℕ, ℤ, true, false, pos, neg_ℤ, List, [], ◌∷◌, codes, Some, None, Ok, Err, refl}
use Rattle.oe_cell.specs.declared.cell.Cell.{Cell}
use Rattle.oe_cell.specs.declared.cell.Cell.TheVariants.{Empty, Number}
use Rattle.oe_dims.specs.Dimensions.{Dimensions}
use Rattle.oe_dims.specs.declared.kind.CellKind.TheVariants.{Numbers, Flags}
use Rattle.oe_dims.specs.declared.kind.Kind.TheVariants.{Y}
use Rattle.oe_mosaic.specs.Labels.{join_bands, merge_labels}
use Rattle.oe_mosaic.specs.Mosaics.{Part, mosaic_contents, mosaic_shape}
use Rattle.oe_mosaic.specs.MosaicText.{names_in}
use Rattle.oe_mosaic.specs.Parts.{may_replace, part_refusal, without}
use Rattle.oe_mosaic.specs.Parts.PartRefusal.{kind_differs}

abbrev row : List ℤ → Dimensions
row labels = record { epsg = 4326; t = None; bands = None; y = None; x = Some labels }

abbrev whole : ℕ → Cell
whole n = Number (record { num = pos n; den = 1 })

-- two rows of two pixels that share the label 1
abbrev a : Part
a = record { shape = row (pos 0 ∷ pos 1 ∷ []); kind = Numbers; contents = Some (record { cells = whole 1 ∷ Empty ∷ []; damaged = [] }) }

abbrev b : Part
b = record { shape = row (pos 1 ∷ pos 2 ∷ []); kind = Numbers; contents = Some (record { cells = whole 5 ∷ whole 6 ∷ []; damaged = 0 ∷ [] }) }

all_labels : mosaic_shape (a ∷ b ∷ []) ≡ row (pos 0 ∷ pos 1 ∷ pos 2 ∷ [])
all_labels = refl

-- null of the first part stands, and what is damaged behind it is not seen
first_part_decides : mosaic_contents (a ∷ b ∷ []) ≡ Some (record { cells = whole 1 ∷ Empty ∷ whole 6 ∷ []; damaged = [] })
first_part_decides = refl

other_order : mosaic_contents (b ∷ a ∷ []) ≡ Some (record { cells = whole 1 ∷ whole 5 ∷ whole 6 ∷ []; damaged = 1 ∷ [] })
other_order = refl

one_left : mosaic_contents (without 0 (a ∷ b ∷ [])) ≡ Some (record { cells = whole 5 ∷ whole 6 ∷ []; damaged = 0 ∷ [] })
one_left = refl

-- a part of truth values does not stand beside one of numbers, but in its place where it is alone
abbrev flags : Part
flags = record { shape = row (pos 1 ∷ pos 2 ∷ []); kind = Flags; contents = None }

other_kind : part_refusal (a ∷ []) flags ≡ Some kind_differs
other_kind = refl

in_place_of_one : may_replace (a ∷ []) 0 flags ≡ true
in_place_of_one = refl

beside_one : may_replace (a ∷ b ∷ []) 0 flags ≡ false
beside_one = refl

-- labels of y fall
falling_labels : merge_labels Y (pos 3 ∷ pos 1 ∷ []) (pos 2 ∷ pos 1 ∷ neg_ℤ (pos 4) ∷ []) ≡ pos 3 ∷ pos 2 ∷ pos 1 ∷ neg_ℤ (pos 4) ∷ []
falling_labels = refl

-- bands of the second part that the first has are not new
bands_in_another_order : join_bands (Some (codes "B1" ∷ codes "B2" ∷ [])) (Some (codes "B2" ∷ codes "B3" ∷ codes "B1" ∷ [])) ≡ Some (codes "B1" ∷ codes "B2" ∷ codes "B3" ∷ [])
bands_in_another_order = refl

two_lines : names_in (codes "m\na.cube\n") ≡ Ok (codes "m" ∷ codes "a.cube" ∷ [])
two_lines = refl

line_missing : names_in (codes "m\n") ≡ Err 2
line_missing = refl

line_cut_off : names_in (codes "m\na.cube") ≡ Err 2
line_cut_off = refl

no_name : names_in (codes "m\na b\nc\n") ≡ Err 2
no_name = refl
