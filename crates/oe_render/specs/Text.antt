-- The result text of a cube.
use Rattle.std.specs.Prelude.{ℕ, zero, suc, ◌+◌, List, [], ◌∷◌, ◌++◌, map, codes, decimal, Option, Some, None, is_some, if◌then◌else◌}
use Rattle.std.specs.Fmt.{signed_decimal}
use Rattle.std.specs.List.{join_with_byte, filter_map}
use Rattle.oe_cell.specs.declared.cell.Cell.{Cell}
use Rattle.oe_cell.specs.Spelling.{cell_text}
use Rattle.oe_dims.specs.Cube.{Cube}
use Rattle.oe_dims.specs.Dimensions.{Dimensions, number_labels, band_names, label_count, all_kinds}
use Rattle.oe_dims.specs.Instant.{instant_text}
use Rattle.oe_dims.specs.declared.kind.Kind.{Kind}
use Rattle.oe_dims.specs.declared.kind.Kind.TheVariants.{Time, Bands, Y, X}

-- the parts with a comma between each two
abbrev pub listed_text : List (List ℕ) → List ℕ
listed_text = join_with_byte 44

-- what stands before the part at an index: a comma, but before the first nothing
abbrev pub separator : ℕ → List ℕ
separator zero = []
separator (suc index) = codes ","

-- the parts after so many others: each behind its separator
abbrev pub more_text : ℕ → List (List ℕ) → List ℕ
more_text index [] = []
more_text index (part ∷ parts) = separator index ++ part ++ more_text (suc index) parts

-- the text in quotes
abbrev pub quoted : List ℕ → List ℕ
quoted text = codes "\"" ++ text ++ codes "\""

-- the labels of a dimension: instants and names in quotes, coordinates in decimal
abbrev pub label_texts : Dimensions → Kind → List (List ℕ)
label_texts d Time = map (λ label. quoted (instant_text label)) (number_labels d Time)
label_texts d Bands = map quoted (band_names d)
label_texts d Y = map signed_decimal (number_labels d Y)
label_texts d X = map signed_decimal (number_labels d X)

-- the reference system of y and x
abbrev pub reference_system : Dimensions → List ℕ
reference_system d = codes "\"reference_system\":" ++ decimal d.epsg ++ codes ","

-- what stands before the labels of a dimension
abbrev pub dimension_head : Dimensions → Kind → List ℕ
dimension_head d Time = codes "{\"name\":\"t\",\"type\":\"temporal\","
dimension_head d Bands = codes "{\"name\":\"bands\",\"type\":\"bands\","
dimension_head d Y = codes "{\"name\":\"y\",\"type\":\"spatial\",\"axis\":\"y\"," ++ reference_system d
dimension_head d X = codes "{\"name\":\"x\",\"type\":\"spatial\",\"axis\":\"x\"," ++ reference_system d

-- a dimension with its labels
abbrev pub dimension_text : Dimensions → Kind → List ℕ
dimension_text d kind = dimension_head d kind ++ codes "\"labels\":[" ++ listed_text (label_texts d kind) ++ codes "]}"

-- the same of a dimension that the cube has
abbrev pub present_text : Dimensions → Kind → Option (List ℕ)
present_text d kind = if is_some (label_count d kind) then Some (dimension_text d kind) else None

-- a part that may be missing, after so many others: with its separator
abbrev pub part_text : Option (List ℕ) → ℕ → List ℕ
part_text None sent = []
part_text (Some text) sent = separator sent ++ text

-- how many parts there are with it
abbrev pub parts_after : Option (List ℕ) → ℕ → ℕ
parts_after None sent = sent
parts_after (Some text) sent = sent + 1

-- all up to the first cell
abbrev pub head_text : Dimensions → List ℕ
head_text d =
    codes "{\"type\":\"FractionCube\",\"dimensions\":[" ++ listed_text (filter_map (present_text d) all_kinds)
    ++ codes "],\"data\":["

-- the result text: the dimensions that the cube has, in the order t, bands, y, x, and its cells in row-major order
unfoldable pub cube_text : Cube Cell → List ℕ
cube_text cube = head_text cube.shape ++ listed_text (map cell_text cube.cells) ++ codes "]}"
