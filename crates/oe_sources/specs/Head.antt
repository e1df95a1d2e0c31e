-- What a cube file says before its records: the id, the kind of the cells, the shape, and in version 2 the widths.
use Rattle.std.specs.Prelude.{◌≡◌, ℕ, ◌*◌, ◌≤◌, true, List, [], ◌∷◌, ◌++◌, length, map, codes, decimal, take, sum_by, Option, Some, None, IfSome}
use Rattle.std.specs.Int.{w32, to_be_bytes}
use Rattle.std.specs.List.{filter_map}
use Rattle.oe_dims.specs.Dimensions.{Dimensions, IsShape, all_kinds, cell_count, extent}
use Rattle.oe_dims.specs.Names.{is_name}
use Rattle.oe_dims.specs.declared.kind.CellKind.{CellKind}
use Rattle.oe_render.specs.Text.{listed_text, present_text, quoted}
use Rattle.oe_render.specs.Members.{kind_word}
use Rattle.oe_wide.specs.Wide.{byte_count}
use Rattle.oe_wide.specs.declared.width.Width.{Width}
use Rattle.oe_wide.specs.declared.width.Width.TheVariants.{Seventeen}

-- a file of version 2 has one width for each section of its records; one of version 1 names none
pub record Head : Type 0 where
  pub id : List ℕ
  pub kind : CellKind
  pub widths : Option (List Width)
  pub shape : Dimensions

-- ---- the text of the header

-- the member that only version 2 has
abbrev pub widths_text : Option (List Width) → List ℕ
widths_text None = []
widths_text (Some widths) =
    codes "\"widths\":[" ++ listed_text (map (λ width. decimal (byte_count width)) widths) ++ codes "],"

-- the one spelling of the header: its members in this order, without blanks; the dimensions as the result text has them
unfoldable pub header_text : Head → List ℕ
header_text head =
    codes "{\"id\":" ++ quoted head.id ++ codes ",\"cells\":" ++ quoted (kind_word head.kind) ++ codes ","
    ++ widths_text head.widths ++ codes "\"dimensions\":["
    ++ listed_text (filter_map (present_text head.shape) all_kinds) ++ codes "]}"

-- the 8 bytes that a file of each version begins with
abbrev pub magic : Option (List Width) → List ℕ
magic None = codes "OEOCUBE1"
magic (Some widths) = codes "OEOCUBE2"

-- all that stands before the records: the version, the length of the header as 4 bytes, the highest first, the header
abbrev pub front_bytes : Head → List ℕ
front_bytes head = magic head.widths ++ to_be_bytes w32 (length (header_text head)) ++ header_text head

-- the most bytes of a header
abbrev pub most_header : ℕ
most_header = 8388608

-- ---- the sections, each of which has records of one width

-- version 2 has one section for each label of t, or one where there is no t; version 1 is one section of records of 17
-- bytes
abbrev pub widths_for : Option (List Width) → List Width
widths_for None = Seventeen ∷ []
widths_for (Some widths) = widths

abbrev pub section_widths : Head → List Width
section_widths head = widths_for head.widths

-- how many cells a section has
abbrev pub size_for : Option (List Width) → Dimensions → ℕ
size_for None d = cell_count d
size_for (Some widths) d = extent d.bands * extent d.y * extent d.x

abbrev pub section_size : Head → ℕ
section_size head = size_for head.widths head.shape

-- how many bytes the first sections have
abbrev pub section_start : Head → ℕ → ℕ
section_start head section = section_size head * sum_by byte_count (take section (section_widths head))

-- how many bytes all records have
abbrev pub record_bytes_count : Head → ℕ
record_bytes_count head = section_size head * sum_by byte_count (section_widths head)

-- a valid id and shape, one width for each section, and a header that is not too long
pub record IsHead (head : Head) : Type 0 where
  pub id : is_name head.id ≡ true
  pub shape : IsShape head.shape
  pub widths : IfSome head.widths (λ widths. length widths ≡ extent head.shape.t)
  pub short : length (header_text head) ≤ most_header
