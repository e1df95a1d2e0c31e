-- What a part file says before its records: of which run it is a part, and which chunks it has.
use Rattle.std.specs.Prelude.{ℕ, ◌<◌, ◌≤◌, List, [], ◌∷◌, ◌++◌, length, map, codes, decimal, IsUtf8}
use Rattle.std.specs.Int.{w32, to_be_bytes}
use Rattle.std.specs.List.{filter_map}
use Rattle.json.specs.Print.{quoted}
use Rattle.oe_dims.specs.Dimensions.{Dimensions, IsShape, all_kinds}
use Rattle.oe_dims.specs.declared.kind.CellKind.{CellKind}
use Rattle.oe_render.specs.Text.{listed_text, present_text}
use Rattle.oe_render.specs.Members.{kind_word}
use Rattle.oe_window.specs.Chunks.{IsSide, Tiling, chunk_count, tiling_of}
use Rattle.oe_window.specs.declared.grid.ChunkSize.{ChunkSize}

-- sides that the chunks of a run may have
pub record AreSides (sides : ChunkSize) : Type 0 where
  pub x : IsSide sides.x
  pub y : IsSide sides.y
  pub t : IsSide sides.t

-- the text of the process graph as it was read, the sides of a chunk, the chunks from a first one on and before an
-- end, and the kind of the cells and the shape of the whole result
pub record PartHead : Type 0 where
  pub graph : List ℕ
  pub sides : ChunkSize
  pub first : ℕ
  pub end : ℕ
  pub kind : CellKind
  pub shape : Dimensions

-- how the whole result is parted into chunks, and into how many
abbrev pub grid_of : PartHead → Tiling
grid_of head = tiling_of head.shape head.sides

abbrev pub chunk_total : PartHead → ℕ
chunk_total head = chunk_count (grid_of head)

-- ---- the text of the header

-- a list of numbers in decimal
abbrev pub numbers_text : List ℕ → List ℕ
numbers_text numbers = codes "[" ++ listed_text (map decimal numbers) ++ codes "]"

abbrev pub sides_text : ChunkSize → List ℕ
sides_text sides = numbers_text (sides.x ∷ sides.y ∷ sides.t ∷ [])

-- the one spelling of the header: its members in this order, without blanks; the graph as a JSON text, the dimensions
-- as the result text has them; the sides stand twice, so that they are not changed in one place alone
unfoldable pub header_text : PartHead → List ℕ
header_text head =
    codes "{\"graph\":" ++ quoted head.graph
    ++ codes ",\"chunk\":" ++ sides_text head.sides
    ++ codes ",\"range\":" ++ numbers_text (head.first ∷ head.end ∷ [])
    ++ codes ",\"chunks\":" ++ decimal (chunk_total head)
    ++ codes ",\"cells\":\"" ++ kind_word head.kind
    ++ codes "\",\"dimensions\":[" ++ listed_text (filter_map (present_text head.shape) all_kinds)
    ++ codes "],\"again\":" ++ sides_text head.sides ++ codes "}"

-- all that stands before the records: the version, the length of the header as 4 bytes, the highest first, the header
abbrev pub front_bytes : PartHead → List ℕ
front_bytes head = codes "OEOPART1" ++ to_be_bytes w32 (length (header_text head)) ++ header_text head

-- the most bytes of a header
abbrev pub most_header : ℕ
most_header = 16777216

-- a graph in UTF-8, valid sides and shape, some chunks of those that there are, and a header that is not too long
pub record IsPartHead (head : PartHead) : Type 0 where
  pub graph : IsUtf8 head.graph
  pub sides : AreSides head.sides
  pub some : head.first < head.end
  pub within : head.end ≤ chunk_total head
  pub shape : IsShape head.shape
  pub short : length (header_text head) ≤ most_header
