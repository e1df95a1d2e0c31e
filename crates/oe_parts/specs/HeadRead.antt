-- What a JSON value says of the head of a part file, whatever the order of its members.
use Rattle.std.specs.Prelude.{◌≡◌, ℕ, List, [], ◌∷◌, Some, IsUtf8, codes, option_and_then}
use Rattle.serde_json.specs.Data.{Data, Items}
use Rattle.serde_json.specs.Find.{as_number, as_u64}
use Rattle.oe_dims.specs.Dimensions.{IsShape}
use Rattle.oe_render.specs.CubeText.{Each, list_in}
use Rattle.oe_render.specs.Members.{SaysKind, SaysShape, text_in}
use Rattle.oe_window.specs.declared.grid.ChunkSize.{ChunkSize}
use Rattle.oe_parts.specs.Head.{IsPartHead, PartHead, header_text}

-- the value is a number that 64 bits hold
abbrev pub IsNumberOf : Data → ℕ → Type 0
IsNumberOf value number = option_and_then as_u64 (as_number value) ≡ Some number

-- the member of this name is a list of these numbers
abbrev pub SaysNumbers : List ℕ → Data → List ℕ → Type 0
SaysNumbers name value numbers =
    (values : Items) × (list_in name value ≡ Some values) × Each IsNumberOf values numbers

-- the sides of a chunk
abbrev pub SaysSides : Data → ChunkSize → Type 0
SaysSides value sides = SaysNumbers (codes "chunk") value (sides.x ∷ sides.y ∷ sides.t ∷ [])

-- the first chunk and the end
abbrev pub SaysRange : Data → ℕ → ℕ → Type 0
SaysRange value first end = SaysNumbers (codes "range") value (first ∷ end ∷ [])

-- all of the head
pub record SaysPartHead (value : Data) (head : PartHead) : Type 0 where
  pub graph : text_in (codes "graph") value ≡ Some head.graph
  pub sides : SaysSides value head.sides
  pub range : SaysRange value head.first head.end
  pub kind : SaysKind value head.kind
  pub shape : SaysShape value head.shape

-- what is known of a head that was read, before it is judged
pub record IsReadHead (head : PartHead) : Type 0 where
  pub graph : IsUtf8 head.graph
  pub shape : IsShape head.shape

-- ---- headers, as bytes

-- the bytes are the header of no part
abbrev pub IsNoHeader : List ℕ → Type 0
IsNoHeader bytes = (head : PartHead) → IsPartHead head → ¬ (bytes ≡ header_text head)

-- they are that of no part with another head
abbrev pub IsHeaderOfNoOther : List ℕ → PartHead → Type 0
IsHeaderOfNoOther bytes head = (other : PartHead) → IsPartHead other → bytes ≡ header_text other → head ≡ other

-- they are the header of a part with this head, and of no other
abbrev pub IsHeaderOf : List ℕ → PartHead → Type 0
IsHeaderOf bytes head = IsPartHead head × (bytes ≡ header_text head) × IsHeaderOfNoOther bytes head
