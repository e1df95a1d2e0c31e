-- What the head of a file of a version is, and the widths that are handed to the writer of one.
use Rattle.std.specs.Prelude.{◌≡◌, ℕ, true, List, length, Option, Some, None, ⊤, codes, option_and_then}
use Rattle.std.specs.Borrow.{Bor}
use Rattle.std.specs.Option.{option_map}
use Rattle.serde_json.specs.Data.{Data, Items}
use Rattle.serde_json.specs.Find.{as_number, as_u64}
use Rattle.oe_dims.specs.Dimensions.{IsShape, extent}
use Rattle.oe_dims.specs.Names.{is_name}
use Rattle.oe_render.specs.CubeText.{Each, list_in}
use Rattle.oe_render.specs.Members.{SaysKind, SaysShape, text_in}
use Rattle.oe_sources.specs.Head.{Head, header_text}
use Rattle.oe_sources.specs.declared.head.Version.{Version}
use Rattle.oe_sources.specs.declared.head.Version.TheVariants.{First, Second}
use Rattle.oe_wide.specs.Wide.{byte_count}
use Rattle.oe_wide.specs.declared.width.Width.{Width}

-- the widths that stand behind a reference, if there are any
abbrev pub widths_seen : Option (Bor (List Width)) → Option (List Width)
widths_seen widths = option_map (λ w. w.now) widths

-- a file of version 1 names no widths, one of version 2 as many as there are sections
abbrev pub HasWidthsOf : Version → ℕ → Option (List Width) → Type 0
HasWidthsOf First sections None = ⊤
HasWidthsOf First sections (Some widths) = ⊥
HasWidthsOf Second sections None = ⊥
HasWidthsOf Second sections (Some widths) = length widths ≡ sections

-- the head is valid, but perhaps too long, and that of a file of the version
pub record IsHeadOf (version : Version) (head : Head) : Type 0 where
  pub id : is_name head.id ≡ true
  pub shape : IsShape head.shape
  pub widths : HasWidthsOf version (extent head.shape.t) head.widths

-- the bytes are the header of no file of the version
abbrev pub IsNoHeader : Version → List ℕ → Type 0
IsNoHeader version bytes = (head : Head) → IsHeadOf version head → ¬ (bytes ≡ header_text head)

-- they are that of no file of the version with another head
abbrev pub IsHeaderOfNoOther : Version → List ℕ → Head → Type 0
IsHeaderOfNoOther version bytes head =
    (other : Head) → IsHeadOf version other → bytes ≡ header_text other → head ≡ other

-- they are the header of a file of the version with this head, and with no other
abbrev pub IsHeaderOf : Version → List ℕ → Head → Type 0
IsHeaderOf version bytes head =
    IsHeadOf version head × (bytes ≡ header_text head) × IsHeaderOfNoOther version bytes head

-- ---- what a JSON value says of a head, whatever the order of its members

-- how many bytes a record of the width has
abbrev pub SpellsWidth : Data → Width → Type 0
SpellsWidth value width = option_and_then as_u64 (as_number value) ≡ Some (byte_count width)

-- the widths of the sections
abbrev pub ListsWidths : Data → List Width → Type 0
ListsWidths value widths =
    (values : Items) × (list_in (codes "widths") value ≡ Some values) × Each SpellsWidth values widths

-- these widths, where the head has any
abbrev pub SaysWidths : Data → Option (List Width) → Type 0
SaysWidths value None = ⊤
SaysWidths value (Some widths) = ListsWidths value widths

-- a file of the version with so many sections has these widths, or none, and the value says them
abbrev pub SaysWidthsOf : Version → ℕ → Data → Option (List Width) → Type 0
SaysWidthsOf version sections value widths = HasWidthsOf version sections widths × SaysWidths value widths

-- it says no such widths
abbrev pub SaysNoWidthsOf : Version → ℕ → Data → Type 0
SaysNoWidthsOf version sections value =
    (widths : Option (List Width)) → HasWidthsOf version sections widths → ¬ SaysWidths value widths

-- all of the head
pub record SaysHead (value : Data) (head : Head) : Type 0 where
  pub id : text_in (codes "id") value ≡ Some head.id
  pub kind : SaysKind value head.kind
  pub widths : SaysWidths value head.widths
  pub shape : SaysShape value head.shape
