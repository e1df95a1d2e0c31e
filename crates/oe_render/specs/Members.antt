-- What the members of a JSON value say of a cube's cells and shape.
use Rattle.std.specs.Prelude.{◌≡◌, ℕ, List, Option, Some, codes, option_and_then}
use Rattle.serde_json.specs.Data.{Data, Items}
use Rattle.serde_json.specs.Find.{as_str, get}
use Rattle.oe_dims.specs.Dimensions.{Dimensions}
use Rattle.oe_dims.specs.declared.kind.CellKind.{CellKind}
use Rattle.oe_dims.specs.declared.kind.CellKind.TheVariants.{Numbers, Flags}
use Rattle.oe_render.specs.CubeText.{AreDimensions, list_in}

-- the word for cells of a kind
abbrev pub kind_word : CellKind → List ℕ
kind_word Numbers = codes "number"
kind_word Flags = codes "boolean"

-- the text of the member of this name
abbrev pub text_in : List ℕ → Data → Option (List ℕ)
text_in name value = option_and_then as_str (get name value)

-- the kind of the cells
abbrev pub SaysKind : Data → CellKind → Type 0
SaysKind value kind = text_in (codes "cells") value ≡ Some (kind_word kind)

-- the shape
abbrev pub SaysShape : Data → Dimensions → Type 0
SaysShape value shape =
    (values : Items) × (list_in (codes "dimensions") value ≡ Some values) × AreDimensions values shape
