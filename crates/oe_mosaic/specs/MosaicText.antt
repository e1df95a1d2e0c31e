-- The file of a mosaic: a line with the id of the collection, and a line with the name of each file, each with a line
-- feed.
use Rattle.std.specs.Prelude.{◌≡◌, ⊤, ℕ, ◌+◌, ◌&&◌, nat_lt, if◌then◌else◌, Bool, List, [], ◌∷◌, ◌++◌, length, Result, Ok, Err}
use Rattle.oe_dims.specs.Names.{is_name}
use Rattle.oe_dims.specs.Lists.{lines_of}
use Rattle.oe_mosaic.specs.declared.text.MosaicText.{MosaicText}
use Rattle.oe_mosaic.specs.declared.text.MosaicTextFail.{MosaicTextFail}
use Rattle.oe_mosaic.specs.declared.text.MosaicTextFail.TheVariants.{Invalid, OutOfMemory}

-- the fewest and the most lines: that of the id, and those of 1 to 16 files
abbrev pub fewest_lines : ℕ
fewest_lines = 2

abbrev pub most_lines : ℕ
most_lines = 17

-- a line may stand behind the names before it: it is a valid name, and they are not too many
abbrev pub may_follow : List (List ℕ) → List ℕ → Bool
may_follow before line = is_name line && nat_lt (length before) most_lines

-- the names where there are enough of them, or the number of the line that is missing
abbrev pub if_enough : List (List ℕ) → Result (List (List ℕ)) ℕ
if_enough names = if nat_lt (length names) fewest_lines then Err (length names + 1) else Ok names

-- the names of these lines behind those before them, or the number of the first bad line, from 1
abbrev pub names_from : List (List ℕ) → List (List ℕ) → Result (List (List ℕ)) ℕ
names_from before [] = if_enough before
names_from before ([] ∷ []) = if_enough before
names_from before ((byte ∷ bytes) ∷ []) = Err (length before + 1)
names_from before (line ∷ next ∷ lines) =
    if may_follow before line then names_from (before ++ line ∷ []) (next ∷ lines) else Err (length before + 1)

abbrev pub names_in : List ℕ → Result (List (List ℕ)) ℕ
names_in bytes = names_from [] (lines_of bytes)

-- the names of a mosaic's text in the order of their lines
abbrev pub names_of : MosaicText → List (List ℕ)
names_of text = text.id ∷ text.files.items

-- what reading the file of a mosaic answers, seen by view: its names, or the number of its first bad line
abbrev pub Reads : {X : Type 0} → (X → List (List ℕ)) → Result (List (List ℕ)) ℕ → Result X MosaicTextFail → Type 0
Reads view names (Ok read) = names ≡ Ok (view read)
Reads view names (Err (Invalid line)) = names ≡ Err line
Reads view names (Err OutOfMemory) = ⊤

-- ---- for private functions

-- the names before, and behind them that of a line where it is added
abbrev pub names_with : List (List ℕ) → List ℕ → Bool → List (List ℕ)
names_with before line added = if added then before ++ line ∷ [] else before
