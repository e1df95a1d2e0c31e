-- What contracts see of lists of labels, and the lines of bytes.
use Rattle.std.specs.Prelude.{◌≡◌, ℕ, ℤ, List, Option, Vec, ◌==◌, Bool}
use Rattle.std.specs.Option.{option_map}
use Rattle.std.specs.declared.alloc.Global.{Global}
use Rattle.std.specs.List.{slice_split}
use Rattle.oe_dims.specs.Dimensions.{Dimensions}
use Rattle.oe_dims.specs.declared.kind.Kind.{Kind}
use Rattle.oe_dims.specs.declared.kind.Kind.TheVariants.{Time, Bands, Y, X}
use Rattle.oe_dims.specs.declared.lists.Lists.{Lists}

-- the list that a vector holds
abbrev pub items_of : {A : Type 0} → Vec A Global → List A
items_of v = v.items

-- the dimensions with these labels
abbrev pub dimensions_with : ℕ → Option (Vec ℤ Global) → Option (Vec (List ℕ) Global)
    → Option (Vec ℤ Global) → Option (Vec ℤ Global) → Dimensions
dimensions_with epsg t bands y x = record {
  epsg = epsg;
  t = option_map items_of t;
  bands = option_map items_of bands;
  y = option_map items_of y;
  x = option_map items_of x;
}

-- the dimensions that the lists give
abbrev pub dimensions_of : Lists → Dimensions
dimensions_of s = record { epsg = s.epsg; t = s.t; bands = s.bands; y = s.y; x = s.x }

-- both have the dimension with the same labels in the same order, or both lack it
abbrev pub HaveSameLabels : Dimensions → Dimensions → Kind → Type 0
HaveSameLabels a b Time = a.t ≡ b.t
HaveSameLabels a b Bands = a.bands ≡ b.bands
HaveSameLabels a b Y = a.y ≡ b.y
HaveSameLabels a b X = a.x ≡ b.x

abbrev pub is_line_feed : ℕ → Bool
is_line_feed byte = byte == 10

-- what stands before, between and behind the line feeds of the bytes: the last of these is no line but what follows the
-- last one, and nothing may
abbrev pub lines_of : List ℕ → List (List ℕ)
lines_of bytes = slice_split is_line_feed bytes
