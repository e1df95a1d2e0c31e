-- What holds of the labels of every mosaic.
use Rattle.std.specs.Prelude.{◌≡◌, ◌↔◌, ℕ, ℤ, Bool, List, ◌++◌, slice_get, is_some, IfSome}
use Rattle.std.specs.List.{Contains, list_any}
use Rattle.oe_dims.specs.Dimensions.{Dimensions, IsShape, band_names, label_count, number_labels}
use Rattle.oe_dims.specs.Rules.{KeepsRule}
use Rattle.oe_dims.specs.declared.kind.Kind.{Kind}
use Rattle.oe_dims.specs.declared.shape.ShapeFault.TheVariants.{OrderWrong}
use Rattle.oe_mosaic.specs.Mosaics.{Part, mosaic_shape}

-- one of the parts has the label along t, y or x
abbrev pub SomePartHasLabel : List Part → Kind → ℤ → Type 0
SomePartHasLabel parts kind label =
    (part : Part) × Contains parts part × Contains (number_labels part.shape kind) label

-- one of the parts has the band
abbrev pub SomePartHasBand : List Part → List ℕ → Type 0
SomePartHasBand parts name = (part : Part) × Contains parts part × Contains (band_names part.shape) name

-- one of the parts has the dimension
abbrev pub some_part_has : List Part → Kind → Bool
some_part_has parts kind = list_any (λ (part : Part). is_some (label_count part.shape kind)) parts

-- the names begin with these, in their order
abbrev pub BeginWith : List (List ℕ) → List (List ℕ) → Type 0
BeginWith front names = (others : List (List ℕ)) × (names ≡ front ++ others)

-- these dimensions have all labels of the parts
pub record HasAllLabels (parts : List Part) (d : Dimensions) : Type 0 where
  -- a dimension is there exactly where a part has it
  pub present : (kind : Kind) → is_some (label_count d kind) ≡ some_part_has parts kind
  -- along t and x labels rise, along y they fall, and no band stands twice
  pub in_order : (kind : Kind) → KeepsRule d (OrderWrong kind)
  -- a label is there exactly where a part has it
  pub labels : (kind : Kind) (label : ℤ) → Contains (number_labels d kind) label ↔ SomePartHasLabel parts kind label
  pub bands : (name : List ℕ) → Contains (band_names d) name ↔ SomePartHasBand parts name
  -- the bands of the first part stand first
  pub first : IfSome (slice_get parts 0) (λ (part : Part). BeginWith (band_names part.shape) (band_names d))

-- a mosaic of parts whose shapes are valid has all their labels
abbrev pub MosaicsHaveAllLabels : Type 0
MosaicsHaveAllLabels =
    (parts : List Part) → ((part : Part) → Contains parts part → IsShape part.shape)
    → HasAllLabels parts (mosaic_shape parts)
