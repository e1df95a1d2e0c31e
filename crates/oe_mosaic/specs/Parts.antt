-- Which collections may be the parts of one mosaic.
use Rattle.std.specs.Prelude.{◌≡◌, ℕ, ◌≤◌, ◌==◌, ◌&&◌, not, nat_le, Bool, true, false, List, [], ◌∷◌, ◌++◌, length, take, drop, suc, Option, Some, None, is_some, if◌then◌else◌, IfSome}
use Rattle.std.specs.List.{Contains, list_all}
use Rattle.oe_cube.specs.Collections.{IsCollection}
use Rattle.oe_dims.specs.Dimensions.{Dimensions, IsShape, label_count}
use Rattle.oe_dims.specs.declared.kind.CellKind.{CellKind}
use Rattle.oe_dims.specs.declared.kind.CellKind.TheVariants.{Numbers, Flags}
use Rattle.oe_dims.specs.declared.kind.Kind.TheVariants.{Time, Bands, Y, X}
use Rattle.oe_mosaic.specs.Mosaics.{Part}
use Rattle.oe_sources.specs.Source.{collection_with}

-- the most parts
abbrev pub most_parts : ℕ
most_parts = 16

abbrev pub same_kind : CellKind → CellKind → Bool
same_kind Numbers Numbers = true
same_kind Flags Flags = true
same_kind _ _ = false

-- both are there, or neither
abbrev pub same_presence : Option ℕ → Option ℕ → Bool
same_presence (Some l) (Some m) = true
same_presence None None = true
same_presence _ _ = false

-- the same dimensions, whatever their labels, and the same reference system
abbrev pub same_dimensions : Dimensions → Dimensions → Bool
same_dimensions a b =
    (a.epsg == b.epsg) && same_presence (label_count a Time) (label_count b Time)
    && same_presence (label_count a Bands) (label_count b Bands) && same_presence (label_count a Y) (label_count b Y)
    && same_presence (label_count a X) (label_count b X)

-- two parts may stand in one mosaic
abbrev pub is_alike : Part → Part → Bool
is_alike a b = same_kind a.kind b.kind && same_dimensions a.shape b.shape

-- the kind of a part is that of the first, and its dimensions and reference system are; where there is none it fits
abbrev pub fits_kind : List Part → Part → Bool
fits_kind [] part = true
fits_kind (first ∷ parts) part = same_kind first.kind part.kind

abbrev pub fits_dimensions : List Part → Part → Bool
fits_dimensions [] part = true
fits_dimensions (first ∷ parts) part = same_dimensions first.shape part.shape

-- why a part is refused behind others
pub data PartRefusal : Type 0 where
  kind_differs : PartRefusal
  dimensions_differ : PartRefusal
  is_full : PartRefusal

-- the first reason that stands, in this order; none where there is no reason
abbrev pub part_refusal : List Part → Part → Option PartRefusal
part_refusal parts part =
    if not (fits_kind parts part) then Some kind_differs
    else (if not (fits_dimensions parts part) then Some dimensions_differ
    else (if nat_le most_parts (length parts) then Some is_full
    else None))

-- a part may stand in the place of another: the place is there, and it is alike to all parts that stay
abbrev pub may_replace : List Part → ℕ → Part → Bool
may_replace parts place part =
    not (nat_le (length parts) place) && list_all (is_alike part) (take place parts)
    && list_all (is_alike part) (drop (suc place) parts)

-- a list with another element at a place, and without the element there; the others close up
abbrev pub put_at : {S : Type 0} → ℕ → S → List S → List S
put_at place part items = take place items ++ part ∷ drop (suc place) items

abbrev pub without : {S : Type 0} → ℕ → List S → List S
without place items = take place items ++ drop (suc place) items

-- what each part keeps: its shape is valid, and its contents, where they are visible, are those of a collection
pub record IsSound (part : Part) : Type 0 where
  pub valid : IsShape part.shape
  pub collection : IfSome part.contents (λ c. IsCollection (collection_with part.shape part.kind c))

-- two parts have one kind, the same dimensions and one reference system
pub record IsAlike (a b : Part) : Type 0 where
  pub kind : a.kind ≡ b.kind
  pub epsg : a.shape.epsg ≡ b.shape.epsg
  pub t : is_some a.shape.t ≡ is_some b.shape.t
  pub bands : is_some a.shape.bands ≡ is_some b.shape.bands
  pub y : is_some a.shape.y ≡ is_some b.shape.y
  pub x : is_some a.shape.x ≡ is_some b.shape.x

-- what the parts of a mosaic keep
pub record ArePartsOfOne (parts : List Part) : Type 0 where
  pub few : length parts ≤ most_parts
  pub alike : (a b : Part) → Contains parts a → Contains parts b → IsAlike a b
  pub sound : (part : Part) → Contains parts part → IsSound part
