-- A datacube: a shape, and one cell for each tuple of labels (openEO glossary, datacube).
use Rattle.std.specs.Prelude.{◌≡◌, ℕ, ◌+◌, ◌*◌, Bool, ℤ, List, [], ◌∷◌, length, map, slice_get, Option, Some, None, unwrap_or, ⊤}
use Rattle.std.specs.List.{flat_map, Contains}
use Rattle.std.specs.Option.{option_and_then, option_map}
use Rattle.oe_dims.specs.Dimensions.{Dimensions, extent}
use Rattle.oe_dims.specs.Names.{same_name}
use Rattle.oe_dims.specs.Indices.{same_number, index_where}

-- one label for each dimension that a cube has, and none for one that it lacks
pub record Tuple : Type 0 where
  pub t : Option ℤ
  pub band : Option (List ℕ)
  pub y : Option ℤ
  pub x : Option ℤ

-- the label is one of the dimension's, and there is none exactly where the dimension is missing
abbrev pub IsLabelOf : {L : Type 0} → Option (List L) → Option L → Type 0
IsLabelOf None None = ⊤
IsLabelOf None (Some label) = ⊥
IsLabelOf (Some labels) None = ⊥
IsLabelOf (Some labels) (Some label) = Contains labels label

-- each label of the tuple is one of its dimension's
pub record IsTuple (d : Dimensions) (tuple : Tuple) : Type 0 where
  pub t : IsLabelOf d.t tuple.t
  pub band : IsLabelOf d.bands tuple.band
  pub y : IsLabelOf d.y tuple.y
  pub x : IsLabelOf d.x tuple.x

-- a cube over any type of cell: its cells stand in the order of the tuples of its shape
pub record Cube (C : Type 0) : Type 0 where
  pub shape : Dimensions
  pub cells : List C

-- the choices of a label along one dimension: each label, or none where the dimension is missing
abbrev pub choices : {L : Type 0} → Option (List L) → List (Option L)
choices None = None ∷ []
choices (Some labels) = map Some labels

-- every tuple of labels, in row-major order: t, bands, y, x, the last running fastest
abbrev pub tuples : Dimensions → List Tuple
tuples d =
    flat_map (λ t. flat_map (λ band. flat_map (λ y. map (λ x. record { t = t; band = band; y = y; x = x })
    (choices d.x)) (choices d.y)) (choices d.bands)) (choices d.t)

-- the index of a label along a dimension: 0 where there is neither, none where only one is there
abbrev pub index_along : {L : Type 0} → (L → L → Bool) → Option (List L) → Option L → Option ℕ
index_along same None None = Some 0
index_along same (Some labels) (Some label) = index_where (same label) labels
index_along same _ _ = None

-- the row-major number of a tuple, found by its labels; none where the cube has no such tuple
abbrev pub row_major : Dimensions → Tuple → Option ℕ
row_major d tuple =
    option_and_then (λ t. option_and_then (λ b. option_and_then (λ y. option_map (λ x.
    ((t * extent d.bands + b) * extent d.y + y) * extent d.x + x)
    (index_along same_number d.x tuple.x)) (index_along same_number d.y tuple.y))
    (index_along same_name d.bands tuple.band)) (index_along same_number d.t tuple.t)

-- the cell of a tuple, found by its labels; none where the cube has no such tuple
abbrev pub at : {C : Type 0} → Cube C → Tuple → Option C
at cube tuple = option_and_then (slice_get cube.cells) (row_major cube.shape tuple)

-- the cube of a shape whose cell at each tuple is f of it
abbrev pub tabulate : {C : Type 0} → Dimensions → (Tuple → C) → Cube C
tabulate d f = record { shape = d; cells = map f (tuples d) }

-- there is one cell for each tuple
abbrev pub IsCube : {C : Type 0} → Cube C → Type 0
IsCube cube = length cube.cells ≡ length (tuples cube.shape)

-- the cell of a tuple, or another value where the cube has no such tuple
abbrev pub cell_or : {C : Type 0} → Cube C → C → Tuple → C
cell_or cube other tuple = unwrap_or (at cube tuple) other
