-- The dimensions of a cube with their labels, and the rules that they keep.
use Rattle.std.specs.Prelude.{◌≡◌, ℕ, ◌*◌, ◌^◌, ◌&&◌, ◌||◌, ◌==◌, not, nat_le, if◌then◌else◌, Bool, true, ℤ, pos, neg_ℤ, int_lt, int_le, List, [], ◌∷◌, length, Option, Some, None, is_some, unwrap_or}
use Rattle.std.specs.List.{list_any, list_all}
use Rattle.std.specs.Option.{option_map, option_map_or}
use Rattle.oe_dims.specs.Names.{same_name, is_name}
use Rattle.oe_dims.specs.declared.kind.Kind.{Kind}
use Rattle.oe_dims.specs.declared.kind.Kind.TheVariants.{Time, Bands, Y, X}
use Rattle.oe_dims.specs.declared.shape.ShapeFault.{ShapeFault}
use Rattle.oe_dims.specs.declared.shape.ShapeFault.TheVariants.{OrderWrong, OutOfRange, TooMany, EpsgWrong, TooManyCells}

-- a reference system by its EPSG code, and for each dimension that the cube has its labels
pub record Dimensions : Type 0 where
  pub epsg : ℕ
  -- seconds since 1970-01-01T00:00:00Z
  pub t : Option (List ℤ)
  -- names, as their bytes
  pub bands : Option (List (List ℕ))
  -- whole numbers in the unit of the reference system
  pub y : Option (List ℤ)
  pub x : Option (List ℤ)

-- each label is above the one before
abbrev pub rises : List ℤ → Bool
rises [] = true
rises (a ∷ []) = true
rises (a ∷ b ∷ labels) = int_lt a b && rises (b ∷ labels)

-- each label is below the one before
abbrev pub falls : List ℤ → Bool
falls [] = true
falls (a ∷ []) = true
falls (a ∷ b ∷ labels) = int_lt b a && falls (b ∷ labels)

-- no name occurs twice
abbrev pub all_differ : List (List ℕ) → Bool
all_differ [] = true
all_differ (name ∷ names) = not (list_any (same_name name) names) && all_differ names

-- every label lies from low to high, both included
abbrev pub all_between : ℤ → ℤ → List ℤ → Bool
all_between low high labels = list_all (λ l. int_le low l && int_le l high) labels

-- the first and the last second of the years 1 to 9999
abbrev pub first_instant : ℤ
first_instant = neg_ℤ (pos 62135596800)

abbrev pub last_instant : ℤ
last_instant = pos 253402300799

-- how far a coordinate may be from 0
abbrev pub farthest_coordinate : ℕ
farthest_coordinate = 1000000000

-- a test of labels, which holds of a dimension that is missing
abbrev pub of_labels : {L : Type 0} → (L → Bool) → Option L → Bool
of_labels test labels = option_map_or test labels true

-- the labels stand in the order that the dimension asks for; names differ
abbrev pub is_ordered : Dimensions → Kind → Bool
is_ordered d Time = of_labels rises d.t
is_ordered d Bands = of_labels all_differ d.bands
is_ordered d Y = of_labels falls d.y
is_ordered d X = of_labels rises d.x

-- each label is one that the dimension may have
abbrev pub is_in_range : Dimensions → Kind → Bool
is_in_range d Time = of_labels (all_between first_instant last_instant) d.t
is_in_range d Bands = of_labels (list_all is_name) d.bands
is_in_range d Y = of_labels (all_between (neg_ℤ (pos farthest_coordinate)) (pos farthest_coordinate)) d.y
is_in_range d X = of_labels (all_between (neg_ℤ (pos farthest_coordinate)) (pos farthest_coordinate)) d.x

-- how many labels the dimension has, if the cube has it
abbrev pub label_count : Dimensions → Kind → Option ℕ
label_count d Time = option_map length d.t
label_count d Bands = option_map length d.bands
label_count d Y = option_map length d.y
label_count d X = option_map length d.x

-- the most labels of one dimension, and the most cells of a cube
abbrev pub most_labels : ℕ
most_labels = 65536

abbrev pub most_cells : ℕ
most_cells = 2 ^ 40

-- there are not too many labels
abbrev pub is_within_limit : Dimensions → Kind → Bool
is_within_limit d kind = option_map_or (λ n. nat_le n most_labels) (label_count d kind) true

-- a cube with y or x has an EPSG code from 1 to 999999, any other has 0
abbrev pub has_fitting_epsg : Dimensions → Bool
has_fitting_epsg d =
    if is_some d.y || is_some d.x then nat_le 1 d.epsg && nat_le d.epsg 999999 else d.epsg == 0

-- how many indices a dimension gives: one for each label, or 0 alone where it is missing
abbrev pub extent : {L : Type 0} → Option (List L) → ℕ
extent None = 1
extent (Some labels) = length labels

-- how many cells a cube of these dimensions has
abbrev pub cell_count : Dimensions → ℕ
cell_count d = extent d.t * extent d.bands * extent d.y * extent d.x

-- the first of these kinds whose labels fail the test, as a fault
abbrev pub first_failing : (Kind → Bool) → (Kind → ShapeFault) → List Kind → Option ShapeFault
first_failing test fault [] = None
first_failing test fault (kind ∷ kinds) = if test kind then first_failing test fault kinds else Some (fault kind)

abbrev pub all_kinds : List Kind
all_kinds = Time ∷ Bands ∷ Y ∷ X ∷ []

-- the first fault, or the next one's answer
abbrev pub or_else : Option ShapeFault → Option ShapeFault → Option ShapeFault
or_else None next = next
or_else (Some fault) next = Some fault

-- labels in the wrong order, or a band name that occurs twice
unfoldable pub order_fault : Dimensions → Option ShapeFault
order_fault d = first_failing (is_ordered d) OrderWrong all_kinds

-- a label that its dimension may not have
unfoldable pub range_fault : Dimensions → Option ShapeFault
range_fault d = first_failing (is_in_range d) OutOfRange all_kinds

-- too many labels of one dimension
unfoldable pub limit_fault : Dimensions → Option ShapeFault
limit_fault d = first_failing (is_within_limit d) TooMany all_kinds

-- a reference system that does not go with the dimensions
unfoldable pub epsg_fault : Dimensions → Option ShapeFault
epsg_fault d = if has_fitting_epsg d then None else Some EpsgWrong

-- too many cells
unfoldable pub cells_fault : Dimensions → Option ShapeFault
cells_fault d = if nat_le (cell_count d) most_cells then None else Some TooManyCells

-- the first rule that the dimensions break: order, range, number of labels, reference system, number of cells
unfoldable pub shape_fault : Dimensions → Option ShapeFault
shape_fault d =
    or_else (order_fault d) (or_else (range_fault d) (or_else (limit_fault d) (or_else (epsg_fault d) (cells_fault d))))

-- the dimensions break no rule
abbrev pub IsShape : Dimensions → Type 0
IsShape d = shape_fault d ≡ None

-- the labels of t, y or x, none where the cube lacks the dimension
abbrev pub number_labels : Dimensions → Kind → List ℤ
number_labels d Time = unwrap_or d.t []
number_labels d Bands = []
number_labels d Y = unwrap_or d.y []
number_labels d X = unwrap_or d.x []

-- the names of the bands, none where the cube lacks the dimension
abbrev pub band_names : Dimensions → List (List ℕ)
band_names d = unwrap_or d.bands []

-- the labels along t, y or x, where the cube has the dimension
abbrev pub numbers_along : Kind → Dimensions → Option (List ℤ)
numbers_along Time d = d.t
numbers_along Bands d = None
numbers_along Y d = d.y
numbers_along X d = d.x
