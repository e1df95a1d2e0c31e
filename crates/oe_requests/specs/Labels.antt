-- The labels of results that come from several cubes or intervals, and the labels of a tuple in the dimensions of
-- another cube.
use Rattle.std.specs.Prelude.{ℕ, ◌+◌, ℤ, Bool, true, false, not, ◌==◌, ◌&&◌, int_lt, List, [], ◌∷◌, ◌++◌, filter, Option, Some, None, if◌then◌else◌}
use Rattle.std.specs.List.{list_any, list_all}
use Rattle.oe_dims.specs.Cube.{Tuple}
use Rattle.oe_dims.specs.Dimensions.{Dimensions}
use Rattle.oe_dims.specs.Indices.{same_number}
use Rattle.oe_dims.specs.Names.{same_name}
use Rattle.oe_dims.specs.declared.kind.Kind.{Kind}
use Rattle.oe_dims.specs.declared.kind.Kind.TheVariants.{Time, Bands, Y, X}

-- ---- order

-- a label stands before another along t and x, where labels rise
abbrev pub is_below : ℤ → ℤ → Bool
is_below a b = int_lt a b

-- the same along y, where labels fall
abbrev pub is_above : ℤ → ℤ → Bool
is_above a b = int_lt b a

-- a label among others that stand in order: before the first that it stands before
abbrev pub insert_label : (ℤ → ℤ → Bool) → ℤ → List ℤ → List ℤ
insert_label is_before label [] = label ∷ []
insert_label is_before label (other ∷ labels) =
    if is_before label other then label ∷ other ∷ labels else other ∷ insert_label is_before label labels

-- the labels in their order
abbrev pub sorted_labels : (ℤ → ℤ → Bool) → List ℤ → List ℤ
sorted_labels is_before [] = []
sorted_labels is_before (label ∷ labels) = insert_label is_before label (sorted_labels is_before labels)

-- ---- all labels of two cubes

-- those of the others that are not among the labels
abbrev pub new_among : {L : Type 0} → (L → L → Bool) → List L → List L → List L
new_among same labels others = filter (λ label. not (list_any (same label) labels)) others

-- along t, y or x, in the order of the dimension (rule of this profile)
abbrev pub all_in_order : (ℤ → ℤ → Bool) → Option (List ℤ) → Option (List ℤ) → Option (List ℤ)
all_in_order is_before None two = two
all_in_order is_before (Some one) None = Some one
all_in_order is_before (Some one) (Some two) = Some (sorted_labels is_before (one ++ new_among same_number one two))

-- bands: those of the first cube, and then the new ones of the second
abbrev pub all_bands : Option (List (List ℕ)) → Option (List (List ℕ)) → Option (List (List ℕ))
all_bands None two = two
all_bands (Some one) None = Some one
all_bands (Some one) (Some two) = Some (one ++ new_among same_name one two)

-- the reference system is that of the cube that has one
abbrev pub either_epsg : ℕ → ℕ → ℕ
either_epsg one two = if one == 0 then two else one

abbrev pub shape_of_merge : Dimensions → Dimensions → Dimensions
shape_of_merge one two = record {
  epsg = either_epsg one.epsg two.epsg;
  t = all_in_order is_below one.t two.t;
  bands = all_bands one.bands two.bands;
  y = all_in_order is_above one.y two.y;
  x = all_in_order is_below one.x two.x;
}

-- ---- labels that differ

-- no label occurs twice
abbrev pub are_distinct : {L : Type 0} → (L → L → Bool) → List L → Bool
are_distinct same [] = true
are_distinct same (label ∷ labels) = not (list_any (same label) labels) && are_distinct same labels

-- ---- label sets

-- each of the labels is among the others
abbrev pub are_among : {L : Type 0} → (L → L → Bool) → List L → List L → Bool
are_among same others labels = list_all (λ label. list_any (same label) others) labels

-- both have the dimension, and there is a label that only one of them has; the order does not count
abbrev pub differ_in : {L : Type 0} → (L → L → Bool) → Option (List L) → Option (List L) → Bool
differ_in same (Some one) (Some two) = not (are_among same two one && are_among same one two)
differ_in same _ _ = false

abbrev pub differ_along : Kind → Dimensions → Dimensions → Bool
differ_along Time one two = differ_in same_number one.t two.t
differ_along Bands one two = differ_in same_name one.bands two.bands
differ_along Y one two = differ_in same_number one.y two.y
differ_along X one two = differ_in same_number one.x two.x

abbrev pub one_if : Bool → ℕ
one_if b = if b then 1 else 0

-- along how many dimensions they differ, by a rule of this profile one at most where cubes are merged
abbrev pub differing : Dimensions → Dimensions → ℕ
differing one two =
    one_if (differ_along Time one two) + one_if (differ_along Bands one two) + one_if (differ_along Y one two)
    + one_if (differ_along X one two)

-- ---- a tuple in another cube

-- a label in a dimension that is there
abbrev pub only_along : {L : Type 0} → Option (List L) → Option L → Option L
only_along None label = None
only_along (Some labels) label = label

-- the labels of a tuple in the dimensions that another cube has: so a cube is repeated over those that it lacks
abbrev pub restrict : Dimensions → Tuple → Tuple
restrict d tuple = record {
  t = only_along d.t tuple.t;
  band = only_along d.bands tuple.band;
  y = only_along d.y tuple.y;
  x = only_along d.x tuple.x;
}
