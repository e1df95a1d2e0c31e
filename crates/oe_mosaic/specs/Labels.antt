-- The labels of several cubes along one dimension.
use Rattle.std.specs.Prelude.{ℤ, Bool, int_lt, not, if◌then◌else◌, List, [], ◌∷◌, ◌++◌, filter, Option, Some, None, ℕ}
use Rattle.std.specs.List.{list_any}
use Rattle.oe_dims.specs.Names.{same_name}
use Rattle.oe_dims.specs.declared.kind.Kind.{Kind}
use Rattle.oe_dims.specs.declared.kind.Kind.TheVariants.{Time, Bands, Y, X}

-- a label stands before another: labels fall along y, and otherwise rise
abbrev pub stands_before : Kind → ℤ → ℤ → Bool
stands_before Time a b = int_lt a b
stands_before Bands a b = int_lt a b
stands_before Y a b = int_lt b a
stands_before X a b = int_lt a b

-- the labels of two lists, each of which is in the order of the dimension, in that order and each once
abbrev pub merge_labels : Kind → List ℤ → List ℤ → List ℤ
merge_labels kind [] two = two
merge_labels kind (a ∷ one) [] = a ∷ one
merge_labels kind (a ∷ one) (b ∷ two) =
    if stands_before kind a b then a ∷ merge_labels kind one (b ∷ two)
    else (if stands_before kind b a then b ∷ merge_labels kind (a ∷ one) two
    else a ∷ merge_labels kind one two)

-- the same where a cube may lack the dimension
abbrev pub join_labels : Kind → Option (List ℤ) → Option (List ℤ) → Option (List ℤ)
join_labels kind None two = two
join_labels kind (Some one) None = Some one
join_labels kind (Some one) (Some two) = Some (merge_labels kind one two)

-- the labels of t, y or x of each cube joined to those before
abbrev pub labels_with : Kind → Option (List ℤ) → List (Option (List ℤ)) → Option (List ℤ)
labels_with kind before [] = before
labels_with kind before (labels ∷ cubes) = labels_with kind (join_labels kind before labels) cubes

-- the names that are not among those before
abbrev pub new_names : List (List ℕ) → List (List ℕ) → List (List ℕ)
new_names before names = filter (λ name. not (list_any (same_name name) before)) names

-- the bands before, and behind them the new ones of a cube
abbrev pub join_bands : Option (List (List ℕ)) → Option (List (List ℕ)) → Option (List (List ℕ))
join_bands None names = names
join_bands (Some before) None = Some before
join_bands (Some before) (Some names) = Some (before ++ new_names before names)

-- the bands before, and behind them the new ones of each cube
abbrev pub bands_with : Option (List (List ℕ)) → List (Option (List (List ℕ))) → Option (List (List ℕ))
bands_with before [] = before
bands_with before (names ∷ cubes) = bands_with (join_bands before names) cubes
