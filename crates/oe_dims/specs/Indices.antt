-- Where a label stands along a dimension, and which labels an extent takes in.
use Rattle.std.specs.Prelude.{◌≡◌, ◌↔◌, ℕ, ◌+◌, ◌<◌, ◌≤◌, ◌&&◌, Bool, true, cond, ℤ, int_le, int_lt, List, [], ◌∷◌, length, count_by, slice_get, Option, Some, None}
use Rattle.std.specs.List.{Contains}
use Rattle.std.specs.Option.{option_map}
use Rattle.oe_dims.specs.declared.kind.Kind.{Kind}
use Rattle.oe_dims.specs.declared.kind.Kind.TheVariants.{Time, Bands, Y, X}

-- the same whole number
abbrev pub same_number : ℤ → ℤ → Bool
same_number a b = int_le a b && int_le b a

-- the index of the first label that passes the test
abbrev pub index_where : {L : Type 0} → (L → Bool) → List L → Option ℕ
index_where test [] = None
index_where test (label ∷ labels) = cond (test label) (Some 0) (option_map (λ n. n + 1) (index_where test labels))

-- The index of a label: the label stands there and nowhere else, and there is none exactly where it is no label.
pub record IsIndexOf {L : Type 0} (labels : List L) (label : L) (found : Option ℕ) : Type 0 where
  pub there : (index : ℕ) → (found ≡ Some index) ↔ (slice_get labels index ≡ Some label)
  pub absent : (found ≡ None) ↔ ¬ Contains labels label

-- a label lies in an extent, both ends inside
abbrev pub is_inside : ℤ → ℤ → ℤ → Bool
is_inside from to label = int_le from label && int_le label to

-- a label stands before an extent: above it along y, whose labels fall, and otherwise below it
abbrev pub is_before : Kind → ℤ → ℤ → ℤ → Bool
is_before Time from to label = int_lt label from
is_before Bands from to label = int_lt label from
is_before Y from to label = int_lt to label
is_before X from to label = int_lt label from

-- how many labels stand before an extent
abbrev pub count_before : Kind → ℤ → ℤ → List ℤ → ℕ
count_before kind from to labels = count_by (is_before kind from to) labels

-- an index from a first one to before an end
abbrev pub IsIndexIn : ℕ → ℕ → ℕ → Type 0
IsIndexIn first end index = (first ≤ index) × (index < end)

-- the indices from a first one to before an end are those whose labels lie in the extent
pub record IsIndexRange (from to : ℤ) (labels : List ℤ) (first end : ℕ) : Type 0 where
  pub in_order : first ≤ end
  pub within : end ≤ length labels
  pub inside : (index : ℕ) (label : ℤ) → slice_get labels index ≡ Some label
      → (is_inside from to label ≡ true) ↔ IsIndexIn first end index
