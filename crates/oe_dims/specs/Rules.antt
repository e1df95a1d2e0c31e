-- The rules of a shape, each by what it says of the labels, and the order in which they are judged.
use Rattle.std.specs.Prelude.{◌≡◌, ℕ, ◌+◌, ◌<◌, ◌≤◌, true, ℤ, pos, neg_ℤ, ◌<ℤ◌, ◌≤ℤ◌, List, slice_get, Some, IfSome}
use Rattle.oe_dims.specs.Dimensions.{Dimensions, first_instant, last_instant, farthest_coordinate, number_labels, band_names, label_count, cell_count, most_labels, most_cells, has_fitting_epsg}
use Rattle.oe_dims.specs.Names.{is_name}
use Rattle.oe_dims.specs.declared.kind.Kind.{Kind}
use Rattle.oe_dims.specs.declared.kind.Kind.TheVariants.{Time, Bands, Y, X}
use Rattle.oe_dims.specs.declared.shape.ShapeFault.{ShapeFault}
use Rattle.oe_dims.specs.declared.shape.ShapeFault.TheVariants.{OrderWrong, OutOfRange, TooMany, EpsgWrong, TooManyCells}

-- each label is above every earlier one
abbrev pub IsRising : List ℤ → Type 0
IsRising labels =
    (i j : ℕ) (a b : ℤ) → i < j → slice_get labels i ≡ Some a → slice_get labels j ≡ Some b → a <ℤ b

-- each label is below every earlier one
abbrev pub IsFalling : List ℤ → Type 0
IsFalling labels =
    (i j : ℕ) (a b : ℤ) → i < j → slice_get labels i ≡ Some a → slice_get labels j ≡ Some b → b <ℤ a

-- no name stands at two indices
abbrev pub IsWithoutTwice : List (List ℕ) → Type 0
IsWithoutTwice names =
    (i j : ℕ) (name : List ℕ) → slice_get names i ≡ Some name → slice_get names j ≡ Some name → i ≡ j

-- each label lies from low to high, both included
abbrev pub IsBetween : ℤ → ℤ → List ℤ → Type 0
IsBetween low high labels = (i : ℕ) (a : ℤ) → slice_get labels i ≡ Some a → (low ≤ℤ a) × (a ≤ℤ high)

-- each name is valid
abbrev pub AreNames : List (List ℕ) → Type 0
AreNames names = (i : ℕ) (name : List ℕ) → slice_get names i ≡ Some name → is_name name ≡ true

-- the labels of a dimension stand in the order that it asks for
abbrev pub IsInOrder : Kind → List ℤ → Type 0
IsInOrder Time labels = IsRising labels
IsInOrder Bands labels = IsRising labels
IsInOrder Y labels = IsFalling labels
IsInOrder X labels = IsRising labels

-- the dimensions keep the rule whose breach the fault names
abbrev pub KeepsRule : Dimensions → ShapeFault → Type 0
KeepsRule d (OrderWrong Time) = IsInOrder Time (number_labels d Time)
KeepsRule d (OrderWrong Bands) = IsWithoutTwice (band_names d)
KeepsRule d (OrderWrong Y) = IsInOrder Y (number_labels d Y)
KeepsRule d (OrderWrong X) = IsInOrder X (number_labels d X)
KeepsRule d (OutOfRange Time) = IsBetween first_instant last_instant (number_labels d Time)
KeepsRule d (OutOfRange Bands) = AreNames (band_names d)
KeepsRule d (OutOfRange Y) = IsBetween (neg_ℤ (pos farthest_coordinate)) (pos farthest_coordinate) (number_labels d Y)
KeepsRule d (OutOfRange X) = IsBetween (neg_ℤ (pos farthest_coordinate)) (pos farthest_coordinate) (number_labels d X)
KeepsRule d (TooMany kind) = IfSome (label_count d kind) (λ n. n ≤ most_labels)
KeepsRule d EpsgWrong = has_fitting_epsg d ≡ true
KeepsRule d TooManyCells = cell_count d ≤ most_cells

-- where a dimension comes among the four, and a fault among all: by its rule, and then by its dimension
abbrev pub kind_rank : Kind → ℕ
kind_rank Time = 0
kind_rank Bands = 1
kind_rank Y = 2
kind_rank X = 3

abbrev pub fault_rank : ShapeFault → ℕ
fault_rank (OrderWrong kind) = kind_rank kind
fault_rank (OutOfRange kind) = 4 + kind_rank kind
fault_rank (TooMany kind) = 8 + kind_rank kind
fault_rank EpsgWrong = 12
fault_rank TooManyCells = 13

-- the fault stands, and no earlier one does
pub record IsFirstFault (d : Dimensions) (fault : ShapeFault) : Type 0 where
  pub stands : ¬ KeepsRule d fault
  pub first : (other : ShapeFault) → fault_rank other < fault_rank fault → KeepsRule d other

-- no fault stands
abbrev pub KeepsEveryRule : Dimensions → Type 0
KeepsEveryRule d = (fault : ShapeFault) → KeepsRule d fault
