-- Where the labels at a position of a result stand in an argument, which may lack dimensions of the result.
use Rattle.std.specs.Prelude.{◌≡◌, ◌<◌, ℕ, ◌+◌, ◌-◌, ◌≤◌, Bool, List, Option, Some, IfSome}
use Rattle.std.specs.Option.{option_and_then, option_map}
use Rattle.oe_cell.specs.declared.cell.Cell.{Cell}
use Rattle.oe_dims.specs.Cube.{index_along}
use Rattle.oe_dims.specs.Dimensions.{Dimensions, IsShape}
use Rattle.oe_dims.specs.Indices.{same_number}
use Rattle.oe_dims.specs.Names.{same_name}
use Rattle.oe_dims.specs.Positions.{IsPosition, Position, label_of}
use Rattle.oe_dims.specs.declared.kind.Kind.{Kind}
use Rattle.oe_dims.specs.declared.kind.Kind.TheVariants.{Time, Bands, Y, X}
use Rattle.oe_window.specs.Windows.{IsIn, extent_along}
use Rattle.oe_requests.specs.Labels.{only_along}
use Rattle.oe_ops.specs.Slices.{IsCounted, at_indices, cell_of}
use Rattle.oe_ops.specs.declared.slice.Slice.{Slice}
use Rattle.oe_ops.specs.declared.run.Run.{Run}
use Rattle.oe_ops.specs.declared.source.PlaneIndices.{PlaneIndices}
use Rattle.oe_ops.specs.declared.source.RowIndices.{RowIndices}

-- the index in the argument of the label at an index of the result: 0 where the argument lacks the dimension, and none
-- where it has no such label
abbrev pub index_under : {L : Type 0} → (L → L → Bool) → Option (List L) → Option (List L) → ℕ → Option ℕ
index_under same labels others index = index_along same others (only_along others (label_of labels index))

abbrev pub index_in_argument : Kind → Dimensions → Dimensions → ℕ → Option ℕ
index_in_argument Time shape argument index = index_under same_number shape.t argument.t index
index_in_argument Bands shape argument index = index_under same_name shape.bands argument.bands index
index_in_argument Y shape argument index = index_under same_number shape.y argument.y index
index_in_argument X shape argument index = index_under same_number shape.x argument.x index

-- the row in the argument of the labels along t, bands and y; none where it lacks one of them
abbrev pub row_in : Dimensions → Dimensions → Position → Option RowIndices
row_in shape argument p =
    option_and_then (λ t. option_and_then (λ band. option_map (λ y. record { t = t; band = band; y = y })
    (index_in_argument Y shape argument p.y)) (index_in_argument Bands shape argument p.band))
    (index_in_argument Time shape argument p.t)

-- the position at an index of a row
abbrev pub position_on : RowIndices → ℕ → Position
position_on row x = at_indices row.t row.band row.y x

-- the cell that a slice of the argument lists on a row, at the label at an index of the result along x
abbrev pub cell_on_row : Dimensions → Dimensions → Slice → RowIndices → ℕ → Option Cell
cell_on_row shape argument slice row x =
    option_map (λ i. cell_of slice (position_on row i)) (index_in_argument X shape argument x)

-- the position in the argument of the labels at a position of the result; none where the argument has no such tuple
abbrev pub position_in : Dimensions → Dimensions → Position → Option Position
position_in shape argument p =
    option_and_then (λ row. option_map (position_on row) (index_in_argument X shape argument p.x))
    (row_in shape argument p)

-- the cell that a slice of the argument lists there
abbrev pub found_in : Dimensions → Dimensions → Slice → Position → Option Cell
found_in shape argument slice p = option_map (cell_of slice) (position_in shape argument p)

-- the slice has the position in the argument, if there is one
abbrev pub IsHeld : Dimensions → Dimensions → Slice → Position → Type 0
IsHeld shape argument slice p = (q : Position) → position_in shape argument p ≡ Some q → IsIn slice.window q

-- ---- what is found once for many labels

-- a label of a run, if there is one, stands in the argument as far behind the first as in the result
abbrev pub IsOnRun : Kind → Dimensions → Dimensions → Run → ℕ → Type 0
IsOnRun along shape argument run index =
    IfSome run.first (λ first. (run.from ≤ index)
    × (index_in_argument along shape argument index ≡ Some (first + (index - run.from))))

-- what is found for a plane is right at the position
pub record AreIndicesAt (shape argument : Dimensions) (plane : PlaneIndices) (p : Position) : Type 0 where
  pub t : plane.t ≡ index_in_argument Time shape argument p.t
  pub band : plane.band ≡ index_in_argument Bands shape argument p.band
  pub y : IsOnRun Y shape argument plane.y p.y
  pub x : IsOnRun X shape argument plane.x p.x

-- whatever indices of t and bands a plane was found for, this is the row in the argument of the labels there and at an
-- index of y; none where it has no such row
abbrev pub IsRowOfPlane : Dimensions → Dimensions → PlaneIndices → ℕ → Option RowIndices → Type 0
IsRowOfPlane shape argument plane y row =
    (t band : ℕ) → plane.t ≡ index_in_argument Time shape argument t
    → plane.band ≡ index_in_argument Bands shape argument band
    → row ≡ row_in shape argument (at_indices t band y 0)

-- what is found for a plane is right at a position of the result, and the slice has what the argument has there
pub record IsFindable (shape argument : Dimensions) (slice : Slice) (plane : PlaneIndices) (p : Position) : Type 0 where
  pub inside : IsPosition shape p
  pub indices : AreIndicesAt shape argument plane p
  pub held : IsHeld shape argument slice p

-- so many labels of a row of the result, from an index on along x, are looked for on a row of the argument: the slice
-- has those that the argument has
pub record HasRow (shape argument : Dimensions) (slice : Slice) (row : RowIndices) (x count : ℕ) : Type 0 where
  pub valid : IsShape shape
  pub counted : IsCounted slice
  pub inside : x + count ≤ extent_along shape X
  pub held : (k i : ℕ) → k < count → index_in_argument X shape argument (x + k) ≡ Some i
      → IsIn slice.window (position_on row i)

-- there is one, and they are on a run
pub record HasRowOnRun (shape argument : Dimensions) (slice : Slice) (run : Run) (row : RowIndices) (x count : ℕ)
    : Type 0 where
  pub labels : HasRow shape argument slice row x count
  pub some : 0 < count
  pub on_run : (k : ℕ) → k < count → IsOnRun X shape argument run (x + k)
