-- The lists of cells that a reduction works on, as the code has them.
use Rattle.std.specs.Prelude.{◌≡◌, ℕ, ℤ, ◌+◌, ◌*◌, ◌<◌, Bool, false, List, Option, find, length, map, slice_get, slice_index_or}
use Rattle.std.specs.List.{All, range_with_len}
use Rattle.std.specs.Option.{option_map_or}
use Rattle.oe_cell.specs.declared.cell.Cell.{Cell}
use Rattle.oe_cell.specs.declared.cell.Cell.TheVariants.{Empty}
use Rattle.oe_cube.specs.Kinds.{IsOfKind}
use Rattle.oe_dims.specs.Dimensions.{Dimensions}
use Rattle.oe_dims.specs.Indices.{same_number}
use Rattle.oe_dims.specs.Plain.{PlainLabels}
use Rattle.oe_dims.specs.Positions.{Position}
use Rattle.oe_dims.specs.declared.kind.CellKind.{CellKind}
use Rattle.oe_dims.specs.declared.kind.Kind.{Kind}
use Rattle.oe_dims.specs.declared.kind.Kind.TheVariants.{Time, Bands, Y, X}
use Rattle.oe_expr.specs.Callback.{Callback, callback_value, environment}
use Rattle.oe_expr.specs.Scope.{count_labels, labels_in, no_labels, reduce}
use Rattle.oe_expr.specs.declared.scope.ListPart.{ListPart}
use Rattle.oe_requests.specs.Operations.{interval_scope, reduction_scope}
use Rattle.oe_requests.specs.declared.extent.Interval.{Interval}
use Rattle.oe_window.specs.Windows.{IsIn, span_length}
use Rattle.oe_window.specs.declared.window.Window.{Window}
use Rattle.oe_ops.specs.Slices.{IsCounted, along_x, cell_of}
use Rattle.oe_ops.specs.declared.slice.Slice.{Slice}

-- the position with another index along a dimension
abbrev pub with_index : Kind → Position → ℕ → Position
with_index Time p index = record p { t = index }
with_index Bands p index = record p { band = index }
with_index Y p index = record p { y = index }
with_index X p index = record p { x = index }

-- how far apart neighbours along a dimension stand among the positions of a window
abbrev pub stride_along : Kind → Window → ℕ
stride_along Time window = span_length window.bands * span_length window.y * span_length window.x
stride_along Bands window = span_length window.y * span_length window.x
stride_along Y window = span_length window.x
stride_along X window = 1

-- the cells that a slice lists at so many indices along a dimension, from one on
abbrev pub list_from : Slice → Kind → ℕ → ℕ → Position → List Cell
list_from slice along from count p =
    map (λ i. cell_of slice (with_index along p (from + i))) (range_with_len 0 count)

-- the value of a callback on the list of a number
abbrev pub value_of_list : Callback → ℕ → List Cell → Cell
value_of_list c list cells = callback_value c (environment c Empty Empty cells list)

-- the first interval with a label
abbrev pub interval_labelled : List Interval → ℤ → Option Interval
interval_labelled intervals label = find (λ (i : Interval). same_number i.label label) intervals

-- there is an interval of the number, and it has the label
abbrev pub is_labelled_at : List Interval → ℕ → ℤ → Bool
is_labelled_at intervals number label =
    option_map_or (λ (i : Interval). same_number i.label label) (slice_get intervals number) false

-- the callback is one on lists, of which the one of a number has so many cells; all of these are of their kind
pub record TakesList (c : Callback) (list count : ℕ) (cells : List Cell) : Type 0 where
  pub kind : CellKind
  pub labels : PlainLabels
  pub lists : List ListPart
  pub scope_is : c.scope ≡ reduce kind labels lists
  pub list_is : list < length lists
  pub as_many : count_labels (slice_index_or (map (labels_in labels) lists) list no_labels) ≡ count
  pub of_kind : All (IsOfKind kind) cells

-- a slice holds its cells, of which so many, one at least, are the list of a number that the callback takes
pub record IsFullList (slice : Slice) (c : Callback) (list count : ℕ) : Type 0 where
  pub full : 0 < count
  pub counted : IsCounted slice
  pub takes : TakesList c list count slice.cells.now

-- the window of a slice has the list of each of so many positions along x, from one on
abbrev pub HasListsInside : Slice → Kind → ℕ → ℕ → Position → ℕ → Type 0
HasListsInside slice along from count p positions =
    (k i : ℕ) → k < positions → i < count → IsIn slice.window (with_index along (along_x p k) (from + i))

-- the callback is one on the lists of cells of a kind along a dimension of a cube, and all of these are of the kind
pub record TakesLists (c : Callback) (along : Kind) (d : Dimensions) (cells : List Cell) : Type 0 where
  pub kind : CellKind
  pub scope_is : c.scope ≡ reduction_scope along (record { shape = d; kind = kind })
  pub of_kind : All (IsOfKind kind) cells

-- the callback is one on the lists of cells of a kind inside each interval, and all of these are of the kind
pub record TakesIntervals (c : Callback) (intervals : List Interval) (d : Dimensions) (cells : List Cell) : Type 0 where
  pub kind : CellKind
  pub scope_is : c.scope ≡ interval_scope intervals (record { shape = d; kind = kind })
  pub of_kind : All (IsOfKind kind) cells
