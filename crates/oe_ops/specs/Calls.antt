-- What the calls that evaluate an operation on a window ask for, and of which cubes they answer.
use Rattle.std.specs.Prelude.{◌≡◌, ◌∷◌, [], List, length}
use Rattle.oe_cell.specs.declared.cell.Cell.{Cell}
use Rattle.oe_dims.specs.Cube.{Cube, IsCube}
use Rattle.oe_dims.specs.Dimensions.{Dimensions, IsShape}
use Rattle.oe_dims.specs.Positions.{Position}
use Rattle.oe_expr.specs.Callback.{Callback, KeepsKind}
use Rattle.oe_requests.specs.Operations.{Operation, shape_of_aggregation, shape_of}
use Rattle.oe_requests.specs.declared.extent.Interval.{Interval}
use Rattle.oe_window.specs.Windows.{Holds, position_count, whole_window}
use Rattle.oe_window.specs.declared.window.Window.{Window}
use Rattle.oe_ops.specs.Lists.{TakesIntervals}
use Rattle.oe_ops.specs.Needs.{HoldsNeed, Needs}
use Rattle.oe_ops.specs.Nodes.{TakesInputs}
use Rattle.oe_ops.specs.Slices.{IsCounted, IsOn, TakesPairs}
use Rattle.oe_ops.specs.declared.merge.Input.{Input}
use Rattle.oe_ops.specs.declared.slice.Slice.{Slice}

-- ---- what they ask for

-- a slice of a cube of a valid shape serves a window: it lists one cell for each position of its own window, which has
-- each position that is needed for one of the window
pub record IsSliceFor (needs : Position → Position → Type 0) (window : Window) (shape : Dimensions) (slice : Slice)
    : Type 0 where
  pub valid : IsShape shape
  pub counted : IsCounted slice
  pub need : HoldsNeed needs window slice.window

-- the slice of an input does
abbrev pub IsInputFor : (Position → Position → Type 0) → Window → Input → Type 0
IsInputFor needs window input = IsSliceFor needs window input.shape.now input.slice

-- the slices of two inputs serve a window of what an operation makes of them
pub record AreInputsFor (o : Operation) (window : Window) (one two : Input) : Type 0 where
  pub first : IsInputFor (Needs o (one.shape.now ∷ two.shape.now ∷ []) 0) window one
  pub second : IsInputFor (Needs o (one.shape.now ∷ two.shape.now ∷ []) 1) window two

-- a window lies in a cube of a shape, and there is room for the cell of each of its positions
pub record HasRoomOn (shape : Dimensions) (window : Window) (out : List Cell) : Type 0 where
  pub within : Holds (whole_window shape) window
  pub counted : length out ≡ position_count window

-- an operation makes a cube of this shape, which is valid, of two inputs, whose cells its callback takes
pub record IsOperationOn (o : Operation) (shape : Dimensions) (one two : Input) : Type 0 where
  pub shape_valid : IsShape shape
  pub shape_is : shape ≡ shape_of o (one.shape.now ∷ two.shape.now ∷ [])
  pub takes : TakesInputs o one.shape.now one.slice.cells.now two.slice.cells.now

-- an aggregation over intervals makes a cube of this shape, which is valid, of one of another; its callback takes the
-- cells of a slice inside each interval, and gives cells of their kind
pub record IsAggregation (intervals : List Interval) (c : Callback) (shape argument : Dimensions) (slice : Slice)
    : Type 0 where
  pub shape_valid : IsShape shape
  pub aggregated : shape ≡ shape_of_aggregation intervals argument
  pub keeps : KeepsKind c
  pub takes : TakesIntervals c intervals argument slice.cells.now

-- a callback takes pairs of cells of two slices, and gives cells of their kind
pub record IsResolverOf (one two : Slice) (c : Callback) : Type 0 where
  pub keeps : KeepsKind c
  pub takes : TakesPairs c one.cells.now two.cells.now

-- ---- of which cubes they answer

-- it holds of each cube of a shape whose cells a slice lists
abbrev pub ForEachCube : Dimensions → Slice → (Cube Cell → Type 0) → Type 0
ForEachCube shape slice P =
    (cube : Cube Cell) → IsCube cube → cube.shape ≡ shape → IsOn cube slice → P cube

-- it holds of any two cubes of two shapes whose cells two slices list
abbrev pub ForEachTwo : Dimensions → Slice → Dimensions → Slice → (Cube Cell → Cube Cell → Type 0) → Type 0
ForEachTwo shape slice other other_slice P =
    (first second : Cube Cell) → IsCube first → first.shape ≡ shape → IsOn first slice
    → IsCube second → second.shape ≡ other → IsOn second other_slice → P first second

-- the same of two inputs
abbrev pub ForEachTwoInputs : Input → Input → (Cube Cell → Cube Cell → Type 0) → Type 0
ForEachTwoInputs one two P = ForEachTwo one.shape.now one.slice two.shape.now two.slice P
