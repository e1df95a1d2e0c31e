-- A plane, which is a window with one index along t, and its slabs: the windows at its other indices and some dates.
use Rattle.std.specs.Prelude.{◌≡◌, ◌<◌, ℕ, Bool, List, Some, length, map, slice_index_or}
use Rattle.std.specs.List.{All, range_with_len}
use Rattle.oe_cell.specs.declared.cell.Cell.{Cell}
use Rattle.oe_cell.specs.declared.cell.Cell.TheVariants.{Empty}
use Rattle.oe_cube.specs.Kinds.{IsOfKind}
use Rattle.oe_dims.specs.Cube.{Cube}
use Rattle.oe_dims.specs.Positions.{Position}
use Rattle.oe_dims.specs.Dimensions.{number_labels}
use Rattle.oe_dims.specs.declared.kind.CellKind.{CellKind}
use Rattle.oe_dims.specs.declared.kind.Kind.TheVariants.{Time}
use Rattle.oe_fold.specs.declared.pass.Pass.{Pass}
use Rattle.oe_fold.specs.declared.reducer.Reducer.{Reducer}
use Rattle.oe_plan.specs.Figures.{shape_of_node}
use Rattle.oe_check.specs.Checked.{CheckedGraph, outline_of_node}
use Rattle.oe_meanings.specs.Graphs.{Collections}
use Rattle.oe_check.specs.Laws.{meaning_of_node}
use Rattle.oe_check.specs.Reach.{time_fold_of_node}
use Rattle.oe_window.specs.Cells.{cell_at}
use Rattle.oe_window.specs.Windows.{positions, span_length}
use Rattle.oe_window.specs.declared.window.Window.{Window}
use Rattle.oe_slab.specs.Figures.{taken_by}
use Rattle.oe_slab.specs.Folds.{HaveRoom, HaveSeen}

abbrev pub IsPlane : Window → Type 0
IsPlane window = span_length window.t ≡ 1

-- the slab of a plane at the dates from one to before another
abbrev pub slab_window : Window → ℕ → ℕ → Window
slab_window plane from to = record plane { t = record { from = from; to = to } }

-- the position of a number in a window, in row-major order
abbrev pub numbered_position : Window → ℕ → Position
numbered_position window k = slice_index_or (positions window) k (record { t = 0; band = 0; y = 0; x = 0 })

-- the cells of a cube at the first so many dates, for the position of a number in a plane
abbrev pub cells_by_date : Cube Cell → Window → ℕ → ℕ → List Cell
cells_by_date cube plane dates k =
    map (λ t. cell_at Empty cube (record (numbered_position plane k) { t = t })) (range_with_len 0 dates)

-- how many dates the cube has that a node folds
abbrev pub dates_of_fold : CheckedGraph → ℕ → ℕ
dates_of_fold c fold = length (number_labels (shape_of_node c (taken_by c fold)) Time)

-- the cube that a node folds, over collections
abbrev pub cube_taken : Collections → CheckedGraph → ℕ → Cube Cell
cube_taken collections c fold = (meaning_of_node collections c (taken_by c fold)).cube

-- and the kind of its cells
abbrev pub kind_taken : CheckedGraph → ℕ → CellKind
kind_taken c fold = (outline_of_node c (taken_by c fold)).kind

-- the folds of a plane saw the cells of the cube at the first so many dates
abbrev pub HaveFolded : List Pass → Reducer → Bool → Cube Cell → Window → ℕ → Type 0
HaveFolded folds reducer ignores_nulls cube plane dates =
    HaveSeen folds reducer ignores_nulls (cells_by_date cube plane dates)

-- over collections, they saw those of the cube that a node folds at all dates, by the reducer of the node
abbrev pub HaveFoldedAll : Collections → CheckedGraph → ℕ → Window → List Pass → Type 0
HaveFoldedAll collections c fold plane folds = (reducer : Reducer) (ignores_nulls : Bool)
    → time_fold_of_node c fold ≡ Some (reducer, ignores_nulls) → HaveFolded folds reducer ignores_nulls
    (cube_taken collections c fold) plane (dates_of_fold c fold)

-- whatever collections hold, they saw some cells of the kind of that cube
pub record HaveFoldedKind (c : CheckedGraph) (fold : ℕ) (folds : List Pass) : Type 0 where
  pub reducer : Reducer
  pub ignores_nulls : Bool
  pub by : time_fold_of_node c fold ≡ Some (reducer, ignores_nulls)
  pub cells : ℕ → List Cell
  pub seen : HaveSeen folds reducer ignores_nulls cells
  pub kinds : (k : ℕ) → k < length folds → All (IsOfKind (kind_taken c fold)) (cells k)
  pub as_many : (k : ℕ) → k < length folds → length (cells k) ≡ dates_of_fold c fold
  -- and their values may be read
  pub room : HaveRoom folds 0
