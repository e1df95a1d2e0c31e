-- A plane of a run that is folded slab by slab: what it is folded in, and what its folds saw.
use Rattle.std.specs.Prelude.{◌≡◌, ◌≤◌, ◌-◌, ℕ, None, Bool, List, length, take}
use Rattle.oe_cell.specs.declared.cell.Cell.{Cell}
use Rattle.oe_fold.specs.declared.pass.Pass.{Pass}
use Rattle.oe_fold.specs.declared.reducer.Reducer.{Reducer}
use Rattle.oe_plan.specs.Figures.{scratch_of}
use Rattle.oe_plan.specs.Schedules.{AreWindowsFor, IsSchedule, ScheduleOf}
use Rattle.oe_plan.specs.Windows.{AreWindows, window_at}
use Rattle.oe_check.specs.Checked.{CheckedGraph}
use Rattle.oe_check.specs.Laws.{AreCollectionsOf}
use Rattle.oe_meanings.specs.Graphs.{Collections}
use Rattle.oe_sources.specs.Catalogue.{Row}
use Rattle.oe_steps.specs.Collections.{HasCollections, Shows}
use Rattle.oe_steps.specs.Steps.{AreCells, AreOfKind, HaveRoomFor, OfLast}
use Rattle.oe_window.specs.Windows.{position_count}
use Rattle.oe_window.specs.declared.window.Window.{Window}
use Rattle.oe_slab.specs.Folds.{HaveRoom}
use Rattle.oe_slab.specs.Plans.{SlabPlanOf}
use Rattle.oe_slab.specs.Schedules.{IsPlaneOf}
use Rattle.oe_slab.specs.Slabs.{HaveFolded, HaveFoldedAll, HaveFoldedKind, IsPlane, cube_taken}

-- ---- windows and room

-- among the windows of the whole run for a chunk the one of the cut is this plane, or has no position
pub record HasPlane (p : SlabPlanOf) (chunk : Window) (windows : List Window) (plane : Window) : Type 0 where
  pub windows_are : AreWindows p.graph p.size chunk windows
  pub plane_is : IsPlaneOf p.graph p.fold windows plane

-- the part before the cut has a window for each of its steps, room for their cells, and cells to work with
pub record HasRoomBefore (p : SlabPlanOf) (windows : List Window) (buffers : List (List Cell)) (scratch : List Cell)
    : Type 0 where
  pub windows_many : length windows ≡ length p.before.order.steps
  pub room : HaveRoomFor p.before buffers
  pub scratch_many : length scratch ≡ scratch_of p.graph

-- ---- a part that loads all that it works on

-- a schedule of which no cube is given may be carried out on windows: its collections are mounted, and there is room
pub record IsReadyPart (c : CheckedGraph) (schedule : ScheduleOf) (rows : List Row) (windows : List Window)
    (buffers : List (List Cell)) : Type 0 where
  pub scheduled : IsSchedule c schedule
  pub none_given : schedule.given ≡ None
  pub mounted : HasCollections c rows
  pub windows_serve : AreWindowsFor c schedule windows
  pub room : HaveRoomFor schedule buffers

-- its last step was evaluated on a window, whose cells are the front of its slot, each of the kind of its node
pub record IsEvaluatedOn (c : CheckedGraph) (schedule : ScheduleOf) (windows : List Window)
    (buffers : List (List Cell)) (window : Window) : Type 0 where
  pub windows_serve : AreWindowsFor c schedule windows
  pub window_is : OfLast schedule (λ step. window_at windows step ≡ window)
  pub room : HaveRoomFor schedule buffers
  pub kinds : OfLast schedule (AreOfKind c schedule windows buffers)

-- ---- folds

-- something holds over any collections of a graph that are visible
abbrev pub ForEachVisible : CheckedGraph → List Row → (Collections → Type 0) → Type 0
ForEachVisible c rows P = (collections : Collections) → AreCollectionsOf c collections → Shows c rows collections
    → P collections

-- the first folds, one for each position of a plane
abbrev pub plane_folds : Window → List Pass → List Pass
plane_folds plane folds = take (position_count plane) folds

-- one fold for each position of a plane, with room for the cells of the dates from one to before another
pub record HaveRoomForDates (plane : Window) (from to : ℕ) (folds : List Pass) : Type 0 where
  pub plane_is : IsPlane plane
  pub upto : from ≤ to
  pub counted : length folds ≡ position_count plane
  pub room : HaveRoom folds (to - from)

-- over any collections, where the cells of the last step before the cut are those of its cube, folds of a plane that saw
-- the dates of the cube up to one have seen those up to another
abbrev pub AddDates : SlabPlanOf → List Window → List (List Cell) → Window → ℕ → ℕ → List Pass → List Pass → Type 0
AddDates p windows buffers plane from to folds after =
    (collections : Collections) (reducer : Reducer) (ignores_nulls : Bool)
    → OfLast p.before (AreCells collections p.graph p.before windows buffers)
    → HaveFolded folds reducer ignores_nulls (cube_taken collections p.graph p.fold) plane from
    → HaveFolded after reducer ignores_nulls (cube_taken collections p.graph p.fold) plane to

-- the folds of a plane saw the cells of the cube that is folded, at all dates, over any collections that are visible;
-- whatever collections hold, they saw some cells of its kind
pub record AreFolded (p : SlabPlanOf) (rows : List Row) (plane : Window) (folds : List Pass) : Type 0 where
  pub seen : ForEachVisible p.graph rows (λ collections. HaveFoldedAll collections p.graph p.fold plane folds)
  pub kind : HaveFoldedKind p.graph p.fold folds

-- something holds over any collections whose cube the folds of a plane saw at all dates
abbrev pub ForEachFolded : SlabPlanOf → Window → List Pass → (Collections → Type 0) → Type 0
ForEachFolded p plane folds P = (collections : Collections) → AreCollectionsOf p.graph collections
    → HaveFoldedAll collections p.graph p.fold plane folds → P collections
