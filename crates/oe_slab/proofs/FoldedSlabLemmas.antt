-- The cells of a slab, as its evaluation leaves them, in the folds of its plane.
use Rattle.std.proofs.Common.{◌≡◌, ◌<◌, ◌+◌, ◌-◌, ◌*◌, ◌++◌, ◌∙◌, ℕ, Bool, List, length, get_or, sym, ap, subst, arith}
use Rattle.std.specs.List.{All}
use Rattle.std.proofs.lemmas.List.{length-append, length-take-le}
use Rattle.std.proofs.lemmas.List.Elements.{All-append}
use Rattle.std.proofs.lemmas.List.FromFn.{get_or-map-range_with_len, length-map-range_with_len}
use Rattle.oe_cell.specs.declared.cell.Cell.{Cell}
use Rattle.oe_cell.specs.declared.cell.Cell.TheVariants.{Empty}
use Rattle.oe_cube.specs.Kinds.{IsOfKind}
use Rattle.oe_dims.specs.declared.kind.CellKind.{CellKind}
use Rattle.oe_fold.specs.Columns.{column}
use Rattle.oe_fold.specs.declared.pass.Pass.{Pass}
use Rattle.oe_fold.specs.declared.reducer.Reducer.{Reducer}
use Rattle.oe_plan.specs.Schedules.{AreWindowsFor, IsSchedule, ScheduleOf, node_at}
use Rattle.oe_plan.specs.Windows.{window_at}
use Rattle.oe_check.specs.Checked.{CheckedGraph, outline_of_node}
use Rattle.oe_meanings.specs.Graphs.{Collections}
use Rattle.oe_check.specs.Laws.{meaning_of_node}
use Rattle.oe_steps.specs.Steps.{AreCells, AreOfKind, HaveRoomFor, OfLast, buffer_cells_at}
use Rattle.oe_window.specs.Cells.{cells_on}
use Rattle.oe_window.specs.Windows.{position_count, span_length}
use Rattle.oe_window.specs.declared.window.Window.{Window}
use Rattle.oe_slab.specs.Figures.{taken_by}
use Rattle.oe_slab.specs.Folds.{HaveSeen, HaveSeenKind}
use Rattle.oe_slab.specs.Slabs.{IsPlane, cube_taken, kind_taken, slab_window}
use Rattle.oe_slab.proofs.StepLemmas.{one_more}

-- a slab has the positions of its plane once for each date
pub slab_count : (plane : Window) (from to : ℕ) → IsPlane plane → position_count (slab_window plane from to) ≡ (to - from) * position_count plane
slab_count plane from to one =
    by (span_length plane.t) (to - from) (span_length plane.bands) (span_length plane.y) (span_length plane.x) one
  where
    by : (t dates b y x : ℕ) → t ≡ 1 → dates * b * y * x ≡ dates * (t * b * y * x)
    by t dates b y x e = rw e (omega arith)

-- the front of a slot has a cell for each position of the step's window
pub cells_long : (c : CheckedGraph) (schedule : ScheduleOf) (is : IsSchedule c schedule) (windows : List Window) (buffers : List (List Cell)) (step : ℕ)
    → AreWindowsFor c schedule windows → HaveRoomFor schedule buffers → step < length schedule.order.steps
    → length (buffer_cells_at schedule windows buffers step) ≡ position_count (window_at windows step)
cells_long c schedule is windows buffers step are room below =
    let few = are.few step below in
    let slot = is.slotted.below step below in
    let size = room.each (get_or schedule.order.slots step 0) slot in
    length-take-le (position_count (window_at windows step)) _ (omega (arith, few, size))

-- ---- the kinds of the cells that were seen

column_long : (cells : List Cell) (plane dates k : ℕ) → length (column cells plane dates k) ≡ dates
column_long cells plane dates k = length-map-range_with_len (λ t. get_or cells (t * plane + k) Empty) 0 dates

column_kinds : (kind : CellKind) (cells : List Cell) (plane dates k : ℕ) → length cells ≡ dates * plane → k < plane → All (IsOfKind kind) cells
    → All (IsOfKind kind) (column cells plane dates k)
column_kinds kind cells plane dates k long below all i d h =
    let counted = column_long cells plane dates k in
    let inside : i < dates = omega (arith, h, counted) in
    let ends = (one_more i dates plane inside).1 in
    let read = get_or-map-range_with_len (λ t. get_or cells (t * plane + k) Empty) 0 dates i i d inside (omega arith) in
    subst (IsOfKind kind) (sym read) (all (i * plane + k) Empty (omega (arith, ends, below, long)))

-- folds that saw cells of a kind, and then those of a slab of the kind, saw cells of it
pub kinds_more : (kind : CellKind) (folds new : List Pass) (reducer : Reducer) (ignores_nulls : Bool) (cells : List Cell) (count plane dates to : ℕ)
    → length folds ≡ plane → length new ≡ plane → length cells ≡ dates * plane → to ≡ count + dates → All (IsOfKind kind) cells
    → ((seen : ℕ → List Cell) → HaveSeen folds reducer ignores_nulls seen → HaveSeen new reducer ignores_nulls (λ k. seen k ++ column cells (length folds) dates k))
    → HaveSeenKind kind count folds reducer ignores_nulls → HaveSeenKind kind to new reducer ignores_nulls
kinds_more kind folds new reducer ignores_nulls cells count plane dates to long new_long cells_long' to_is all step was = record {
  cells = λ k. was.cells k ++ column cells (length folds) dates k;
  seen = step was.cells was.seen;
  kinds = λ k below.
      let inside : k < plane = omega (arith, below, new_long) in
      All-append (IsOfKind kind) (was.cells k) (column cells (length folds) dates k) (was.kinds k (omega (arith, inside, long)))
      (subst (λ n. All (IsOfKind kind) (column cells n dates k)) (sym long) (column_kinds kind cells plane dates k cells_long' inside all));
  as_many = λ k below.
      let inside : k < length folds = omega (arith, below, new_long, long) in
      length-append (was.cells k) (column cells (length folds) dates k)
      ∙ omega (arith, was.as_many k inside, column_long cells (length folds) dates k, to_is);
}

-- ---- what the evaluation of a slab leaves

module _ (c : CheckedGraph) (fold : ℕ) (before : ScheduleOf) (windows : List Window) (buffers : List (List Cell)) (last : ℕ)
    (last_is : before.last ≡ taken_by c fold) (below : last < length before.order.steps) (stands : node_at before last ≡ before.last)
    (cells : List Cell) (cells_are : cells ≡ buffer_cells_at before windows buffers last) where
  -- the cells of the cube that is folded
  pub slab_cells : (collections : Collections) (slab : Window) → OfLast before (λ step. window_at windows step ≡ slab)
      → OfLast before (AreCells collections c before windows buffers) → cells ≡ cells_on Empty (cube_taken collections c fold) slab
  slab_cells collections slab on values =
      cells_are
      ∙ (values last below stands
      ∙ (ap (λ (n : ℕ). cells_on Empty (meaning_of_node collections c n).cube (window_at windows last)) (stands ∙ last_is)
      ∙ ap (λ (w : Window). cells_on Empty (cube_taken collections c fold) w) (on last below stands)))

  pub slab_kinds : OfLast before (AreOfKind c before windows buffers) → All (IsOfKind (kind_taken c fold)) cells
  slab_kinds kinds =
      subst (All (IsOfKind (kind_taken c fold))) (sym cells_are)
      (subst (λ (n : ℕ). All (IsOfKind (outline_of_node c n).kind) (buffer_cells_at before windows buffers last)) (stands ∙ last_is)
      (kinds last below stands))

  -- as many as the plane has for all dates of the slab
  pub slab_long : IsSchedule c before → AreWindowsFor c before windows → HaveRoomFor before buffers → (plane : Window) (from to : ℕ) → IsPlane plane
      → OfLast before (λ step. window_at windows step ≡ slab_window plane from to) → length cells ≡ (to - from) * position_count plane
  slab_long is are room plane from to one on =
      ap length cells_are
      ∙ (cells_long c before is windows buffers last are room below
      ∙ (ap position_count (on last below stands) ∙ slab_count plane from to one))
