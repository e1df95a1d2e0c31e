-- The values of a callback on the cells of a cube, at the positions of a window.
use Rattle.std.proofs.Common.{◌≡◌, ℕ, ◌<◌, ◌≤◌, List, [], length, map, refl, sym, ap, ◌∙◌, subst}
use Rattle.std.specs.List.{slice_index_or}
use Rattle.oe_cell.specs.declared.cell.Cell.{Cell}
use Rattle.oe_cell.specs.declared.cell.Cell.TheVariants.{Empty}
use Rattle.oe_cube.specs.Kinds.{IsOfKind}
use Rattle.oe_dims.specs.Cube.{Cube, IsCube}
use Rattle.oe_dims.specs.Dimensions.{Dimensions, IsShape}
use Rattle.oe_dims.specs.Positions.{Position}
use Rattle.oe_window.specs.Cells.{cells_on}
use Rattle.oe_window.specs.Windows.{Holds, positions, whole_window}
use Rattle.oe_window.specs.declared.window.Window.{Window}
use Rattle.oe_window.proofs.CellLemmas.{cells_on-tabulate}
use Rattle.oe_expr.specs.Callback.{Callback, callback_kind, callback_value, environment, IsEnvironment, KeepsKind}
use Rattle.oe_expr.specs.EnvRows.{AreEnvironments, HasRowCells, environment_at, x_at, y_at, list_at}
use Rattle.oe_expr.specs.Scope.{PlainScope, IsEnvironmentOf, IsListNumber, list_labels, no_labels}
use Rattle.oe_expr.specs.declared.row.EnvRow.{EnvRow}
use Rattle.oe_meanings.specs.Meaning.{cell, applied, value_on_cells}
use Rattle.oe_ops.specs.Needs.{HasLabelsOf, HoldsNeed}
use Rattle.oe_ops.specs.Slices.{IsOn, TakesCell, TakesCells, cell_of}
use Rattle.oe_ops.specs.declared.slice.Slice.{Slice}
use Rattle.oe_ops.proofs.CoverLemmas.{own_cell}
use Rattle.oe_ops.proofs.KindLemmas.{fits_at}
use Rattle.oe_ops.proofs.ListLemmas.{map-agree}

-- cells that a callback takes are a row of environments
pub are_environments : (c : Callback) (row : EnvRow) (n : ℕ) → 0 < n → n ≤ length row.x.now → ((k : ℕ) → k < n → TakesCell c (x_at row k)) → AreEnvironments c row n
are_environments c row n some long takes =
    let first = takes 0 some in
    record {
      has_cells = subst (λ s. HasRowCells s row n) (sym first.scope_is) long;
      each = λ k lt.
          let taken = takes k lt in
          record {
            list_is = subst (λ s. IsListNumber s row.list) (sym taken.scope_is) tt;
            cells_fit = subst (λ s. IsEnvironmentOf s (record {
              x = x_at row k;
              y = y_at row k;
              context = c.context;
              cells = list_at row k;
              labels = slice_index_or (list_labels c.scope) row.list no_labels;
            })) (sym taken.scope_is) taken.of_kind;
          };
    }

nothing_at : (cells : List Cell) (k : ℕ) → cells ≡ [] → slice_index_or cells k Empty ≡ Empty
nothing_at cells k none = rw none refl

no_list : (s : PlainScope) (list : ℕ) → list_labels s ≡ [] → slice_index_or (list_labels s) list no_labels ≡ no_labels
no_list s list none = rw none refl

-- and their values are those on cells
pub value_at : (c : Callback) (row : EnvRow) (k : ℕ) → TakesCell c (x_at row k) → row.y.now ≡ [] → row.count ≡ 0 → callback_value c (environment_at c row k) ≡ value_on_cells c (x_at row k) Empty
value_at c row k takes none short =
    let y = nothing_at row.y.now k none in
    let labels = no_list c.scope row.list (ap list_labels takes.scope_is) in
    rw (y, short, labels) refl

-- each cell of a slice is taken where all are
pub taken_at : (c : Callback) (slice : Slice) (p : Position) → TakesCells c slice.cells.now → TakesCell c (cell_of slice p)
taken_at c slice p takes = record { kind = takes.kind; scope_is = takes.scope_is; of_kind = fits_at takes.kind slice.cells.now _ takes.of_kind }

-- the value is of the kind of the callback
value_fits : (c : Callback) (x : Cell) → KeepsKind c → TakesCell c x → IsOfKind (callback_kind c) (value_on_cells c x Empty)
value_fits c x keeps takes =
    let at_once : IsEnvironment c x Empty [] 0 = record {
      list_is = subst (λ s. IsListNumber s 0) (sym takes.scope_is) tt;
      cells_fit = subst (λ s. IsEnvironmentOf s (environment c x Empty [] 0)) (sym takes.scope_is) takes.of_kind;
    } in
    subst (λ labels. IsOfKind (callback_kind c) (callback_value c (record { x = x; y = Empty; context = c.context; cells = []; labels = labels })))
    (no_list c.scope 0 (ap list_labels takes.scope_is)) (keeps x Empty [] 0 at_once)

pub applied_fits : (c : Callback) (slice : Slice) (p : Position) → KeepsKind c → TakesCells c slice.cells.now → IsOfKind (callback_kind c) (value_on_cells c (cell_of slice p) Empty)
applied_fits c slice p keeps takes = value_fits c (cell_of slice p) keeps (taken_at c slice p takes)

applied_here : (c : Callback) (cube : Cube Cell) (slice : Slice) (window : Window) → IsShape cube.shape → IsCube cube → IsOn cube slice → Holds (whole_window cube.shape) window → HoldsNeed (HasLabelsOf cube.shape cube.shape) window slice.window → map (λ p. value_on_cells c (cell_of slice p) Empty) (positions window) ≡ cells_on Empty (applied c cube) window
applied_here c cube slice window valid whole on holds need =
    map-agree _ _ window (λ p h. ap (λ x. value_on_cells c x Empty) (own_cell cube slice window valid whole on holds need p h))
    ∙ sym (cells_on-tabulate Empty cube.shape (λ tuple. value_on_cells c (cell cube tuple) Empty) window holds)

pub applied_is : (c : Callback) (cube : Cube Cell) (slice : Slice) (window : Window) (shape : Dimensions) → cube.shape ≡ shape → IsShape shape → IsCube cube → IsOn cube slice → Holds (whole_window shape) window → HoldsNeed (HasLabelsOf shape shape) window slice.window → map (λ p. value_on_cells c (cell_of slice p) Empty) (positions window) ≡ cells_on Empty (applied c cube) window
applied_is c cube slice window shape same valid whole on holds need =
    let back = sym same in
    applied_here c cube slice window (subst IsShape back valid) whole on
    (subst (λ (s : Dimensions). Holds (whole_window s) window) back holds)
    (subst (λ (s : Dimensions). HoldsNeed (HasLabelsOf s s) window slice.window) back need)
