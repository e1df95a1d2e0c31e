-- A row of environments, whose lists are columns of rows that stand a stride apart.
use Rattle.std.specs.Prelude.{ℕ, ◌+◌, ◌*◌, ◌<◌, ◌≤◌, List, length}
use Rattle.std.specs.List.{slice_index_or}
use Rattle.oe_cell.specs.declared.cell.Cell.{Cell}
use Rattle.oe_cell.specs.declared.cell.Cell.TheVariants.{Empty}
use Rattle.oe_fold.specs.Columns.{column}
use Rattle.oe_expr.specs.Callback.{Callback, IsEnvironment, environment}
use Rattle.oe_expr.specs.Scope.{PlainScope, apply, reduce, merge, Environment}
use Rattle.oe_expr.specs.declared.row.EnvRow.{EnvRow}

abbrev pub x_at : EnvRow → ℕ → Cell
x_at row k = slice_index_or row.x.now k Empty

abbrev pub y_at : EnvRow → ℕ → Cell
y_at row k = slice_index_or row.y.now k Empty

-- the list of the environment k
abbrev pub list_at : EnvRow → ℕ → List Cell
list_at row k = column row.cells.now row.stride row.count k

abbrev pub environment_at : Callback → EnvRow → ℕ → Environment
environment_at c row k = environment c (x_at row k) (y_at row k) (list_at row k) row.list

-- there are cells for so many environments, where the scope has them
abbrev pub HasRowCells : PlainScope → EnvRow → ℕ → Type 0
HasRowCells (apply kind) row n = n ≤ length row.x.now
HasRowCells (reduce kind labels lists) row n =
    (0 < row.stride) × (row.count * row.stride + n ≤ length row.cells.now + row.stride)
HasRowCells (merge kind) row n = (n ≤ length row.x.now) × (n ≤ length row.y.now)

-- so many environments of the scope stand in a row
pub record AreEnvironments (c : Callback) (row : EnvRow) (n : ℕ) : Type 0 where
  pub has_cells : HasRowCells c.scope row n
  pub each : (k : ℕ) → k < n → IsEnvironment c (x_at row k) (y_at row k) (list_at row k) row.list
