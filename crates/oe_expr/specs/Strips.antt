-- A strip of a row of environments, whose registers stand one behind the other: the register r of the environment j of
-- `n` is the cell r n + j.
use Rattle.std.specs.Prelude.{ℕ, ◌+◌, ◌*◌, ◌==◌, ◌<◌, ◌≤◌, ⊤, Bool, false, List, length, slice_range}
use Rattle.std.specs.List.{All, slice_index_or}
use Rattle.oe_cell.specs.declared.cell.Cell.{Cell}
use Rattle.oe_cell.specs.declared.cell.Cell.TheVariants.{Empty}
use Rattle.oe_expr.specs.EnvRows.{HasRowCells, x_at, y_at, list_at}
use Rattle.oe_expr.specs.Programs.{Inputs, IsProgram}
use Rattle.oe_expr.specs.Scope.{PlainScope}
use Rattle.oe_expr.specs.declared.program.Operand.{Operand}
use Rattle.oe_expr.specs.declared.program.Operand.TheVariants.{Constant, X, Y, At, Labelled, Register}
use Rattle.oe_expr.specs.declared.program.Program.{Program}
use Rattle.oe_expr.specs.declared.program.Step.{Step}
use Rattle.oe_expr.specs.declared.program.Step.TheVariants.{Unary, Binary, Choice, Reduction, Written}
use Rattle.oe_expr.specs.declared.row.EnvRow.{EnvRow}
use Rattle.oe_expr.specs.declared.row.Source.{Source}
use Rattle.oe_expr.specs.declared.row.Source.TheVariants.{All as AllCells, Each}

-- ---- sources

abbrev pub strip_cell_at : Source → ℕ → Cell
strip_cell_at (AllCells c) j = c
strip_cell_at (Each cells) j = slice_index_or cells.now j Empty

-- a source has so many cells
abbrev pub IsAsLong : Source → ℕ → Type 0
IsAsLong (AllCells c) n = ⊤
IsAsLong (Each cells) n = n ≤ length cells.now

-- ---- what stands in a row

-- what a program takes in the environment k
abbrev pub row_inputs : EnvRow → ℕ → ℕ → Inputs
row_inputs row start k = record { x = x_at row k; y = y_at row k; cells = list_at row k; start = start }

-- the registers of the environment j of a strip
abbrev pub register_at : List Cell → ℕ → ℕ → ℕ → Cell
register_at registers n j r = slice_index_or registers (r * n + j) Empty

-- the lists of so many environments stand in the row
pub record HasLists (row : EnvRow) (n : ℕ) : Type 0 where
  pub strides : 0 < row.stride
  pub ends : row.count * row.stride + n ≤ length row.cells.now + row.stride

-- the cells of an operand stand in the `n` environments from one on, where there are `m` cells of registers
abbrev pub HasOperand : EnvRow → ℕ → ℕ → ℕ → Operand → Type 0
HasOperand row from n m (Constant c) = ⊤
HasOperand row from n m X = from + n ≤ length row.x.now
HasOperand row from n m Y = from + n ≤ length row.y.now
HasOperand row from n m (At k) = HasLists row (from + n)
HasOperand row from n m (Labelled k) = HasLists row (from + n)
HasOperand row from n m (Register r) = r * n + n ≤ m

-- those from one element to before another do, which are at most 64
pub record HaveOperands (row : EnvRow) (from n : ℕ) (m : ℕ) (elements : List Operand) (first end : ℕ) : Type 0 where
  pub rises : first ≤ end
  pub ends : end ≤ length elements
  pub few : end ≤ first + 64
  pub each : All (HasOperand row from n m) (slice_range elements first end)

-- those of a step do
abbrev pub HasStep : EnvRow → ℕ → ℕ → ℕ → List Operand → Step → Type 0
HasStep row from n m elements (Unary f x) = HasOperand row from n m x
HasStep row from n m elements (Binary f x y) = HasOperand row from n m x × HasOperand row from n m y
HasStep row from n m elements (Choice value accept reject) =
    HasOperand row from n m value × HasOperand row from n m accept × HasOperand row from n m reject
HasStep row from n m elements (Reduction reducer ignore) = HasLists row (from + n)
HasStep row from n m elements (Written reducer ignore first end) = HaveOperands row from n m elements first end

-- the operand is what the last of so many steps gives
abbrev pub is_last_register : ℕ → Operand → Bool
is_last_register count (Register r) = r + 1 == count
is_last_register count (Constant c) = false
is_last_register count X = false
is_last_register count Y = false
is_last_register count (At k) = false
is_last_register count (Labelled k) = false

-- a program can run in the environments before one
pub record CanRun (p : Program) (row : EnvRow) (end : ℕ) : Type 0 where
  pub scope : PlainScope
  pub is_program : IsProgram scope p
  pub has_cells : HasRowCells scope row end
