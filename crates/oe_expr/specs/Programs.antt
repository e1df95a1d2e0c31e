-- What a program of steps computes: a function of the cells that it takes.
use Rattle.std.specs.Prelude.{ℕ, ◌+◌, ◌-◌, ◌<◌, ◌≤◌, ⊤, nat_lt, if◌then◌else◌, List, [], ◌∷◌, ◌++◌, length, map, slice_range}
use Rattle.std.specs.List.{All, slice_index_or, fold}
use Rattle.oe_cell.specs.Operations.{choose_of}
use Rattle.oe_cell.specs.declared.cell.Cell.{Cell}
use Rattle.oe_cell.specs.declared.cell.Cell.TheVariants.{Empty}
use Rattle.oe_fold.specs.Value.{reduction_of}
use Rattle.oe_expr.specs.Operations.{unary_of, binary_of}
use Rattle.oe_expr.specs.Scope.{PlainScope, apply, reduce, merge, Environment}
use Rattle.oe_expr.specs.declared.program.Operand.{Operand}
use Rattle.oe_expr.specs.declared.program.Operand.TheVariants.{Constant, X, Y, At, Labelled, Register}
use Rattle.oe_expr.specs.declared.program.Program.{Program}
use Rattle.oe_expr.specs.declared.program.Step.{Step}
use Rattle.oe_expr.specs.declared.program.Step.TheVariants.{Unary, Binary, Choice, Reduction, Written}
use Rattle.oe_expr.specs.declared.scope.Env.{Env}

-- what a program takes: the cells `x` and `y`, a list, and where the list begins among the labels of its dimension
pub record Inputs : Type 0 where
  pub x : Cell
  pub y : Cell
  pub cells : List Cell
  pub start : ℕ

abbrev pub inputs_of : Environment → ℕ → Inputs
inputs_of e start = record { x = e.x; y = e.y; cells = e.cells; start = start }

abbrev pub env_inputs : Env → ℕ → Inputs
env_inputs env start = record { x = env.x; y = env.y; cells = env.cells.now; start = start }

-- ---- values

-- the element whose label has the index k among the labels of the dimension
abbrev pub labelled_element : Inputs → ℕ → Cell
labelled_element i k = if nat_lt k i.start then Empty else slice_index_or i.cells (k - i.start) Empty

-- of an operand, where `at` has the registers
abbrev pub operand_value : Inputs → (ℕ → Cell) → Operand → Cell
operand_value i at (Constant c) = c
operand_value i at X = i.x
operand_value i at Y = i.y
operand_value i at (At k) = slice_index_or i.cells k Empty
operand_value i at (Labelled k) = labelled_element i k
operand_value i at (Register r) = at r

-- of a step, where `elements` has the elements of the lists that are written
abbrev pub step_value : List Operand → Inputs → (ℕ → Cell) → Step → Cell
step_value elements i at (Unary f x) = unary_of f (operand_value i at x)
step_value elements i at (Binary f x y) = binary_of f (operand_value i at x) (operand_value i at y)
step_value elements i at (Choice value accept reject) =
    choose_of (operand_value i at value) (operand_value i at accept) (operand_value i at reject)
step_value elements i at (Reduction reducer ignore) = reduction_of reducer ignore i.cells
step_value elements i at (Written reducer ignore from to) =
    reduction_of reducer ignore (map (operand_value i at) (slice_range elements from to))

-- the registers after one step more
abbrev pub registers_with : List Operand → Inputs → List Cell → Step → List Cell
registers_with elements i registers step =
    registers ++ step_value elements i (λ r. slice_index_or registers r Empty) step ∷ []

-- the registers after all steps
unfoldable pub registers_of : List Operand → Inputs → List Step → List Cell
registers_of elements i steps = fold (registers_with elements i) [] steps

-- what the step of a number gives
abbrev pub register_of : List Operand → Inputs → List Step → ℕ → Cell
register_of elements i steps r = slice_index_or (registers_of elements i steps) r Empty

-- of a program
abbrev pub result_value : Program → Inputs → Cell
result_value p i = operand_value i (register_of p.elements.items i p.steps.items) p.result

-- where the list of a number begins among the labels
abbrev pub start_of : Program → ℕ → ℕ
start_of p list = slice_index_or p.starts.items list 0

-- of a program in an environment on the list of a number
abbrev pub program_value : Program → Environment → ℕ → Cell
program_value p e list = result_value p (inputs_of e (start_of p list))

-- ---- what a program may take

abbrev pub HasX : PlainScope → Type 0
HasX (apply kind) = ⊤
HasX (reduce kind labels lists) = ⊥
HasX (merge kind) = ⊤

abbrev pub HasY : PlainScope → Type 0
HasY (apply kind) = ⊥
HasY (reduce kind labels lists) = ⊥
HasY (merge kind) = ⊤

abbrev pub HasList : PlainScope → Type 0
HasList (apply kind) = ⊥
HasList (reduce kind labels lists) = ⊤
HasList (merge kind) = ⊥

-- the operand is one that the scope has, or a register below a number
abbrev pub IsOperand : PlainScope → ℕ → Operand → Type 0
IsOperand scope n (Constant c) = ⊤
IsOperand scope n X = HasX scope
IsOperand scope n Y = HasY scope
IsOperand scope n (At k) = HasList scope
IsOperand scope n (Labelled k) = HasList scope
IsOperand scope n (Register r) = r < n

-- from one element to before another are at most 64 operands
pub record AreOperands (scope : PlainScope) (elements : List Operand) (n from to : ℕ) : Type 0 where
  pub rises : from ≤ to
  pub ends : to ≤ length elements
  pub few : to ≤ from + 64
  pub each : All (IsOperand scope n) (slice_range elements from to)

-- the operands of a step are such
abbrev pub IsProgramStep : PlainScope → List Operand → ℕ → Step → Type 0
IsProgramStep scope elements n (Unary f x) = IsOperand scope n x
IsProgramStep scope elements n (Binary f x y) = IsOperand scope n x × IsOperand scope n y
IsProgramStep scope elements n (Choice value accept reject) =
    IsOperand scope n value × IsOperand scope n accept × IsOperand scope n reject
IsProgramStep scope elements n (Reduction reducer ignore) = HasList scope
IsProgramStep scope elements n (Written reducer ignore from to) = AreOperands scope elements n from to

-- each step takes what the scope has and what steps before it gave
abbrev pub AreSteps : PlainScope → List Operand → List Step → Type 0
AreSteps scope elements steps =
    (k : ℕ) (d : Step) → k < length steps → IsProgramStep scope elements k (slice_index_or steps k d)

pub record IsProgram (scope : PlainScope) (p : Program) : Type 0 where
  pub few : length p.steps.items ≤ 64
  pub steps : AreSteps scope p.elements.items p.steps.items
  pub result : IsOperand scope (length p.steps.items) p.result
