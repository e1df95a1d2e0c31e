-- How the registers of a strip fill, step by step.
use Rattle.std.proofs.Common.{◌≡◌, ℕ, ◌+◌, ◌-◌, ◌*◌, ◌<◌, ◌≤◌, List, true, false, sym, ◌∙◌, subst, length, take, get_or, arith, inl, inr, ltb}
use Rattle.std.proofs.Math.Nat.{mul-le-mul_right}
use Rattle.std.proofs.lemmas.Bool.{cases_Bool}
use Rattle.std.proofs.lemmas.Bool.Decides.{Decides-ltb, nat_tests}
use Rattle.std.proofs.lemmas.List.{get_or-take}
use Rattle.oe_cell.specs.declared.cell.Cell.{Cell}
use Rattle.oe_cell.specs.declared.cell.Cell.TheVariants.{Empty}
use Rattle.oe_expr.specs.EnvRows.{HasRowCells}
use Rattle.oe_expr.specs.Programs.{Inputs, operand_value, step_value, register_of, IsOperand, IsProgramStep, AreSteps}
use Rattle.oe_expr.specs.Scope.{PlainScope}
use Rattle.oe_expr.specs.Strips.{HasOperand, HasStep, is_last_register, register_at}
use Rattle.oe_expr.specs.declared.program.Operand.{Operand}
use Rattle.oe_expr.specs.declared.program.Operand.TheVariants.{Constant, X, Y, At, Labelled, Register}
use Rattle.oe_expr.specs.declared.program.Step.{Step}
use Rattle.oe_expr.specs.declared.row.EnvRow.{EnvRow}
use Rattle.oe_expr.proofs.ProgramLemmas.{operand_agrees, register_after}
use Rattle.oe_expr.proofs.StripLemmas.{has_operand, has_step}

pub room_for : (number count n m : ℕ) → number < count → (count - 1) * n ≤ m → number * n ≤ m
room_for number count n m h room =
    let rows : number * n ≤ (count - 1) * n = mul-le-mul_right n (omega arith) in
    omega arith

-- the cell j of a row stands before the rows that follow
pub row_below : (r number n j : ℕ) → r < number → j < n → r * n + j < number * n
row_below r number n j h below =
    let rows : (r + 1) * n ≤ number * n = mul-le-mul_right n (omega arith) in
    let next : (r + 1) * n ≡ r * n + n = omega arith in
    omega arith

-- an operand that is not what the last step gives is there before it
pub not_last : (scope : PlainScope) (count : ℕ) (o : Operand) → IsOperand scope count o → is_last_register count o ≡ false → IsOperand scope (count - 1) o
not_last scope count (Constant c) h last = h
not_last scope count X h last = h
not_last scope count Y h last = h
not_last scope count (At k) h last = h
not_last scope count (Labelled k) h last = h
not_last scope count (Register r) h last = grind (arith, nat_tests)

module _ (scope : PlainScope) (elements : List Operand) (steps : List Step) (are : AreSteps scope elements steps) (inputs : ℕ → Inputs) (n : ℕ) where
  -- the registers of the first steps, but the last of all, are filled
  abbrev pub AreFilled : List Cell → ℕ → Type 0
  AreFilled registers number = (r : ℕ) → r < number → r + 1 < length steps → (j : ℕ) → j < n → register_at registers n j r ≡ register_of elements (inputs j) steps r

  module _ (number : ℕ) (in_steps : number < length steps) (s : Step) (is : s ≡ get_or steps number s) where
    pub step_stands : (row : EnvRow) (from m : ℕ) → HasRowCells scope row (from + n) → number * n ≤ m → HasStep row from n m elements s
    step_stands row from m has room =
        let safe : IsProgramStep scope elements number s = subst (λ (t : Step). IsProgramStep scope elements number t) (sym is) (are number s in_steps) in
        has_step scope row from n m number has room elements s safe

    pub next_cell : (registers : List Cell) → AreFilled registers number → (j : ℕ) → j < n → (v : Cell)
        → v ≡ step_value elements (inputs j) (register_at registers n j) s → v ≡ register_of elements (inputs j) steps number
    next_cell registers filled j h v e =
        e ∙ register_after scope elements (inputs j) steps are number s in_steps is (register_at registers n j) (λ r below. filled r below (omega arith) j h)

    pub next_filled : (registers new : List Cell) → AreFilled registers number
        → ((j : ℕ) → j < n → register_at new n j number ≡ step_value elements (inputs j) (register_at (take (number * n) registers) n j) s)
        → ((k : ℕ) → k < number * n → get_or new k Empty ≡ get_or registers k Empty)
        → AreFilled new (number + 1)
    next_filled registers new filled value kept r h within j below = elim (cases_Bool (ltb r number)) [
      | inl e ↦
          let before : r < number = (Decides-ltb r number).0 e in
          kept (r * n + j) (row_below r number n j before below) ∙ filled r before within j below
      | inr e ↦
          let here : number ≡ r = grind (arith, nat_tests) in
          subst (λ (q : ℕ). register_at new n j q ≡ register_of elements (inputs j) steps q) here
          (value j below ∙ register_after scope elements (inputs j) steps are number s in_steps is (register_at (take (number * n) registers) n j)
          (λ q q_before. get_or-take (number * n) registers (q * n + j) Empty (row_below q number n j q_before below) ∙ filled q q_before (omega arith) j below))
    ]

    -- the last step writes elsewhere
    pub last_cell : (out : List Cell) → number + 1 ≡ length steps → ((j : ℕ) → j < n → get_or out j Empty ≡ register_of elements (inputs j) steps number)
        → (r : ℕ) → r < number + 1 → r + 1 ≡ length steps → (j : ℕ) → j < n → get_or out j Empty ≡ register_of elements (inputs j) steps r
    last_cell out end cells r h last j below =
        let here : number ≡ r = omega arith in
        subst (λ (q : ℕ). get_or out j Empty ≡ register_of elements (inputs j) steps q) here (cells j below)

  -- the operand of the result, where it is not what the last step gives
  module _ (o : Operand) (placed : IsOperand scope (length steps) o) (not : is_last_register (length steps) o ≡ false) where
    pub operand_stands : (row : EnvRow) (from m : ℕ) → HasRowCells scope row (from + n) → (length steps - 1) * n ≤ m → HasOperand row from n m o
    operand_stands row from m has room = has_operand scope row from n m (length steps - 1) has room o (not_last scope (length steps) o placed not)

    pub operand_is : (registers : List Cell) → AreFilled registers (length steps) → (j : ℕ) → j < n
        → operand_value (inputs j) (register_at registers n j) o ≡ operand_value (inputs j) (register_of elements (inputs j) steps) o
    operand_is registers filled j h =
        operand_agrees scope (inputs j) (length steps - 1) (register_at registers n j) (register_of elements (inputs j) steps)
        (λ r below. filled r (omega arith) (omega arith) j h) o (not_last scope (length steps) o placed not)

  -- what the last step gives
  pub last_is : (out : List Cell)
      → ((r : ℕ) → r < length steps → r + 1 ≡ length steps → (j : ℕ) → j < n → get_or out j Empty ≡ register_of elements (inputs j) steps r)
      → (o : Operand) → is_last_register (length steps) o ≡ true → (j : ℕ) → j < n
      → get_or out j Empty ≡ operand_value (inputs j) (register_of elements (inputs j) steps) o
  last_is out last (Constant c) is j h = absurd cc
  last_is out last X is j h = absurd cc
  last_is out last Y is j h = absurd cc
  last_is out last (At k) is j h = absurd cc
  last_is out last (Labelled k) is j h = absurd cc
  last_is out last (Register r) is j h =
      let end : r + 1 ≡ length steps = grind (arith, nat_tests) in
      last r (omega arith) end j h
