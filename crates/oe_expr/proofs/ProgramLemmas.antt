-- Each register of a program is what its step gives of the registers before it, and steps more change none before them.
use Rattle.std.proofs.Common.{◌≡◌, ℕ, zero, suc, ◌+◌, ◌-◌, ◌<◌, ◌≤◌, ◌∷◌, [], ◌++◌, List, refl, sym, ap, ◌∙◌, subst, length, map, take, drop, get_or, length-append, length-drop, arith}
use Rattle.std.specs.List.{All, slice_range, fold}
use Rattle.std.proofs.Math.ListN.{get_or-append}
use Rattle.std.proofs.Math.Seq.{get_or-append_seam}
use Rattle.std.proofs.lemmas.List.{take-append-le, drop-append-le}
use Rattle.std.proofs.lemmas.List.Sums.{fold-append}
use Rattle.oe_cell.specs.declared.cell.Cell.{Cell}
use Rattle.oe_cell.specs.declared.cell.Cell.TheVariants.{Empty}
use Rattle.oe_fold.specs.Value.{reduction_of}
use Rattle.oe_expr.specs.Programs.{Inputs, operand_value, step_value, registers_with, registers_of, register_of, IsOperand, IsProgramStep, AreSteps}
use Rattle.oe_expr.specs.Scope.{PlainScope}
use Rattle.oe_expr.specs.declared.program.Operand.{Operand}
use Rattle.oe_expr.specs.declared.program.Operand.TheVariants.{Constant, X, Y, At, Labelled, Register}
use Rattle.oe_expr.specs.declared.program.Step.{Step}
use Rattle.oe_expr.specs.declared.program.Step.TheVariants.{Unary, Binary, Choice, Reduction, Written}

-- ---- registers that agree

module _ (scope : PlainScope) (i : Inputs) (n : ℕ) (f g : ℕ → Cell) (agree : (r : ℕ) → r < n → f r ≡ g r) where
  pub operand_agrees : (o : Operand) → IsOperand scope n o → operand_value i f o ≡ operand_value i g o
  operand_agrees (Constant c) h = refl
  operand_agrees X h = refl
  operand_agrees Y h = refl
  operand_agrees (At k) h = refl
  operand_agrees (Labelled k) h = refl
  operand_agrees (Register r) h = agree r h

  pub operands_agree : (os : List Operand) → All (IsOperand scope n) os → map (operand_value i f) os ≡ map (operand_value i g) os
  operands_agree [] h = refl
  operands_agree (o ∷ os) h =
      let one : operand_value i f o ≡ operand_value i g o = operand_agrees o (h 0 o (omega arith)) in
      let rest : map (operand_value i f) os ≡ map (operand_value i g) os = operands_agree os (λ k d below. h (suc k) d (omega arith)) in
      cc

  pub step_agrees : (elements : List Operand) (s : Step) → IsProgramStep scope elements n s → step_value elements i f s ≡ step_value elements i g s
  step_agrees elements (Unary u x) h = rw (operand_agrees x h) refl
  step_agrees elements (Binary b x y) h = rw (operand_agrees x h.0, operand_agrees y h.1) refl
  step_agrees elements (Choice value accept reject) h =
      rw (operand_agrees value h.0, operand_agrees accept h.1, operand_agrees reject h.2) refl
  step_agrees elements (Reduction reducer ignore) h = refl
  step_agrees elements (Written reducer ignore from to) h = ap (reduction_of reducer ignore) (operands_agree _ h.each)

-- ---- elements behind others

pub slice_front : {A : Type 0} (xs ys : List A) (from to : ℕ) → from ≤ to → to ≤ length xs → slice_range (xs ++ ys) from to ≡ slice_range xs from to
slice_front xs ys from to rises ends =
    let from_front : from ≤ length xs = omega arith in
    let long : length (drop from xs) ≡ length xs - from = length-drop from xs in
    let within : to - from ≤ length (drop from xs) = omega arith in
    ap (take (to - from)) (drop-append-le from xs ys from_front) ∙ take-append-le (to - from) (drop from xs) ys within

pub step_more : (scope : PlainScope) (elements more : List Operand) (i : Inputs) (n : ℕ) (at : ℕ → Cell) (s : Step) → IsProgramStep scope elements n s
    → step_value (elements ++ more) i at s ≡ step_value elements i at s
step_more scope elements more i n at (Unary u x) h = refl
step_more scope elements more i n at (Binary b x y) h = refl
step_more scope elements more i n at (Choice value accept reject) h = refl
step_more scope elements more i n at (Reduction reducer ignore) h = refl
step_more scope elements more i n at (Written reducer ignore from to) h =
    ap (λ (os : List Operand). reduction_of reducer ignore (map (operand_value i at) os)) (slice_front elements more from to h.rises h.ends)

-- ---- the registers

abbrev after : List Operand → Inputs → List Cell → List Step → List Cell
after elements i registers steps = fold (registers_with elements i) registers steps

module _ (elements : List Operand) (i : Inputs) where
  length-after : (registers : List Cell) (steps : List Step) → length (after elements i registers steps) ≡ length registers + length steps
  length-after registers [] = omega arith
  length-after registers (s ∷ steps) =
      let more = length-after (registers_with elements i registers s) steps in
      let one = length-append registers (step_value elements i (λ r. get_or registers r Empty) s ∷ []) in
      omega arith

  keeps_after : (registers : List Cell) (steps : List Step) (r : ℕ) → r < length registers → get_or (after elements i registers steps) r Empty ≡ get_or registers r Empty
  keeps_after registers [] r h = refl
  keeps_after registers (s ∷ steps) r h =
      let one = length-append registers (step_value elements i (λ r. get_or registers r Empty) s ∷ []) in
      keeps_after (registers_with elements i registers s) steps r (omega arith)
      ∙ get_or-append registers (step_value elements i (λ r. get_or registers r Empty) s ∷ []) Empty r h

  -- a register is what its step gives of the registers before it
  is_after : (scope : PlainScope) (registers : List Cell) (steps : List Step)
      → ((k : ℕ) (d : Step) → k < length steps → IsProgramStep scope elements (length registers + k) (get_or steps k d))
      → (k : ℕ) (d : Step) → k < length steps
      → get_or (after elements i registers steps) (length registers + k) Empty
      ≡ step_value elements i (λ r. get_or (after elements i registers steps) r Empty) (get_or steps k d)
  is_after scope registers [] are k d h = absurd (omega arith)
  is_after scope registers (s ∷ steps) are zero d h =
      let v : Cell = step_value elements i (λ r. get_or registers r Empty) s in
      let one = length-append registers (v ∷ []) in
      let here : length registers + 0 ≡ length registers = omega arith in
      let safe : IsProgramStep scope elements (length registers) s = subst (λ n. IsProgramStep scope elements n s) here (are 0 d h) in
      ap (λ n. get_or (after elements i registers (s ∷ steps)) n Empty) here
      ∙ keeps_after (registers ++ v ∷ []) steps (length registers) (omega arith)
      ∙ get_or-append_seam registers v [] Empty
      ∙ step_agrees scope i (length registers) (λ r. get_or registers r Empty) (λ r. get_or (after elements i registers (s ∷ steps)) r Empty)
      (λ r below. sym (keeps_after registers (s ∷ steps) r below)) elements s safe
  is_after scope registers (s ∷ steps) are (suc k) d h =
      let v : Cell = step_value elements i (λ r. get_or registers r Empty) s in
      let one : length (registers ++ v ∷ []) ≡ length registers + 1 = length-append registers (v ∷ []) in
      let same : (j : ℕ) → length (registers ++ v ∷ []) + j ≡ length registers + suc j = λ j. omega arith in
      ap (λ n. get_or (after elements i registers (s ∷ steps)) n Empty) (sym (same k))
      ∙ is_after scope (registers ++ v ∷ []) steps
      (λ j e below. subst (λ n. IsProgramStep scope elements n (get_or steps j e)) (sym (same j)) (are (suc j) e (omega arith))) k d (omega arith)

  pub register_is : (scope : PlainScope) (steps : List Step) → AreSteps scope elements steps → (k : ℕ) (d : Step) → k < length steps
      → register_of elements i steps k ≡ step_value elements i (register_of elements i steps) (get_or steps k d)
  unfolding registers_of
  register_is scope steps are k d h =
      let same : (j : ℕ) → 0 + j ≡ j = λ j. omega arith in
      ap (λ n. get_or (after elements i [] steps) n Empty) (sym (same k))
      ∙ is_after scope [] steps (λ j e below. subst (λ n. IsProgramStep scope elements n (get_or steps j e)) (sym (same j)) (are j e below)) k d h

-- ---- more steps and elements

module _ (scope : PlainScope) (elements more : List Operand) (i : Inputs) where
  same_after : (registers : List Cell) (steps : List Step)
      → ((k : ℕ) (d : Step) → k < length steps → IsProgramStep scope elements (length registers + k) (get_or steps k d))
      → after (elements ++ more) i registers steps ≡ after elements i registers steps
  same_after registers [] are = refl
  same_after registers (s ∷ steps) are =
      let v : Cell = step_value elements i (λ r. get_or registers r Empty) s in
      let one : length (registers ++ v ∷ []) ≡ length registers + 1 = length-append registers (v ∷ []) in
      let same : (j : ℕ) → length registers + suc j ≡ length (registers ++ v ∷ []) + j = λ j. omega arith in
      ap (λ (w : Cell). after (elements ++ more) i (registers ++ w ∷ []) steps)
      (step_more scope elements more i (length registers + 0) (λ r. get_or registers r Empty) s (are 0 s (omega arith)))
      ∙ same_after (registers ++ v ∷ []) steps
      (λ j e below. subst (λ n. IsProgramStep scope elements n (get_or steps j e)) (same j) (are (suc j) e (omega arith)))

  -- steps and elements that follow change no register
  pub registers_kept : (steps later : List Step) → AreSteps scope elements steps → (r : ℕ) → r < length steps
      → register_of (elements ++ more) i (steps ++ later) r ≡ register_of elements i steps r
  unfolding registers_of
  registers_kept steps later are r h =
      let same : (j : ℕ) → j ≡ 0 + j = λ j. omega arith in
      let long : length (after (elements ++ more) i [] steps) ≡ 0 + length steps = length-after (elements ++ more) i [] steps in
      ap (λ (registers : List Cell). get_or registers r Empty) (fold-append (registers_with (elements ++ more) i) [] steps later)
      ∙ keeps_after (elements ++ more) i (after (elements ++ more) i [] steps) later r (omega arith)
      ∙ ap (λ (registers : List Cell). get_or registers r Empty)
      (same_after [] steps (λ j e below. subst (λ n. IsProgramStep scope elements n (get_or steps j e)) (same j) (are j e below)))

-- where the registers before a step are there, what it gives is the next
pub register_after : (scope : PlainScope) (elements : List Operand) (i : Inputs) (steps : List Step) → AreSteps scope elements steps → (k : ℕ) (s : Step) → k < length steps → s ≡ get_or steps k s
    → (at : ℕ → Cell) → ((r : ℕ) → r < k → at r ≡ register_of elements i steps r)
    → step_value elements i at s ≡ register_of elements i steps k
register_after scope elements i steps are k s h is at agree =
    let safe : IsProgramStep scope elements k s = subst (λ (t : Step). IsProgramStep scope elements k t) (sym is) (are k s h) in
    step_agrees scope i k at (register_of elements i steps) agree elements s safe
    ∙ ap (λ (t : Step). step_value elements i (register_of elements i steps) t) is
    ∙ sym (register_is elements i scope steps are k s h)
