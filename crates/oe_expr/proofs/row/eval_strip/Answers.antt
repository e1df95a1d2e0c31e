use Rattle.std.proofs.Common.{◌≡◌, ◌≢◌, ℕ, ◌+◌, ◌-◌, ◌*◌, ◌<◌, ◌≤◌, List, false, sym, ap, ◌∙◌, subst, length, get_or, arith}
use Rattle.oe_cell.specs.declared.cell.Cell.{Cell}
use Rattle.oe_cell.specs.declared.cell.Cell.TheVariants.{Empty}
use Rattle.oe_expr.specs.Programs.{Inputs, step_value, register_of}
use Rattle.oe_expr.specs.Strips.{row_inputs, register_at, is_last_register, HasStep}
use Rattle.oe_expr.proofs.RunLemmas.{room_for, step_stands, next_cell, next_filled, last_cell, AreFilled, operand_stands}
use Rattle.oe_expr.proofs.row.eval_strip.Goals.{then-number-count, else-number-count}
use Rattle.oe_expr.proofs.row.eval_strip.Goals as goal

pub step_row-requires-clause-step : goal.step_row-requires-clause-step
step_row-requires-clause-step c =
    let p = c.args.program.now in
    let n : ℕ = length c.args.out.now in
    let number : ℕ = c.loop-number.number in
    let in_steps : number < length p.steps.items = omega arith in
    let room : number * n ≤ length c.args.registers.now = room_for number (length p.steps.items) n (length c.args.registers.now) in_steps c.requires.room in
    let here : number * n ≤ length c.loop-number.registers = omega arith in
    subst (λ (k : ℕ). HasStep c.args.row.now c.args.from k (length c.loop-number.registers) p.elements.items c.index-step.result.now) (sym c.loop-number.auto.out)
    (step_stands c.requires.runs.scope p.elements.items p.steps.items c.requires.runs.is_program.steps (λ j. row_inputs c.args.row.now c.args.start (c.args.from + j)) n
    number in_steps c.index-step.result.now c.index-step.ensures c.args.row.now c.args.from (length c.loop-number.registers) c.requires.runs.has_cells here)

pub step_within-requires-clause-step : goal.step_within-requires-clause-step
step_within-requires-clause-step c =
    let p = c.args.program.now in
    let n : ℕ = length c.args.out.now in
    let number : ℕ = c.loop-number.number in
    let in_steps : number < length p.steps.items = omega arith in
    let here : number * n ≤ number * n = omega arith in
    step_stands c.requires.runs.scope p.elements.items p.steps.items c.requires.runs.is_program.steps (λ j. row_inputs c.args.row.now c.args.start (c.args.from + j)) n
    number in_steps c.index-step.result.now c.index-step.ensures c.args.row.now c.args.from (number * n) c.requires.runs.has_cells here

pub loop-number-preserved : goal.loop-number-preserved
loop-number-preserved c =
    let p = c.args.program.now in
    let elements = p.elements.items in
    let steps = p.steps.items in
    let scope = c.requires.runs.scope in
    let are = c.requires.runs.is_program.steps in
    let n : ℕ = length c.args.out.now in
    let number : ℕ = c.loop-number.number in
    let inputs : ℕ → Inputs = λ j. row_inputs c.args.row.now c.args.start (c.args.from + j) in
    let in_steps : number < length steps = omega arith in
    let long : length c.loop-number.out ≡ n = c.loop-number.auto.out in
    elim c.if-number-count.branch [
      | then-number-count w ↦
          let end : number + 1 ≡ length steps = omega arith in
          record {
            before = λ r h within j below.
                subst (λ (registers : List Cell). register_at registers n j r ≡ register_of elements (inputs j) steps r) (sym w.registers-is) (c.loop-number.invariant.before r (omega arith) within j below);
            last = last_cell scope elements steps are inputs n number in_steps c.index-step.result.now c.index-step.ensures c.if-number-count.out end
                (λ j below. next_cell scope elements steps are inputs n number in_steps c.index-step.result.now c.index-step.ensures c.loop-number.registers c.loop-number.invariant.before j below
                (get_or c.if-number-count.out j Empty)
                (ap (λ (out : List Cell). get_or out j Empty) w.out-is ∙ w.step_row.ensures j (omega arith)
                ∙ ap (λ (k : ℕ). step_value elements (inputs j) (register_at c.loop-number.registers k j) c.index-step.result.now) long));
          }
      | else-number-count w ↦ record {
        before = subst (λ (registers : List Cell). AreFilled scope elements steps are inputs n registers (number + 1)) (sym w.registers-is)
            (next_filled scope elements steps are inputs n number in_steps c.index-step.result.now c.index-step.ensures c.loop-number.registers w.step_within.new.registers
            c.loop-number.invariant.before w.step_within.ensures.value w.step_within.ensures.before);
        last = λ r h end j below.
            let all : c.len-count.result ≡ length steps = omega arith in
            let not : number + 1 ≢ length steps = λ e. w.if-number-count.false (e ∙ sym all) in
            ap (λ (out : List Cell). get_or out j Empty) w.out-is ∙ c.loop-number.invariant.last r (omega arith) end j below;
      }
    ]

pub cells_of-requires : goal.cells_of-requires
cells_of-requires c =
    let p = c.args.program.now in
    let n : ℕ = length c.args.out.now in
    let all : length p.steps.items ≡ c.len-count.result = omega arith in
    let not : is_last_register (length p.steps.items) p.result ≡ false = ap (λ (k : ℕ). is_last_register k p.result) all ∙ sym c.is_last.ensures ∙ c.if-not-is_last.true in
    let room : (length p.steps.items - 1) * n ≤ length c.loop-number.registers = omega arith in
    operand_stands c.requires.runs.scope p.elements.items p.steps.items c.requires.runs.is_program.steps (λ j. row_inputs c.args.row.now c.args.start (c.args.from + j)) n
    p.result c.requires.runs.is_program.result not c.args.row.now c.args.from (length c.loop-number.registers) c.requires.runs.has_cells room
