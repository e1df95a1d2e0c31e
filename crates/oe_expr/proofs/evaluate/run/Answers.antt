use Rattle.std.proofs.Common.{◌≢◌, ℕ, ◌<◌, length, ◌∙◌, arith, get_or, get_or-set_other, get_or-set_same, below_more}
use Rattle.oe_cell.specs.declared.cell.Cell.{Cell}
use Rattle.oe_cell.specs.declared.cell.Cell.TheVariants.{Empty}
use Rattle.oe_expr.specs.Programs as spec
use Rattle.oe_expr.proofs.ProgramLemmas.{register_after}
use Rattle.oe_expr.proofs.evaluate.run.Goals as goal

pub loop-number-preserved : goal.loop-number-preserved
loop-number-preserved c =
    let n : ℕ = c.loop-number.number in
    let registers = c.loop-number.registers in
    let value : Cell = c.step_value-value.result in
    let p = c.args.program.now in
    let i : spec.Inputs = spec.env_inputs c.args.env.now c.args.start in
    let in_steps : n < length p.steps.items = omega arith in
    let few = c.requires.program.1.few in
    let in_registers : n < length registers = omega arith in
    below_more _ n
    (λ r h. let other : r ≢ n = omega arith in get_or-set_other registers n r value Empty other ∙ c.loop-number.invariant r h)
    (get_or-set_same registers n value Empty in_registers ∙ c.step_value-value.ensures
    ∙ register_after c.requires.program.0 p.elements.items i p.steps.items c.requires.program.1.steps n c.index.result.now in_steps c.index.ensures
    (λ r. get_or registers r Empty) c.loop-number.invariant)
