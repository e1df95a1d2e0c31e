use Rattle.std.proofs.Common.{◌≡◌, ◌∙◌, arith, drop, length, subst, sym}
use Rattle.std.proofs.lemmas.List.{length-take-le}
use Rattle.std.specs.List.{All}
use Rattle.oe_cube.specs.Kinds.{IsOfKind}
use Rattle.oe_steps.specs.Steps.{cell_kind_at}
use Rattle.oe_plan.specs.Windows.{window_at}
use Rattle.oe_window.specs.Windows.{position_count}
use Rattle.oe_steps.proofs.BufferLemmas.{take_front}
use Rattle.oe_steps.proofs.step.evaluate_into.Goals as goal

pub returns-clause-value : goal.returns-clause-value
returns-clause-value c = λ collections has one two.
    let count = c.size-count.result in
    let short = length-take-le count c.args.buffer.now (omega (arith, c.size-count.ensures.value, c.requires.room)) in
    let long : length c.evaluate_from.new.out ≡ position_count (window_at c.args.windows.now c.args.operands.step) =
    omega (arith, c.evaluate_from.auto.out, short, c.size-count.ensures.value) in
    take_front c.evaluate_from.new.out (drop count c.args.buffer.now) _ long ∙ c.evaluate_from.ensures.value collections has one two

pub returns-clause-kinds : goal.returns-clause-kinds
returns-clause-kinds c =
    let count = c.size-count.result in
    let short = length-take-le count c.args.buffer.now (omega (arith, c.size-count.ensures.value, c.requires.room)) in
    let long : length c.evaluate_from.new.out ≡ position_count (window_at c.args.windows.now c.args.operands.step) =
    omega (arith, c.evaluate_from.auto.out, short, c.size-count.ensures.value) in
    subst (All (IsOfKind (cell_kind_at c.args.checked.now c.args.schedule.now c.args.operands.step)))
    (sym (take_front c.evaluate_from.new.out (drop count c.args.buffer.now) _ long)) c.evaluate_from.ensures.kinds
