use Rattle.std.proofs.Common.{◌-◌, ◌<◌, length, ap, ◌∙◌, arith}
use Rattle.oe_plan.specs.Schedules.{part_of, steps_to_last}
use Rattle.oe_plan.proofs.WidenLemmas.{faultless_part, listing_of, widened_inside, worked_off_begins, worked_off_ends, worked_off_more}
use Rattle.oe_plan.proofs.windows.windows_of.Goals as goal

pub loop-left-init : goal.loop-left-init
loop-left-init c =
    worked_off_begins (part_of c.args.checked.now c.args.schedule.now) c.args.chunk.now c.clear.new.windows c.step_of_last.result
    (c.clear.ensures.length ∙ (c.requires.each ∙ ap length c.requires.order.steps_are)) c.clear.ensures.zero c.step_of_last.ensures.within
    c.step_of_last.ensures.only c.step_of_last.ensures.value c.requires.some

pub widen_arguments-requires-clause-inside : goal.widen_arguments-requires-clause-inside
widen_arguments-requires-clause-inside c =
    let inside = c.loop-left.invariant.within in
    let some = c.loop-left-test.true in
    let below : c.loop-left.left - 1 < length (steps_to_last c.args.checked.now c.args.schedule.now) = omega arith in
    widened_inside (part_of c.args.checked.now c.args.schedule.now) c.args.chunk.now c.loop-left.windows c.loop-left.left 0 c.requires.within c.loop-left.invariant.widened (c.loop-left.left - 1) below

pub loop-left-preserved : goal.loop-left-preserved
loop-left-preserved c =
    worked_off_more (part_of c.args.checked.now c.args.schedule.now) c.args.chunk.now c.loop-left.windows c.widen_arguments.new.windows c.loop-left.left c.loop-left-test.true c.loop-left.invariant
    c.widen_arguments.ensures.widened c.widen_arguments.ensures.valid

pub returns : goal.returns
returns c =
    worked_off_ends (part_of c.args.checked.now c.args.schedule.now) c.args.chunk.now c.loop-left.windows c.loop-left.left c.loop-left-test.false (faultless_part c.args.checked.now c.args.schedule.now.last c.requires.last c.step_of_last.ensures.faultless)
    (listing_of (part_of c.args.checked.now c.args.schedule.now) c.args.schedule.now.order c.requires.order) c.requires.within c.requires.some c.loop-left.invariant
