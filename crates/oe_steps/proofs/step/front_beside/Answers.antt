use Rattle.std.proofs.Common.{◌∙◌, sym, ap, arith, length}
use Rattle.std.proofs.lemmas.List.{length-take-le}
use Rattle.oe_steps.proofs.ScheduleLemmas.{few, few_positions, step_of_windows}
use Rattle.oe_steps.specs.Buffers.{buffer_beside, lists_of}
use Rattle.oe_steps.proofs.step.front_beside.Goals as goal

pub bounds-windows-step : goal.bounds-windows-step
bounds-windows-step c =
    let w = c.requires.windows in
    omega (arith, step_of_windows c.args.checked.now c.args.schedule.now c.requires.schedule c.args.windows.now w, c.requires.step)

pub size-count-requires : goal.size-count-requires
size-count-requires c =
    let w = c.requires.windows in
    few_positions c.args.checked.now c.args.schedule.now c.requires.schedule c.args.windows.now w c.args.step c.requires.step

pub slice_bounds-result-end : goal.slice_bounds-result-end
slice_bounds-result-end c =
    let w = c.requires.windows in
    let most = few c.args.checked.now c.args.schedule.now c.requires.schedule c.args.windows.now w c.args.step c.requires.step in
    let long = ap length (c.beside.ensures ∙ ap (buffer_beside (lists_of c.args.before.now) (lists_of c.args.after.now)) c.slot-slot.ensures.value) in
    sym (length-take-le c.size-count.result c.beside.result.now (omega (arith, c.size-count.ensures.value, most, long, c.requires.room)))
