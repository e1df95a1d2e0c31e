use Rattle.std.proofs.Common.{◌≡◌, ◌<◌, ◌∙◌, sym, ap, arith, length}
use Rattle.std.proofs.lemmas.List.{length-take-le}
use Rattle.oe_steps.proofs.BufferLemmas.{at_items, length-lists}
use Rattle.oe_steps.proofs.ScheduleLemmas.{few, few_positions, step_of_windows}
use Rattle.oe_steps.proofs.step.front.Goals as goal

pub bounds-windows-step : goal.bounds-windows-step
bounds-windows-step c =
    let w = c.requires.windows in
    omega (arith, step_of_windows c.args.checked.now c.args.schedule.now c.requires.schedule c.args.windows.now w, c.requires.step)

pub size-count-requires : goal.size-count-requires
size-count-requires c =
    let w = c.requires.windows in
    few_positions c.args.checked.now c.args.schedule.now c.requires.schedule c.args.windows.now w c.args.step c.requires.step

pub slice_bounds-result-end : goal.slice_bounds-result-end
slice_bounds-result-end c =
    let w = c.requires.windows in
    let most = few c.args.checked.now c.args.schedule.now c.requires.schedule c.args.windows.now w c.args.step c.requires.step in
    let buffers = c.args.buffers.now in
    let slot = c.slot-slot.result in
    let counted : length buffers ≡ c.args.schedule.now.order.width = sym (length-lists buffers) ∙ c.requires.room.as_many in
    let below : slot < length buffers = omega (arith, counted, c.slot-slot.ensures.below) in
    let long = sym (c.requires.room.each slot c.slot-slot.ensures.below) ∙ ap length (at_items buffers slot c.index-buffers-slot.result below ∙ ap (λ b. b.items) (sym c.index-buffers-slot.is) ∙ sym c.as_slice.ensures.value) in
    sym (length-take-le c.size-count.result c.as_slice.result.now (omega (arith, c.size-count.ensures.value, most, long)))
