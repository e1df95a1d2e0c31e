use Rattle.std.proofs.Common.{◌≡◌, ◌<◌, ◌≤◌, ◌+◌, ◌-◌, ◌*◌, ◌++◌, length, get_or, set, take, drop, sym, ap, ◌∙◌, subst, arith}
use Rattle.std.specs.List.{slice_range}
use Rattle.std.specs.Vec.{with_items}
use Rattle.oe_plan.specs.Schedules.{node_at}
use Rattle.oe_plan.specs.Windows.{window_at}
use Rattle.oe_window.specs.Windows.{span_length}
use Rattle.oe_steps.proofs.BufferLemmas.{at_items, length-lists}
use Rattle.oe_steps.proofs.RowLemmas.{before_stay, part_loaded, row_loaded}
use Rattle.oe_steps.proofs.ScheduleLemmas.{few, few_cells, step_of_windows}
use Rattle.oe_steps.proofs.StepLoadLemmas.{set_other, sizes_stay, slot_written}
use Rattle.oe_steps.proofs.StripLemmas.{part_length, row_within, rows_same}
use Rattle.oe_steps.specs.Buffers.{buffer_at, lists_of}
use Rattle.oe_steps.specs.Loads.{HasLoadedTo}
use Rattle.oe_steps.proofs.strips.take_part.Goals as goal

pub bounds-windows-step : goal.bounds-windows-step
bounds-windows-step c =
    omega (arith, step_of_windows c.args.checked.now c.args.schedule.now c.requires.schedule c.args.windows.now c.requires.windows, c.requires.step)

pub overflow_mul-number : goal.overflow_mul-number
overflow_mul-number c =
    let graph = c.args.checked.now in
    let schedule = c.args.schedule.now in
    let is = c.requires.schedule in
    let window = window_at c.args.windows.now c.args.step in
    let within = row_within c.args.hull.now window c.requires.strip c.args.number c.requires.number in
    let some = few graph schedule is c.args.windows.now c.requires.windows c.args.step c.requires.step in
    omega (arith, within, some, few_cells graph schedule is)

pub write_at-requires : goal.write_at-requires
write_at-requires c =
    let graph = c.args.checked.now in
    let schedule = c.args.schedule.now in
    let is = c.requires.schedule in
    let window = window_at c.args.windows.now c.args.step in
    let within = row_within c.args.hull.now window c.requires.strip c.args.number c.requires.number in
    let some = few graph schedule is c.args.windows.now c.requires.windows c.args.step c.requires.step in
    let slot = c.slot-slot.result in
    let buffers = c.args.buffers.now in
    let at = ap length (at_items buffers slot c.index-buffers-slot.result (omega (arith, c.slot-slot.ensures.below, c.requires.room.as_many, length-lists buffers))) in
    let size = c.requires.room.each slot c.slot-slot.ensures.below in
    let long = part_length c.args.hull.now window c.requires.strip c.args.row.now c.requires.row in
    omega (arith, within, some, at, size, long, ap length c.as_mut_slice-buffer.ensures.value)

pub returns-clause-room : goal.returns-clause-room
returns-clause-room c =
    let graph = c.args.checked.now in
    let schedule = c.args.schedule.now in
    let slot = c.slot-slot.result in
    let buffers = c.args.buffers.now in
    let v = get_or buffers slot c.index-buffers-slot.result in
    let out = c.write_at.new.buffer in
    let inside : slot < length buffers = omega (arith, c.slot-slot.ensures.below, c.requires.room.as_many, length-lists buffers) in
    let at = at_items buffers slot c.index-buffers-slot.result inside in
    let long : length out ≡ length v.items = omega (arith, c.write_at.auto.buffer, ap length c.as_mut_slice-buffer.ensures.value) in
    sizes_stay buffers slot schedule.order.width (schedule.largest) c.requires.room c.slot-slot.ensures.below v out at long

pub returns-clause-others : goal.returns-clause-others
returns-clause-others c = λ slot other.
    let buffers = c.args.buffers.now in
    let v = get_or buffers c.slot-slot.result c.index-buffers-slot.result in
    set_other buffers c.slot-slot.result (with_items v c.write_at.new.buffer) slot (λ e. other (e ∙ c.slot-slot.ensures.value))

pub returns-clause-loaded : goal.returns-clause-loaded
returns-clause-loaded c = λ rows loaded have.
    let graph = c.args.checked.now in
    let schedule = c.args.schedule.now in
    let is = c.requires.schedule in
    let step = c.args.step in
    let node = node_at schedule step in
    let n = c.args.number in
    let hull = c.args.hull.now in
    let windows = c.args.windows.now in
    let window = window_at windows step in
    let width = span_length window.x in
    let start = window.x.from - hull.x.from in
    let strip = c.requires.strip in
    let slot = c.slot-slot.result in
    let buffers = c.args.buffers.now in
    let v = get_or buffers slot c.index-buffers-slot.result in
    let old = c.as_mut_slice-buffer.result.now in
    let out = c.write_at.new.buffer in
    let inside : slot < length buffers = omega (arith, c.slot-slot.ensures.below, c.requires.room.as_many, length-lists buffers) in
    let at = at_items buffers slot c.index-buffers-slot.result inside in
    let same = c.as_mut_slice-buffer.ensures.value in
    let long : length out ≡ length v.items = omega (arith, c.write_at.auto.buffer, ap length same) in
    let is_slot = c.slot-slot.ensures.value in
    let written = slot_written buffers slot schedule.order.width (schedule.largest) c.requires.room c.slot-slot.ensures.below v out at long in
    let new = lists_of (set buffers slot (with_items v out)) in
    let piece = slice_range c.args.row.now start (start + width) in
    let rest = drop (n * width + length piece) old in
    let within = row_within hull window strip n c.requires.number in
    let some = few graph schedule is windows c.requires.windows step c.requires.step in
    let size = c.requires.room.each slot c.slot-slot.ensures.below in
    let le : n * width ≤ length old = omega (arith, within, some, size, ap length at, ap length same) in
    let was : HasLoadedTo graph rows node window (n * width) old =
    subst (HasLoadedTo graph rows node window (n * width)) (ap (buffer_at (lists_of buffers)) (sym is_slot) ∙ (at ∙ sym same)) have.loaded in
    let more : HasLoadedTo graph rows node window ((n + 1) * width) (take (n * width) old ++ (piece ++ rest)) =
    row_loaded graph rows node window n (subst (λ m. n < m) (sym (rows_same hull window strip)) c.requires.number) old piece rest le
    (part_length hull window strip c.args.row.now c.requires.row) was (part_loaded graph rows node hull window strip n c.args.row.now loaded) in
    record {
      before = before_stay graph schedule is rows windows step c.requires.step (lists_of buffers) new
          (λ k other. set_other buffers slot (with_items v out) k (λ e. other (e ∙ is_slot))) have.before;
      loaded = subst (HasLoadedTo graph rows node window ((n + 1) * width))
          (sym (ap (buffer_at new) (sym is_slot) ∙ (written ∙ c.write_at.ensures))) more;
    }
