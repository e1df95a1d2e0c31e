use Rattle.std.proofs.Common.{◌≡◌, ◌<◌, length, get_or, set, take, refl, sym, ap, ◌∙◌, subst, arith}
use Rattle.std.specs.Vec.{with_items}
use Rattle.oe_plan.specs.Schedules.{node_at}
use Rattle.oe_plan.specs.Windows.{window_at}
use Rattle.oe_sources.specs.CatalogueRows.{rows_of}
use Rattle.oe_window.specs.Windows.{position_count}
use Rattle.oe_steps.proofs.BufferLemmas.{at_items, length-lists}
use Rattle.oe_steps.proofs.EvalLemmas.{inside_at}
use Rattle.oe_steps.proofs.Outcomes.{on_ok}
use Rattle.oe_steps.proofs.ScheduleLemmas.{few, few_positions, step_of_windows}
use Rattle.oe_steps.proofs.StepLoadLemmas.{loaded_before, next_loaded, set_other, sizes_stay, slot_written}
use Rattle.oe_steps.specs.Buffers.{buffer_at, lists_of}
use Rattle.oe_steps.specs.Loads.{AreLoaded}
use Rattle.oe_steps.proofs.loading.look_slot.Goals as goal

pub bounds-windows-step : goal.bounds-windows-step
bounds-windows-step g c =
    omega (arith, step_of_windows c.args.checked.now c.args.schedule.now c.requires.ready.scheduled c.args.windows.now c.requires.ready.windows_fit, c.requires.load.step_in)

pub bounds-buffers-slot : goal.bounds-buffers-slot
bounds-buffers-slot g c =
    omega (arith, c.slot-slot.ensures.below, c.requires.ready.room.as_many, length-lists c.args.buffers.now)

pub look_step-requires-clause-window : goal.look_step-requires-clause-window
look_step-requires-clause-window g c =
    let graph = c.args.checked.now in
    let schedule = c.args.schedule.now in
    let windows = c.args.windows.now in
    record {
      load = c.requires.load;
      within = inside_at graph schedule c.requires.ready.scheduled windows c.requires.ready.windows_fit c.args.step _
          (window_at windows c.args.step) c.requires.load.step_in refl refl;
      few = few_positions graph schedule c.requires.ready.scheduled windows c.requires.ready.windows_fit c.args.step c.requires.load.step_in;
    }

pub look_step-requires-clause-asked : goal.look_step-requires-clause-asked
look_step-requires-clause-asked g c = c.requires.asked

pub look_step-requires-clause-room : goal.look_step-requires-clause-room
look_step-requires-clause-room g c =
    let graph = c.args.checked.now in
    let schedule = c.args.schedule.now in
    let slot = c.slot-slot.result in
    let buffers = c.args.buffers.now in
    let at = ap length (at_items buffers slot c.index-buffers-slot.result (omega (arith, c.slot-slot.ensures.below, c.requires.ready.room.as_many, length-lists buffers))) in
    let size = c.requires.ready.room.each slot c.slot-slot.ensures.below in
    let some = few graph schedule c.requires.ready.scheduled c.args.windows.now c.requires.ready.windows_fit c.args.step c.requires.load.step_in in
    omega (arith, at, size, some, ap length c.as_mut_slice-buffer.ensures.value)

pub returns-clause-room : goal.returns-clause-room
returns-clause-room g c =
    let graph = c.args.checked.now in
    let schedule = c.args.schedule.now in
    let slot = c.slot-slot.result in
    let buffers = c.args.buffers.now in
    let v = get_or buffers slot c.index-buffers-slot.result in
    let out = c.look_step.new.buffer in
    let inside : slot < length buffers = omega (arith, c.slot-slot.ensures.below, c.requires.ready.room.as_many, length-lists buffers) in
    let at = at_items buffers slot c.index-buffers-slot.result inside in
    let long : length out ≡ length v.items = omega (arith, c.look_step.auto.buffer, ap length c.as_mut_slice-buffer.ensures.value) in
    sizes_stay buffers slot schedule.order.width (schedule.largest) c.requires.ready.room c.slot-slot.ensures.below v out at long

pub returns-clause-loaded : goal.returns-clause-loaded
returns-clause-loaded g c = λ rows read before.
    let graph = c.args.checked.now in
    let schedule = c.args.schedule.now in
    let is = c.requires.ready.scheduled in
    let step = c.args.step in
    let windows = c.args.windows.now in
    let now = rows_of (λ z. (goal.SharedSource-dyn g z).CubeSource.seen z.1) c.args.catalogue.now in
    let largest = schedule.largest in
    let count = position_count (window_at windows step) in
    let slot = c.slot-slot.result in
    let buffers = c.args.buffers.now in
    let v = get_or buffers slot c.index-buffers-slot.result in
    let out = c.look_step.new.buffer in
    let inside : slot < length buffers = omega (arith, c.slot-slot.ensures.below, c.requires.ready.room.as_many, length-lists buffers) in
    let at = at_items buffers slot c.index-buffers-slot.result inside in
    let long : length out ≡ length v.items = omega (arith, c.look_step.auto.buffer, ap length c.as_mut_slice-buffer.ensures.value) in
    let is_slot = c.slot-slot.ensures.value in
    let written = slot_written buffers slot schedule.order.width largest c.requires.ready.room c.slot-slot.ensures.below v out at long in
    let new = lists_of (set buffers slot (with_items v out)) in
    on_ok _ _ c.look_step.result
    (λ loaded.
    next_loaded graph schedule is rows windows (lists_of buffers) new step c.requires.load.step_in
    (λ k other. set_other buffers slot (with_items v out) k (λ e. other (e ∙ is_slot)))
    before
    (subst (AreLoaded graph rows (node_at schedule step) (window_at windows step))
    (sym (ap (take count) (ap (buffer_at new) (sym is_slot) ∙ written)))
    (loaded_before graph rows now (node_at schedule step) (window_at windows step) (take count out) read loaded)))
    c.look_step.ensures.loaded

pub returns-clause-others : goal.returns-clause-others
returns-clause-others g c = λ slot other.
    let buffers = c.args.buffers.now in
    let v = get_or buffers c.slot-slot.result c.index-buffers-slot.result in
    set_other buffers c.slot-slot.result (with_items v c.look_step.new.buffer) slot (λ e. other (e ∙ c.slot-slot.ensures.value))

pub returns-clause-spent : goal.returns-clause-spent
returns-clause-spent g c = c.look_step.ensures.spent
