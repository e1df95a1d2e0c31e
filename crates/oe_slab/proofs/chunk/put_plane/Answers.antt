use Rattle.std.proofs.Common.{◌≡◌, ◌<◌, ◌≤◌, ◌∙◌, ℕ, length, get_or, set, take, sym, ap, subst, arith}
use Rattle.std.proofs.lemmas.List.{length-take-le}
use Rattle.std.specs.Prelude.{Contains}
use Rattle.std.specs.Vec.{with_items}
use Rattle.std.proofs.lemmas.Grind.{common_steps}
use Rattle.oe_plan.specs.Schedules.{ScheduleOf, node_at}
use Rattle.oe_steps.proofs.BufferLemmas.{at_items, length-lists}
use Rattle.oe_steps.proofs.StepLoadLemmas.{sizes_stay, slot_written}
use Rattle.oe_steps.specs.Buffers.{buffer_at, lists_of}
use Rattle.oe_window.specs.Windows.{position_count}
use Rattle.oe_window.specs.declared.window.Window.{Window}
use Rattle.oe_slab.specs.Folds.{AreNoMedians, HaveRoom, Settles}
use Rattle.oe_slab.proofs.BehindLemmas.{fold_in_behind}
use Rattle.oe_slab.proofs.PutLemmas.{no_median, put_cells, put_kinds}
use Rattle.oe_slab.proofs.chunk.put_plane.Goals as goal

pub step_in-requires : goal.step_in-requires
step_in-requires c =
    let p = c.args.plan.now in
    subst (λ (s : ScheduleOf). Contains s.order.steps c.fold.result) (sym c.behind-2.ensures.value)
    (subst (λ (n : ℕ). Contains p.behind.order.steps n) (sym c.fold.ensures) (fold_in_behind p c.behind.ensures.valid))

pub settle_front-requires-clause-few : goal.settle_front-requires-clause-few
settle_front-requires-clause-few c =
    let p = c.args.plan.now in
    let is = c.behind.ensures.valid in
    let plane = c.args.plane.now in
    let n = position_count plane in
    let slot = c.slot-slot.result in
    let at = c.step_in.result in
    let within : at < length p.behind.order.steps = subst (λ (s : ScheduleOf). at < length s.order.steps) c.behind-2.ensures.value c.step_in.ensures.within in
    let at_is : node_at p.behind at ≡ p.fold = subst (λ (s : ScheduleOf). node_at s at ≡ p.fold) c.behind-2.ensures.value (c.step_in.ensures.is ∙ c.fold.ensures) in
    let below : slot < p.behind.order.width = subst (λ (s : ScheduleOf). slot < s.order.width) c.behind.ensures.value c.slot-slot.ensures.below in
    let few : n ≤ p.behind.largest = subst (λ (w : Window). position_count w ≤ p.behind.largest) (c.requires.plane at within at_is) (c.requires.windows.few at within) in
    let buffers = c.args.buffers.now in
    let inside : slot < length buffers = omega (arith, below, c.requires.room.as_many, length-lists buffers) in
    let v = get_or buffers slot c.index-buffers-slot.result in
    let at_v = at_items buffers slot c.index-buffers-slot.result inside in
    let size = c.requires.room.each slot below in
    omega (arith, few, size, ap length at_v, ap length c.as_mut_slice-buffer.ensures.value, c.size-count.ensures.value)

pub settle_front-requires-clause-room : goal.settle_front-requires-clause-room
settle_front-requires-clause-room c =
    subst (λ (k : ℕ). HaveRoom (take k c.args.folds.now) 0) (sym c.size-count.ensures.value) c.requires.kind.room

pub settle_front-requires-clause-other : goal.settle_front-requires-clause-other
settle_front-requires-clause-other c =
    subst (λ (k : ℕ). AreNoMedians (take k c.args.folds.now)) (sym c.size-count.ensures.value)
    (no_median c.args.plan.now c.behind.ensures.valid (take (position_count c.args.plane.now) c.args.folds.now) c.requires.kind)

pub returns-clause-room : goal.returns-clause-room
returns-clause-room c =
    let p = c.args.plan.now in
    let is = c.behind.ensures.valid in
    let plane = c.args.plane.now in
    let n = position_count plane in
    let slot = c.slot-slot.result in
    let at = c.step_in.result in
    let within : at < length p.behind.order.steps = subst (λ (s : ScheduleOf). at < length s.order.steps) c.behind-2.ensures.value c.step_in.ensures.within in
    let at_is : node_at p.behind at ≡ p.fold = subst (λ (s : ScheduleOf). node_at s at ≡ p.fold) c.behind-2.ensures.value (c.step_in.ensures.is ∙ c.fold.ensures) in
    let below : slot < p.behind.order.width = subst (λ (s : ScheduleOf). slot < s.order.width) c.behind.ensures.value c.slot-slot.ensures.below in
    let few : n ≤ p.behind.largest = subst (λ (w : Window). position_count w ≤ p.behind.largest) (c.requires.plane at within at_is) (c.requires.windows.few at within) in
    let buffers = c.args.buffers.now in
    let inside : slot < length buffers = omega (arith, below, c.requires.room.as_many, length-lists buffers) in
    let v = get_or buffers slot c.index-buffers-slot.result in
    let at_v = at_items buffers slot c.index-buffers-slot.result inside in
    let size = c.requires.room.each slot below in
    let out = c.settle_front.new.buffer in
    let long : length out ≡ length v.items = omega (arith, c.settle_front.auto.buffer, ap length c.as_mut_slice-buffer.ensures.value) in
    sizes_stay buffers slot p.behind.order.width p.behind.largest c.requires.room below v out at_v long

pub returns-clause-kinds : goal.returns-clause-kinds
returns-clause-kinds c =
    let p = c.args.plan.now in
    let is = c.behind.ensures.valid in
    let plane = c.args.plane.now in
    let n = position_count plane in
    let slot = c.slot-slot.result in
    let at = c.step_in.result in
    let within : at < length p.behind.order.steps = subst (λ (s : ScheduleOf). at < length s.order.steps) c.behind-2.ensures.value c.step_in.ensures.within in
    let at_is : node_at p.behind at ≡ p.fold = subst (λ (s : ScheduleOf). node_at s at ≡ p.fold) c.behind-2.ensures.value (c.step_in.ensures.is ∙ c.fold.ensures) in
    let below : slot < p.behind.order.width = subst (λ (s : ScheduleOf). slot < s.order.width) c.behind.ensures.value c.slot-slot.ensures.below in
    let few : n ≤ p.behind.largest = subst (λ (w : Window). position_count w ≤ p.behind.largest) (c.requires.plane at within at_is) (c.requires.windows.few at within) in
    let buffers = c.args.buffers.now in
    let inside : slot < length buffers = omega (arith, below, c.requires.room.as_many, length-lists buffers) in
    let v = get_or buffers slot c.index-buffers-slot.result in
    let at_v = at_items buffers slot c.index-buffers-slot.result inside in
    let size = c.requires.room.each slot below in
    let out = c.settle_front.new.buffer in
    let long : length out ≡ length v.items = omega (arith, c.settle_front.auto.buffer, ap length c.as_mut_slice-buffer.ensures.value) in
    let new = lists_of (set buffers slot (with_items v out)) in
    let written = slot_written buffers slot p.behind.order.width p.behind.largest c.requires.room below v out at_v long in
    let slot_is : slot ≡ get_or p.behind.order.slots at 0 = subst (λ (s : ScheduleOf). slot ≡ get_or s.order.slots at 0) c.behind.ensures.value c.slot-slot.ensures.value in
    let there : take n (buffer_at new (get_or p.behind.order.slots at 0)) ≡ take n out = ap (take n) (ap (buffer_at new) (sym slot_is) ∙ written) in
    let most : n ≤ length out = omega (arith, few, size, long, ap length at_v) in
    let settles : Settles (take n c.args.folds.now) (take n out) =
    subst (λ (k : ℕ). Settles (take k c.args.folds.now) (take k out)) c.size-count.ensures.value c.settle_front.ensures in
    put_kinds p is c.args.windows.now c.requires.windows plane c.requires.plane new at within at_is (take n out) (length-take-le n out most) there
    (take n c.args.folds.now) (length-take-le n c.args.folds.now c.requires.folds) settles c.requires.kind

pub returns-clause-value : goal.returns-clause-value
returns-clause-value c = λ collections of all.
    let p = c.args.plan.now in
    let is = c.behind.ensures.valid in
    let plane = c.args.plane.now in
    let n = position_count plane in
    let slot = c.slot-slot.result in
    let at = c.step_in.result in
    let within : at < length p.behind.order.steps = subst (λ (s : ScheduleOf). at < length s.order.steps) c.behind-2.ensures.value c.step_in.ensures.within in
    let at_is : node_at p.behind at ≡ p.fold = subst (λ (s : ScheduleOf). node_at s at ≡ p.fold) c.behind-2.ensures.value (c.step_in.ensures.is ∙ c.fold.ensures) in
    let below : slot < p.behind.order.width = subst (λ (s : ScheduleOf). slot < s.order.width) c.behind.ensures.value c.slot-slot.ensures.below in
    let few : n ≤ p.behind.largest = subst (λ (w : Window). position_count w ≤ p.behind.largest) (c.requires.plane at within at_is) (c.requires.windows.few at within) in
    let buffers = c.args.buffers.now in
    let inside : slot < length buffers = omega (arith, below, c.requires.room.as_many, length-lists buffers) in
    let v = get_or buffers slot c.index-buffers-slot.result in
    let at_v = at_items buffers slot c.index-buffers-slot.result inside in
    let size = c.requires.room.each slot below in
    let out = c.settle_front.new.buffer in
    let long : length out ≡ length v.items = omega (arith, c.settle_front.auto.buffer, ap length c.as_mut_slice-buffer.ensures.value) in
    let new = lists_of (set buffers slot (with_items v out)) in
    let written = slot_written buffers slot p.behind.order.width p.behind.largest c.requires.room below v out at_v long in
    let slot_is : slot ≡ get_or p.behind.order.slots at 0 = subst (λ (s : ScheduleOf). slot ≡ get_or s.order.slots at 0) c.behind.ensures.value c.slot-slot.ensures.value in
    let there : take n (buffer_at new (get_or p.behind.order.slots at 0)) ≡ take n out = ap (take n) (ap (buffer_at new) (sym slot_is) ∙ written) in
    let most : n ≤ length out = omega (arith, few, size, long, ap length at_v) in
    let settles : Settles (take n c.args.folds.now) (take n out) =
    subst (λ (k : ℕ). Settles (take k c.args.folds.now) (take k out)) c.size-count.ensures.value c.settle_front.ensures in
    put_cells p is c.args.windows.now c.requires.windows plane c.requires.plane new at within at_is (take n out) (length-take-le n out most) there
    (take n c.args.folds.now) (length-take-le n c.args.folds.now c.requires.folds) settles collections of all

pub bounds-buffers-slot : goal.bounds-buffers-slot
bounds-buffers-slot c = grind (arith, common_steps) steps 2000000
