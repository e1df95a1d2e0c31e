use Rattle.std.proofs.Common.{◌≡◌, ◌≢◌, ◌<◌, ◌++◌, ◌∙◌, sym, ap, subst, arith, length, take, get_or}
use Rattle.std.specs.List.{All}
use Rattle.std.proofs.lemmas.Grind.{common_steps}
use Rattle.oe_cube.specs.Kinds.{IsOfKind}
use Rattle.oe_plan.specs.Windows.{window_at}
use Rattle.oe_window.specs.Windows.{position_count}
use Rattle.oe_steps.proofs.BufferLemmas.{AreParts, beside_long, others_stay, own_after, own_items, part_beside, part_own, size_after}
use Rattle.oe_steps.proofs.ScheduleLemmas.{few, few_positions, is_input, second_takes, slot_below, step_of_windows, taken_apart}
use Rattle.oe_steps.specs.Buffers.{buffer_at, lists_of}
use Rattle.oe_steps.specs.Steps.{buffer_cells_at, cell_kind_at}
use Rattle.oe_steps.proofs.step.evaluate_step.Goals as goal

pub front_beside-one-requires-clause-other : goal.front_beside-one-requires-clause-other
front_beside-one-requires-clause-other c =
    let graph = c.args.checked.now in
    let schedule = c.args.schedule.now in
    let is = c.requires.ready.scheduled in
    let step = c.args.step in
    let buffers = c.args.buffers.now in
    let before = c.split_at_mut-before.result.0.now in
    let own = c.split_at_mut-own.result.0.now in
    let after = c.split_at_mut-own.result.1.now in
    let slot = c.slot.result in
    let parts : AreParts buffers before own after slot = record {
      whole = c.split_at_mut-before.ensures.value ∙ ap (λ r. before ++ r) c.split_at_mut-own.ensures.value;
      front = c.split_at_mut-before.ensures.front_len;
      one = c.split_at_mut-own.ensures.front_len;
    } in
    let a = c.inputs_of-first.result.0 in
    let b = c.inputs_of-first.result.1 in
    let takes = c.inputs_of-first.ensures.first_taken in
    let second = second_takes graph schedule is step c.requires.step c.requires.works a b c.inputs_of-first.ensures in
    let a_in : a < length schedule.order.steps = omega (arith, takes.earlier, c.requires.step) in
    let b_in : b < length schedule.order.steps = omega (arith, second.1.earlier, c.requires.step) in
    let a_slot = get_or schedule.order.slots a 0 in
    let b_slot = get_or schedule.order.slots b 0 in
    let a_other : a_slot ≢ slot = λ e. taken_apart graph schedule is step c.requires.step c.requires.works 0 a takes (e ∙ c.slot.ensures.value) in
    let b_other : b_slot ≢ slot = λ e. taken_apart graph schedule is step c.requires.step c.requires.works second.0 b second.1 (e ∙ c.slot.ensures.value) in
    λ e. a_other (e ∙ c.split_at_mut-before.ensures.front_len)

pub front_beside-two-requires-clause-other : goal.front_beside-two-requires-clause-other
front_beside-two-requires-clause-other c =
    let graph = c.args.checked.now in
    let schedule = c.args.schedule.now in
    let is = c.requires.ready.scheduled in
    let step = c.args.step in
    let buffers = c.args.buffers.now in
    let before = c.split_at_mut-before.result.0.now in
    let own = c.split_at_mut-own.result.0.now in
    let after = c.split_at_mut-own.result.1.now in
    let slot = c.slot.result in
    let parts : AreParts buffers before own after slot = record {
      whole = c.split_at_mut-before.ensures.value ∙ ap (λ r. before ++ r) c.split_at_mut-own.ensures.value;
      front = c.split_at_mut-before.ensures.front_len;
      one = c.split_at_mut-own.ensures.front_len;
    } in
    let a = c.inputs_of-first.result.0 in
    let b = c.inputs_of-first.result.1 in
    let takes = c.inputs_of-first.ensures.first_taken in
    let second = second_takes graph schedule is step c.requires.step c.requires.works a b c.inputs_of-first.ensures in
    let a_in : a < length schedule.order.steps = omega (arith, takes.earlier, c.requires.step) in
    let b_in : b < length schedule.order.steps = omega (arith, second.1.earlier, c.requires.step) in
    let a_slot = get_or schedule.order.slots a 0 in
    let b_slot = get_or schedule.order.slots b 0 in
    let a_other : a_slot ≢ slot = λ e. taken_apart graph schedule is step c.requires.step c.requires.works 0 a takes (e ∙ c.slot.ensures.value) in
    let b_other : b_slot ≢ slot = λ e. taken_apart graph schedule is step c.requires.step c.requires.works second.0 b second.1 (e ∙ c.slot.ensures.value) in
    λ e. b_other (e ∙ c.split_at_mut-before.ensures.front_len)

pub front_beside-one-requires-clause-room : goal.front_beside-one-requires-clause-room
front_beside-one-requires-clause-room c =
    let graph = c.args.checked.now in
    let schedule = c.args.schedule.now in
    let is = c.requires.ready.scheduled in
    let step = c.args.step in
    let buffers = c.args.buffers.now in
    let before = c.split_at_mut-before.result.0.now in
    let own = c.split_at_mut-own.result.0.now in
    let after = c.split_at_mut-own.result.1.now in
    let slot = c.slot.result in
    let parts : AreParts buffers before own after slot = record {
      whole = c.split_at_mut-before.ensures.value ∙ ap (λ r. before ++ r) c.split_at_mut-own.ensures.value;
      front = c.split_at_mut-before.ensures.front_len;
      one = c.split_at_mut-own.ensures.front_len;
    } in
    let a = c.inputs_of-first.result.0 in
    let b = c.inputs_of-first.result.1 in
    let takes = c.inputs_of-first.ensures.first_taken in
    let second = second_takes graph schedule is step c.requires.step c.requires.works a b c.inputs_of-first.ensures in
    let a_in : a < length schedule.order.steps = omega (arith, takes.earlier, c.requires.step) in
    let b_in : b < length schedule.order.steps = omega (arith, second.1.earlier, c.requires.step) in
    let a_slot = get_or schedule.order.slots a 0 in
    let b_slot = get_or schedule.order.slots b 0 in
    let a_other : a_slot ≢ slot = λ e. taken_apart graph schedule is step c.requires.step c.requires.works 0 a takes (e ∙ c.slot.ensures.value) in
    let b_other : b_slot ≢ slot = λ e. taken_apart graph schedule is step c.requires.step c.requires.works second.0 b second.1 (e ∙ c.slot.ensures.value) in
    beside_long buffers before own after slot schedule.order.width _ parts c.requires.ready.room a_slot (slot_below graph schedule is a a_in) a_other

pub front_beside-two-requires-clause-room : goal.front_beside-two-requires-clause-room
front_beside-two-requires-clause-room c =
    let graph = c.args.checked.now in
    let schedule = c.args.schedule.now in
    let is = c.requires.ready.scheduled in
    let step = c.args.step in
    let buffers = c.args.buffers.now in
    let before = c.split_at_mut-before.result.0.now in
    let own = c.split_at_mut-own.result.0.now in
    let after = c.split_at_mut-own.result.1.now in
    let slot = c.slot.result in
    let parts : AreParts buffers before own after slot = record {
      whole = c.split_at_mut-before.ensures.value ∙ ap (λ r. before ++ r) c.split_at_mut-own.ensures.value;
      front = c.split_at_mut-before.ensures.front_len;
      one = c.split_at_mut-own.ensures.front_len;
    } in
    let a = c.inputs_of-first.result.0 in
    let b = c.inputs_of-first.result.1 in
    let takes = c.inputs_of-first.ensures.first_taken in
    let second = second_takes graph schedule is step c.requires.step c.requires.works a b c.inputs_of-first.ensures in
    let a_in : a < length schedule.order.steps = omega (arith, takes.earlier, c.requires.step) in
    let b_in : b < length schedule.order.steps = omega (arith, second.1.earlier, c.requires.step) in
    let a_slot = get_or schedule.order.slots a 0 in
    let b_slot = get_or schedule.order.slots b 0 in
    let a_other : a_slot ≢ slot = λ e. taken_apart graph schedule is step c.requires.step c.requires.works 0 a takes (e ∙ c.slot.ensures.value) in
    let b_other : b_slot ≢ slot = λ e. taken_apart graph schedule is step c.requires.step c.requires.works second.0 b second.1 (e ∙ c.slot.ensures.value) in
    beside_long buffers before own after slot schedule.order.width _ parts c.requires.ready.room b_slot (slot_below graph schedule is b b_in) b_other

pub evaluate_into-requires-clause-works : goal.evaluate_into-requires-clause-works
evaluate_into-requires-clause-works c =
    let graph = c.args.checked.now in
    let schedule = c.args.schedule.now in
    let is = c.requires.ready.scheduled in
    let step = c.args.step in
    let buffers = c.args.buffers.now in
    let before = c.split_at_mut-before.result.0.now in
    let own = c.split_at_mut-own.result.0.now in
    let after = c.split_at_mut-own.result.1.now in
    let slot = c.slot.result in
    let parts : AreParts buffers before own after slot = record {
      whole = c.split_at_mut-before.ensures.value ∙ ap (λ r. before ++ r) c.split_at_mut-own.ensures.value;
      front = c.split_at_mut-before.ensures.front_len;
      one = c.split_at_mut-own.ensures.front_len;
    } in
    let a = c.inputs_of-first.result.0 in
    let b = c.inputs_of-first.result.1 in
    let takes = c.inputs_of-first.ensures.first_taken in
    let second = second_takes graph schedule is step c.requires.step c.requires.works a b c.inputs_of-first.ensures in
    let a_in : a < length schedule.order.steps = omega (arith, takes.earlier, c.requires.step) in
    let b_in : b < length schedule.order.steps = omega (arith, second.1.earlier, c.requires.step) in
    let a_slot = get_or schedule.order.slots a 0 in
    let b_slot = get_or schedule.order.slots b 0 in
    let a_other : a_slot ≢ slot = λ e. taken_apart graph schedule is step c.requires.step c.requires.works 0 a takes (e ∙ c.slot.ensures.value) in
    let b_other : b_slot ≢ slot = λ e. taken_apart graph schedule is step c.requires.step c.requires.works second.0 b second.1 (e ∙ c.slot.ensures.value) in
    let n = position_count (window_at c.args.windows.now a) in
    let is_one : c.front_beside-one.result.now ≡ buffer_cells_at schedule c.args.windows.now (lists_of buffers) a =
    c.front_beside-one.ensures ∙ ap (take n) (part_beside buffers before own after slot parts a_slot a_other) in
    let m = position_count (window_at c.args.windows.now b) in
    let is_two : c.front_beside-two.result.now ≡ buffer_cells_at schedule c.args.windows.now (lists_of buffers) b =
    c.front_beside-two.ensures ∙ ap (take m) (part_beside buffers before own after slot parts b_slot b_other) in
    record {
      scheduled = is;
      step_in = c.requires.step;
      computes = c.requires.works;
      windows_fit = c.requires.ready.windows_fit;
      arguments = c.inputs_of-first.ensures;
      first_input = is_input graph schedule is c.args.windows.now c.requires.ready.windows_fit (lists_of buffers) c.requires.ready.room a a_in c.front_beside-one.result.now is_one (c.requires.kinds 0 a takes);
      second_input = is_input graph schedule is c.args.windows.now c.requires.ready.windows_fit (lists_of buffers) c.requires.ready.room b b_in c.front_beside-two.result.now is_two (c.requires.kinds second.0 b second.1);
    }

pub evaluate_into-requires-clause-few : goal.evaluate_into-requires-clause-few
evaluate_into-requires-clause-few c =
    few_positions c.args.checked.now c.args.schedule.now c.requires.ready.scheduled c.args.windows.now c.requires.ready.windows_fit c.args.step c.requires.step

pub evaluate_into-requires-clause-within : goal.evaluate_into-requires-clause-within
evaluate_into-requires-clause-within c =
    omega (arith, step_of_windows c.args.checked.now c.args.schedule.now c.requires.ready.scheduled c.args.windows.now c.requires.ready.windows_fit, c.requires.step)

pub evaluate_into-requires-clause-room : goal.evaluate_into-requires-clause-room
evaluate_into-requires-clause-room c =
    let graph = c.args.checked.now in
    let schedule = c.args.schedule.now in
    let is = c.requires.ready.scheduled in
    let step = c.args.step in
    let buffers = c.args.buffers.now in
    let before = c.split_at_mut-before.result.0.now in
    let own = c.split_at_mut-own.result.0.now in
    let after = c.split_at_mut-own.result.1.now in
    let slot = c.slot.result in
    let parts : AreParts buffers before own after slot = record {
      whole = c.split_at_mut-before.ensures.value ∙ ap (λ r. before ++ r) c.split_at_mut-own.ensures.value;
      front = c.split_at_mut-before.ensures.front_len;
      one = c.split_at_mut-own.ensures.front_len;
    } in
    let a = c.inputs_of-first.result.0 in
    let b = c.inputs_of-first.result.1 in
    let takes = c.inputs_of-first.ensures.first_taken in
    let second = second_takes graph schedule is step c.requires.step c.requires.works a b c.inputs_of-first.ensures in
    let a_in : a < length schedule.order.steps = omega (arith, takes.earlier, c.requires.step) in
    let b_in : b < length schedule.order.steps = omega (arith, second.1.earlier, c.requires.step) in
    let a_slot = get_or schedule.order.slots a 0 in
    let b_slot = get_or schedule.order.slots b 0 in
    let a_other : a_slot ≢ slot = λ e. taken_apart graph schedule is step c.requires.step c.requires.works 0 a takes (e ∙ c.slot.ensures.value) in
    let b_other : b_slot ≢ slot = λ e. taken_apart graph schedule is step c.requires.step c.requires.works second.0 b second.1 (e ∙ c.slot.ensures.value) in
    let held = ap length (part_own buffers before own after slot parts ∙ own_items own c.index-own-0.result c.split_at_mut-own.ensures.front_len ∙ sym c.as_mut_slice-buffer.ensures.value) in
    let some = few graph schedule is c.args.windows.now c.requires.ready.windows_fit step c.requires.step in
    let size = c.requires.ready.room.each slot c.slot.ensures.below in
    omega (arith, held, some, size)

pub returns-clause-room : goal.returns-clause-room
returns-clause-room c =
    let graph = c.args.checked.now in
    let schedule = c.args.schedule.now in
    let is = c.requires.ready.scheduled in
    let step = c.args.step in
    let buffers = c.args.buffers.now in
    let before = c.split_at_mut-before.result.0.now in
    let own = c.split_at_mut-own.result.0.now in
    let after = c.split_at_mut-own.result.1.now in
    let slot = c.slot.result in
    let parts : AreParts buffers before own after slot = record {
      whole = c.split_at_mut-before.ensures.value ∙ ap (λ r. before ++ r) c.split_at_mut-own.ensures.value;
      front = c.split_at_mut-before.ensures.front_len;
      one = c.split_at_mut-own.ensures.front_len;
    } in
    let a = c.inputs_of-first.result.0 in
    let b = c.inputs_of-first.result.1 in
    let takes = c.inputs_of-first.ensures.first_taken in
    let second = second_takes graph schedule is step c.requires.step c.requires.works a b c.inputs_of-first.ensures in
    let a_in : a < length schedule.order.steps = omega (arith, takes.earlier, c.requires.step) in
    let b_in : b < length schedule.order.steps = omega (arith, second.1.earlier, c.requires.step) in
    let a_slot = get_or schedule.order.slots a 0 in
    let b_slot = get_or schedule.order.slots b 0 in
    let a_other : a_slot ≢ slot = λ e. taken_apart graph schedule is step c.requires.step c.requires.works 0 a takes (e ∙ c.slot.ensures.value) in
    let b_other : b_slot ≢ slot = λ e. taken_apart graph schedule is step c.requires.step c.requires.works second.0 b second.1 (e ∙ c.slot.ensures.value) in
    let w = get_or own 0 c.index-own-0.result in
    let out = c.evaluate_into.new.buffer in
    let held = ap length (part_own buffers before own after slot parts ∙ own_items own c.index-own-0.result c.split_at_mut-own.ensures.front_len ∙ sym c.as_mut_slice-buffer.ensures.value) in
    let long : length out ≡ length w.items = omega (arith, ap length c.as_mut_slice-buffer.ensures.value) in
    size_after buffers before own after slot schedule.order.width _ parts c.requires.ready.room w out long (omega (arith, held))

pub returns-clause-others : goal.returns-clause-others
returns-clause-others c =
    let graph = c.args.checked.now in
    let schedule = c.args.schedule.now in
    let is = c.requires.ready.scheduled in
    let step = c.args.step in
    let buffers = c.args.buffers.now in
    let before = c.split_at_mut-before.result.0.now in
    let own = c.split_at_mut-own.result.0.now in
    let after = c.split_at_mut-own.result.1.now in
    let slot = c.slot.result in
    let parts : AreParts buffers before own after slot = record {
      whole = c.split_at_mut-before.ensures.value ∙ ap (λ r. before ++ r) c.split_at_mut-own.ensures.value;
      front = c.split_at_mut-before.ensures.front_len;
      one = c.split_at_mut-own.ensures.front_len;
    } in
    let a = c.inputs_of-first.result.0 in
    let b = c.inputs_of-first.result.1 in
    let takes = c.inputs_of-first.ensures.first_taken in
    let second = second_takes graph schedule is step c.requires.step c.requires.works a b c.inputs_of-first.ensures in
    let a_in : a < length schedule.order.steps = omega (arith, takes.earlier, c.requires.step) in
    let b_in : b < length schedule.order.steps = omega (arith, second.1.earlier, c.requires.step) in
    let a_slot = get_or schedule.order.slots a 0 in
    let b_slot = get_or schedule.order.slots b 0 in
    let a_other : a_slot ≢ slot = λ e. taken_apart graph schedule is step c.requires.step c.requires.works 0 a takes (e ∙ c.slot.ensures.value) in
    let b_other : b_slot ≢ slot = λ e. taken_apart graph schedule is step c.requires.step c.requires.works second.0 b second.1 (e ∙ c.slot.ensures.value) in
    let w = get_or own 0 c.index-own-0.result in
    let out = c.evaluate_into.new.buffer in
    let held = ap length (part_own buffers before own after slot parts ∙ own_items own c.index-own-0.result c.split_at_mut-own.ensures.front_len ∙ sym c.as_mut_slice-buffer.ensures.value) in
    let long : length out ≡ length w.items = omega (arith, ap length c.as_mut_slice-buffer.ensures.value) in
    λ k other. others_stay buffers before own after slot parts _ k (λ e. other (e ∙ c.slot.ensures.value))

pub returns-clause-kinds : goal.returns-clause-kinds
returns-clause-kinds c =
    let graph = c.args.checked.now in
    let schedule = c.args.schedule.now in
    let is = c.requires.ready.scheduled in
    let step = c.args.step in
    let buffers = c.args.buffers.now in
    let before = c.split_at_mut-before.result.0.now in
    let own = c.split_at_mut-own.result.0.now in
    let after = c.split_at_mut-own.result.1.now in
    let slot = c.slot.result in
    let parts : AreParts buffers before own after slot = record {
      whole = c.split_at_mut-before.ensures.value ∙ ap (λ r. before ++ r) c.split_at_mut-own.ensures.value;
      front = c.split_at_mut-before.ensures.front_len;
      one = c.split_at_mut-own.ensures.front_len;
    } in
    let a = c.inputs_of-first.result.0 in
    let b = c.inputs_of-first.result.1 in
    let takes = c.inputs_of-first.ensures.first_taken in
    let second = second_takes graph schedule is step c.requires.step c.requires.works a b c.inputs_of-first.ensures in
    let a_in : a < length schedule.order.steps = omega (arith, takes.earlier, c.requires.step) in
    let b_in : b < length schedule.order.steps = omega (arith, second.1.earlier, c.requires.step) in
    let a_slot = get_or schedule.order.slots a 0 in
    let b_slot = get_or schedule.order.slots b 0 in
    let a_other : a_slot ≢ slot = λ e. taken_apart graph schedule is step c.requires.step c.requires.works 0 a takes (e ∙ c.slot.ensures.value) in
    let b_other : b_slot ≢ slot = λ e. taken_apart graph schedule is step c.requires.step c.requires.works second.0 b second.1 (e ∙ c.slot.ensures.value) in
    let w = get_or own 0 c.index-own-0.result in
    let out = c.evaluate_into.new.buffer in
    let held = ap length (part_own buffers before own after slot parts ∙ own_items own c.index-own-0.result c.split_at_mut-own.ensures.front_len ∙ sym c.as_mut_slice-buffer.ensures.value) in
    let long : length out ≡ length w.items = omega (arith, ap length c.as_mut_slice-buffer.ensures.value) in
    let same = ap (take (position_count (window_at c.args.windows.now step))) (ap (buffer_at _) (sym c.slot.ensures.value) ∙ own_after buffers before own after slot parts w out long) in
    subst (All (IsOfKind (cell_kind_at graph schedule step))) (sym same) c.evaluate_into.ensures.kinds

pub returns-clause-value : goal.returns-clause-value
returns-clause-value c =
    λ collections has given.
    let graph = c.args.checked.now in
    let schedule = c.args.schedule.now in
    let is = c.requires.ready.scheduled in
    let step = c.args.step in
    let buffers = c.args.buffers.now in
    let before = c.split_at_mut-before.result.0.now in
    let own = c.split_at_mut-own.result.0.now in
    let after = c.split_at_mut-own.result.1.now in
    let slot = c.slot.result in
    let parts : AreParts buffers before own after slot = record {
      whole = c.split_at_mut-before.ensures.value ∙ ap (λ r. before ++ r) c.split_at_mut-own.ensures.value;
      front = c.split_at_mut-before.ensures.front_len;
      one = c.split_at_mut-own.ensures.front_len;
    } in
    let a = c.inputs_of-first.result.0 in
    let b = c.inputs_of-first.result.1 in
    let takes = c.inputs_of-first.ensures.first_taken in
    let second = second_takes graph schedule is step c.requires.step c.requires.works a b c.inputs_of-first.ensures in
    let a_in : a < length schedule.order.steps = omega (arith, takes.earlier, c.requires.step) in
    let b_in : b < length schedule.order.steps = omega (arith, second.1.earlier, c.requires.step) in
    let a_slot = get_or schedule.order.slots a 0 in
    let b_slot = get_or schedule.order.slots b 0 in
    let a_other : a_slot ≢ slot = λ e. taken_apart graph schedule is step c.requires.step c.requires.works 0 a takes (e ∙ c.slot.ensures.value) in
    let b_other : b_slot ≢ slot = λ e. taken_apart graph schedule is step c.requires.step c.requires.works second.0 b second.1 (e ∙ c.slot.ensures.value) in
    let n = position_count (window_at c.args.windows.now a) in
    let is_one : c.front_beside-one.result.now ≡ buffer_cells_at schedule c.args.windows.now (lists_of buffers) a =
    c.front_beside-one.ensures ∙ ap (take n) (part_beside buffers before own after slot parts a_slot a_other) in
    let m = position_count (window_at c.args.windows.now b) in
    let is_two : c.front_beside-two.result.now ≡ buffer_cells_at schedule c.args.windows.now (lists_of buffers) b =
    c.front_beside-two.ensures ∙ ap (take m) (part_beside buffers before own after slot parts b_slot b_other) in
    let w = get_or own 0 c.index-own-0.result in
    let out = c.evaluate_into.new.buffer in
    let held = ap length (part_own buffers before own after slot parts ∙ own_items own c.index-own-0.result c.split_at_mut-own.ensures.front_len ∙ sym c.as_mut_slice-buffer.ensures.value) in
    let long : length out ≡ length w.items = omega (arith, ap length c.as_mut_slice-buffer.ensures.value) in
    ap (take (position_count (window_at c.args.windows.now step))) (ap (buffer_at _) (sym c.slot.ensures.value) ∙ own_after buffers before own after slot parts w out long)
    ∙ c.evaluate_into.ensures.value collections has (is_one ∙ given 0 a takes) (is_two ∙ given second.0 b second.1)

pub front_beside-one-requires-clause-slots : goal.front_beside-one-requires-clause-slots
front_beside-one-requires-clause-slots c = grind (arith, common_steps) steps 2000000

pub front_beside-two-requires-clause-slots : goal.front_beside-two-requires-clause-slots
front_beside-two-requires-clause-slots c = grind (arith, common_steps) steps 2000000

pub split_at_mut-before-requires : goal.split_at_mut-before-requires
split_at_mut-before-requires c = grind (arith, common_steps) steps 2000000

pub split_at_mut-own-requires : goal.split_at_mut-own-requires
split_at_mut-own-requires c = grind (arith, common_steps) steps 2000000
