use Rattle.std.proofs.Common.{◌≡◌, ◌≤◌, ◌+◌, ◌-◌, ◌++◌, ℕ, length, take, drop, refl, sym, ap, ◌∙◌, subst, arith}
use Rattle.std.proofs.lemmas.List.{length-take, length-drop}
use Rattle.std.proofs.lemmas.Grind.{elements}
use borrow.Rule.Slice.PartMut.{post_of}
use Rattle.oe_dims.specs.Dimensions.{Dimensions, cell_count}
use Rattle.oe_sources.specs.declared.file_source.Opened.{Opened}
use Rattle.oe_dims.proofs.ShapeLemmas.{cell_count_within}
use Rattle.oe_sources.specs.OpenedFile.{AreOfKind, AreStoredFrom, IsDamageFrom}
use Rattle.oe_sources.proofs.ContentLemmas.{AreReadAt, all_of_kind, damage_in, front_of_kind, more_of_kind, more_read, none_read, number_count, run_within, window_read}
use Rattle.oe_window.specs.Runs.{EndWithin, window_numbers}
use Rattle.oe_window.specs.Windows.{position_count}
use Rattle.oe_window.proofs.VisitLemmas.{visiting_begins, visiting_ends, visiting_goes}
use Rattle.oe_window.proofs.WholeLemmas.{count_within}
use Rattle.oe_sources.proofs.file_source.read_window.Goals as goal

pub loop-first-init : goal.loop-first-init
loop-first-init g c =
    let runs = c.runs-first-items.ensures in
    let d = c.args.file.now.head.shape in
    let w = c.args.window.now in
    let shape = ap (λ (o : Opened). o.head.shape) c.file.view_is in
    let begun = c.into_iter-first-iterator.ensures.into_iter_gives in
    record {
      next = tt;
      finite = tt;
      visiting = visiting_begins (window_numbers d w) c.runs-first-items.result c.into_iter-first-iterator.result (runs.numbers ∙ ap (λ (e : Dimensions). window_numbers e w) shape) (runs.lengths ∙ sym (number_count d w)) begun;
      within = subst (EndWithin (cell_count d)) (sym begun) (subst (λ (e : Dimensions). EndWithin (cell_count e) c.runs-first-items.result) shape runs.within);
      room = c.requires.room;
      read = none_read (g.S.Store.bytes c.args.store.now) c.args.file.now.head (window_numbers d w) c.args.into.now;
      of_kind = refl;
    }

pub overflow_add-end : goal.overflow_add-end
overflow_add-end g c =
    let d = c.args.file.now.head.shape in
    let w = c.args.window.now in
    let run : (c.in-Some.first + c.in-Some.count ≤ cell_count d) × (c.loop-first.done + c.in-Some.count ≤ position_count w) × EndWithin (cell_count d) c.next.new.self = run_within d w c.loop-first.first-iterator c.next.new.self c.in-Some.first c.in-Some.count c.loop-first.done c.loop-first.invariant.visiting c.loop-first.invariant.within c.in-Some.ensures.steps in
    omega (arith, run.1, count_within d w c.requires.inside, cell_count_within d c.requires.opened.valid.shape)

pub offset_bounds-into-done : goal.offset_bounds-into-done
offset_bounds-into-done g c =
    let d = c.args.file.now.head.shape in
    let w = c.args.window.now in
    let run : (c.in-Some.first + c.in-Some.count ≤ cell_count d) × (c.loop-first.done + c.in-Some.count ≤ position_count w) × EndWithin (cell_count d) c.next.new.self = run_within d w c.loop-first.first-iterator c.next.new.self c.in-Some.first c.in-Some.count c.loop-first.done c.loop-first.invariant.visiting c.loop-first.invariant.within c.in-Some.ensures.steps in
    omega (arith, run.1, count_within d w c.requires.inside, cell_count_within d c.requires.opened.valid.shape)

pub slice_bounds-read_run-end : goal.slice_bounds-read_run-end
slice_bounds-read_run-end g c =
    let d = c.args.file.now.head.shape in
    let w = c.args.window.now in
    let run : (c.in-Some.first + c.in-Some.count ≤ cell_count d) × (c.loop-first.done + c.in-Some.count ≤ position_count w) × EndWithin (cell_count d) c.next.new.self = run_within d w c.loop-first.first-iterator c.next.new.self c.in-Some.first c.in-Some.count c.loop-first.done c.loop-first.invariant.visiting c.loop-first.invariant.within c.in-Some.ensures.steps in
    omega (arith, run.1, c.loop-first.auto.into, c.requires.counted)

pub returns-in-Err-clause-damage : goal.returns-in-Err-clause-damage
returns-in-Err-clause-damage g c =
    let head = c.args.file.now.head in
    let w = c.args.window.now in
    let done = c.loop-first.done in
    let count = c.in-Some.count in
    let into = c.loop-first.into in
    let run : (c.in-Some.first + count ≤ cell_count head.shape) × (done + count ≤ position_count w) × EndWithin (cell_count head.shape) c.next.new.self = run_within head.shape w c.loop-first.first-iterator c.next.new.self c.in-Some.first count done c.loop-first.invariant.visiting c.loop-first.invariant.within c.in-Some.ensures.steps in
    let room : done + count ≤ length into = omega (arith, run.1, c.loop-first.auto.into, c.requires.counted) in
    let part : length (take (done + count - done) (drop done into)) ≡ count = omega (arith, length-take (done + count - done) (drop done into), length-drop done into, room) in
    let here : IsDamageFrom head (g.S.Store.bytes c.args.store.now) c.in-Some.first count c.in-Err.fail = subst (λ (n : ℕ). IsDamageFrom head (g.S.Store.bytes c.args.store.now) c.in-Some.first n c.in-Err.fail) part c.in-Err.ensures.damage in
    damage_in (g.S.Store.bytes c.args.store.now) head w c.loop-first.first-iterator c.next.new.self c.in-Some.first count done c.in-Err.fail c.requires.inside c.loop-first.invariant.visiting c.in-Some.ensures.steps here

pub loop-first-preserved : goal.loop-first-preserved
loop-first-preserved g c =
    let head = c.args.file.now.head in
    let store = g.S.Store.bytes c.args.store.now in
    let w = c.args.window.now in
    let numbers = window_numbers head.shape w in
    let done = c.loop-first.done in
    let first = c.in-Some.first in
    let count = c.in-Some.count in
    let into = c.loop-first.into in
    let new = c.read_run.new.into in
    let left = c.loop-first.first-iterator in
    let next = c.next.new.self in
    let rest = post_of done (done + count - done) into in
    let run : (first + count ≤ cell_count head.shape) × (done + count ≤ position_count w) × EndWithin (cell_count head.shape) next = run_within head.shape w left next first count done c.loop-first.invariant.visiting c.loop-first.invariant.within c.in-Some.ensures.steps in
    let room : done + count ≤ length into = omega (arith, run.1, c.loop-first.auto.into, c.requires.counted) in
    let part : length (take (done + count - done) (drop done into)) ≡ count = omega (arith, length-take (done + count - done) (drop done into), length-drop done into, room) in
    let long : length new ≡ count = c.read_run.auto.into ∙ part in
    let stored : AreStoredFrom head store first count new = subst (λ (n : ℕ). AreStoredFrom head store first n new) part c.in-Ok.ensures.read in
    let kinds : AreOfKind head.kind count new = subst (λ (n : ℕ). AreOfKind head.kind n new) part c.in-Ok.ensures.of_kind in
    record {
      next = tt;
      finite = tt;
      visiting = visiting_goes numbers left next first count done c.loop-first.invariant.visiting c.in-Some.ensures.steps;
      within = run.2;
      room = c.read_run.auto.buffer ∙ c.loop-first.invariant.room;
      read = more_read store head numbers left next first count done into new rest c.loop-first.invariant.visiting c.in-Some.ensures.steps (omega (arith, room)) long c.loop-first.invariant.read stored;
      of_kind = more_of_kind head.kind done count into (new ++ rest) (omega (arith, room)) c.loop-first.invariant.of_kind (front_of_kind head.kind count new rest (omega (arith, long)) kinds);
    }

pub returns-clause-given : goal.returns-clause-given
returns-clause-given g c =
    let head = c.args.file.now.head in
    let store = g.S.Store.bytes c.args.store.now in
    let w = c.args.window.now in
    let numbers = window_numbers head.shape w in
    let end : c.loop-first.done ≡ position_count w = visiting_ends numbers c.loop-first.first-iterator c.loop-first.done c.loop-first.invariant.visiting c.in-None.ensures.steps.0 ∙ number_count head.shape w in
    window_read store head w c.loop-first.into c.requires.inside (c.loop-first.auto.into ∙ c.requires.counted) (subst (λ (n : ℕ). AreReadAt store head numbers n c.loop-first.into) end c.loop-first.invariant.read)

pub returns-clause-of_kind : goal.returns-clause-of_kind
returns-clause-of_kind g c =
    let head = c.args.file.now.head in
    let w = c.args.window.now in
    let end : c.loop-first.done ≡ position_count w = visiting_ends (window_numbers head.shape w) c.loop-first.first-iterator c.loop-first.done c.loop-first.invariant.visiting c.in-None.ensures.steps.0 ∙ number_count head.shape w in
    all_of_kind head.kind c.loop-first.done c.loop-first.into (omega (arith, end, c.loop-first.auto.into, c.requires.counted)) c.loop-first.invariant.of_kind

pub runs-first-items-requires : goal.runs-first-items-requires
runs-first-items-requires g c = grind (arith, elements) steps 2000000
