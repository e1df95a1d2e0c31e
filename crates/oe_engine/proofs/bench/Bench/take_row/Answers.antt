use Rattle.std.proofs.Common.{◌+◌, ◌∙◌, List, sym, ap, subst, length, Vec}
use Rattle.std.specs.declared.alloc.Global.{Global}
use Rattle.oe_cell.specs.declared.cell.Cell.{Cell}
use Rattle.oe_plan.specs.Windows.{window_at}
use Rattle.oe_window.specs.declared.window.Window.{Window}
use Rattle.oe_engine.specs.Benches.{AreOfChunk, HaveRoomFor}
use Rattle.oe_steps.specs.Buffers.{lists_of}
use Rattle.oe_engine.specs.Hulls.{HasLoadedRows, HaveLoadedRows, IsStripped}
use Rattle.oe_steps.specs.Strips.{IsStripOf}
use Rattle.oe_engine.proofs.BenchLemmas.{bench}
use Rattle.oe_steps.proofs.BufferLemmas.{with_items_is}
use Rattle.oe_engine.proofs.bench.Bench.take_row.Goals as goal

pub take_part-requires-clause-windows : goal.take_part-requires-clause-windows
take_part-requires-clause-windows c =
    let p = c.args.plan.now in
    let inside = c.self.inside in
    let was : IsStripped p c.args.hull.now c.args.step (bench inside.state inside.windows.items (lists_of inside.buffers.items) inside.scratch.items) =
    subst (IsStripped p c.args.hull.now c.args.step) (sym c.self.view_is) c.requires.stripped in
    subst (AreOfChunk p) (sym c.deref.ensures.value) was.begun.windows

pub take_part-requires-clause-room : goal.take_part-requires-clause-room
take_part-requires-clause-room c =
    let p = c.args.plan.now in
    let inside = c.self.inside in
    let was : IsStripped p c.args.hull.now c.args.step (bench inside.state inside.windows.items (lists_of inside.buffers.items) inside.scratch.items) =
    subst (IsStripped p c.args.hull.now c.args.step) (sym c.self.view_is) c.requires.stripped in
    subst (λ (x : List (Vec Cell Global)). HaveRoomFor p (lists_of x)) (sym c.deref_mut.ensures.value) was.begun.room.buffers

pub take_part-requires-clause-strip : goal.take_part-requires-clause-strip
take_part-requires-clause-strip c =
    let p = c.args.plan.now in
    let inside = c.self.inside in
    let was : IsStripped p c.args.hull.now c.args.step (bench inside.state inside.windows.items (lists_of inside.buffers.items) inside.scratch.items) =
    subst (IsStripped p c.args.hull.now c.args.step) (sym c.self.view_is) c.requires.stripped in
    subst (λ (x : List Window). IsStripOf c.args.hull.now (window_at x c.args.step)) (sym c.deref.ensures.value) was.strip

pub returns-clause-stripped : goal.returns-clause-stripped
returns-clause-stripped c =
    let p = c.args.plan.now in
    let inside = c.self.inside in
    let was : IsStripped p c.args.hull.now c.args.step (bench inside.state inside.windows.items (lists_of inside.buffers.items) inside.scratch.items) =
    subst (IsStripped p c.args.hull.now c.args.step) (sym c.self.view_is) c.requires.stripped in
    let new = c.take_part.new.buffers in
    let many = c.take_part.auto.buffers ∙ ap length c.deref_mut.ensures.value in
    record {
      begun = record {
        room = record {
          windows = was.begun.room.windows;
          buffers = subst (λ (x : List (Vec Cell Global)). HaveRoomFor p (lists_of x)) (sym (with_items_is inside.buffers new many)) c.take_part.ensures.room;
          scratch = was.begun.room.scratch;
        };
        state = was.begun.state;
        windows = was.begun.windows;
      };
      strip = was.strip;
    }

pub returns-clause-loaded : goal.returns-clause-loaded
returns-clause-loaded c = λ rows k row loaded.
    let p = c.args.plan.now in
    let step = c.args.step in
    let number = c.args.number in
    let inside = c.self.inside in
    let windows = inside.windows.items in
    let had : HasLoadedRows p rows step number k (bench inside.state windows (lists_of inside.buffers.items) inside.scratch.items) =
    subst (HasLoadedRows p rows step number k) (sym c.self.view_is) loaded in
    let new = c.take_part.new.buffers in
    let many = c.take_part.auto.buffers ∙ ap length c.deref_mut.ensures.value in
    let given : HaveLoadedRows p rows step number c.deref.result.now (lists_of c.deref_mut.result.now) =
    subst (λ (w : List Window). HaveLoadedRows p rows step number w (lists_of c.deref_mut.result.now)) (sym c.deref.ensures.value)
    (subst (λ (b : List (Vec Cell Global)). HaveLoadedRows p rows step number windows (lists_of b)) (sym c.deref_mut.ensures.value) had.loaded) in
    record {
      chunk = record { within = had.chunk.within; windows = had.chunk.windows };
      loaded = subst (λ (b : List (Vec Cell Global)). HaveLoadedRows p rows step (number + 1) windows (lists_of b)) (sym (with_items_is inside.buffers new many))
          (subst (λ (w : List Window). HaveLoadedRows p rows step (number + 1) w (lists_of new)) c.deref.ensures.value
          (c.take_part.ensures.loaded rows row given));
    }
