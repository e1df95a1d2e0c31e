use Rattle.std.proofs.Common.{◌+◌, ◌∙◌, List, sym, ap, subst, length, Vec}
use Rattle.std.specs.declared.alloc.Global.{Global}
use Rattle.oe_cell.specs.declared.cell.Cell.{Cell}
use Rattle.oe_sources.specs.CatalogueRows.{rows_of}
use Rattle.oe_window.specs.declared.window.Window.{Window}
use Rattle.oe_engine.specs.Benches.{AreOfChunk, EachLive, HaveRoomFor}
use Rattle.oe_steps.specs.Buffers.{lists_of}
use Rattle.oe_engine.specs.Hulls.{HasLoadedSteps, IsBegun}
use Rattle.oe_engine.specs.Loads.{IsLoadedAt}
use Rattle.oe_engine.proofs.BenchLemmas.{bench}
use Rattle.oe_steps.proofs.BufferLemmas.{with_items_is}
use Rattle.oe_steps.proofs.Outcomes.{on_ok}
use Rattle.oe_engine.proofs.bench.Bench.load_step.Goals as goal

pub look_slot-requires-clause-windows : goal.look_slot-requires-clause-windows
look_slot-requires-clause-windows g c =
    let p = c.args.plan.now in
    let inside = c.self.inside in
    let was : IsBegun p (bench inside.state inside.windows.items (lists_of inside.buffers.items) inside.scratch.items) =
    subst (IsBegun p) (sym c.self.view_is) c.requires.begun in
    subst (AreOfChunk p) (sym c.deref.ensures.value) was.windows

pub look_slot-requires-clause-room : goal.look_slot-requires-clause-room
look_slot-requires-clause-room g c =
    let p = c.args.plan.now in
    let inside = c.self.inside in
    let was : IsBegun p (bench inside.state inside.windows.items (lists_of inside.buffers.items) inside.scratch.items) =
    subst (IsBegun p) (sym c.self.view_is) c.requires.begun in
    subst (λ (x : List (Vec Cell Global)). HaveRoomFor p (lists_of x)) (sym c.deref_mut.ensures.value) was.room.buffers

pub returns-clause-begun : goal.returns-clause-begun
returns-clause-begun g c =
    let p = c.args.plan.now in
    let inside = c.self.inside in
    let was : IsBegun p (bench inside.state inside.windows.items (lists_of inside.buffers.items) inside.scratch.items) =
    subst (IsBegun p) (sym c.self.view_is) c.requires.begun in
    let new = c.look_slot.new.buffers in
    let many = c.look_slot.auto.buffers ∙ ap length c.deref_mut.ensures.value in
    record {
      room = record {
        windows = was.room.windows;
        buffers = subst (λ (x : List (Vec Cell Global)). HaveRoomFor p (lists_of x)) (sym (with_items_is inside.buffers new many)) c.look_slot.ensures.room;
        scratch = was.room.scratch;
      };
      state = was.state;
      windows = was.windows;
    }

pub returns-clause-loaded : goal.returns-clause-loaded
returns-clause-loaded g c = λ k loaded.
    let p = c.args.plan.now in
    let rows = rows_of (λ z. (goal.SharedSource-dyn g z).CubeSource.seen z.1) c.args.catalogue.now in
    let step = c.args.step in
    let inside = c.self.inside in
    let windows = inside.windows.items in
    let had : HasLoadedSteps p rows step k (bench inside.state windows (lists_of inside.buffers.items) inside.scratch.items) =
    subst (HasLoadedSteps p rows step k) (sym c.self.view_is) loaded in
    let new = c.look_slot.new.buffers in
    let many = c.look_slot.auto.buffers ∙ ap length c.deref_mut.ensures.value in
    let given : EachLive p step (IsLoadedAt p rows c.deref.result.now (lists_of c.deref_mut.result.now)) =
    subst (λ (w : List Window). EachLive p step (IsLoadedAt p rows w (lists_of c.deref_mut.result.now))) (sym c.deref.ensures.value)
    (subst (λ (b : List (Vec Cell Global)). EachLive p step (IsLoadedAt p rows windows (lists_of b))) (sym c.deref_mut.ensures.value) had.loaded) in
    on_ok _ _ c.look_slot.result
    (λ each. record {
      chunk = record { within = had.chunk.within; windows = had.chunk.windows };
      loaded = subst (λ (b : List (Vec Cell Global)). EachLive p (step + 1) (IsLoadedAt p rows windows (lists_of b))) (sym (with_items_is inside.buffers new many))
          (subst (λ (w : List Window). EachLive p (step + 1) (IsLoadedAt p rows w (lists_of new))) c.deref.ensures.value each);
    })
    (c.look_slot.ensures.loaded given)
