use Rattle.std.proofs.Common.{◌∙◌, length, refl, sym, ap, subst}
use Rattle.oe_plan.specs.Windows.{AreWindows}
use Rattle.oe_window.specs.declared.window.Window.{Window}
use Rattle.oe_engine.specs.Benches.{IsBenchFor, chunk_of}
use Rattle.oe_steps.specs.Buffers.{lists_of}
use Rattle.oe_engine.proofs.BenchLemmas.{bench}
use Rattle.oe_steps.proofs.BufferLemmas.{with_items_is}
use Rattle.oe_engine.proofs.bench.Bench.begin.Goals as goal

pub windows_of-requires-clause-each : goal.windows_of-requires-clause-each
windows_of-requires-clause-each c =
    let p = c.args.plan.now in
    let inside = c.self.inside in
    let was : IsBenchFor p (bench inside.state inside.windows.items (lists_of inside.buffers.items) inside.scratch.items) =
    subst (IsBenchFor p) (sym c.self.view_is) c.requires.bench in
    ap length c.deref_mut.ensures.value ∙ was.room.windows

pub returns-clause-chunk : goal.returns-clause-chunk
returns-clause-chunk c =
    let p = c.args.plan.now in
    let inside = c.self.inside in
    let w = c.windows_of.new.windows in
    let long = c.windows_of.auto.windows ∙ ap length c.deref_mut.ensures.value in
    let are : AreWindows p.graph p.size (chunk_of p c.args.chunk) w =
    subst (λ (x : Window). AreWindows p.graph p.size x w) c.chunk.ensures.value c.windows_of.ensures.windows in
    record {
      within = c.requires.chunk;
      windows = subst (AreWindows p.graph p.size (chunk_of p c.args.chunk)) (sym (with_items_is inside.windows w long)) are;
    }

pub returns-clause-begun : goal.returns-clause-begun
returns-clause-begun c =
    let p = c.args.plan.now in
    let inside = c.self.inside in
    let was : IsBenchFor p (bench inside.state inside.windows.items (lists_of inside.buffers.items) inside.scratch.items) =
    subst (IsBenchFor p) (sym c.self.view_is) c.requires.bench in
    let w = c.windows_of.new.windows in
    let long = c.windows_of.auto.windows ∙ ap length c.deref_mut.ensures.value in
    record {
      room = record {
        windows = ap length (with_items_is inside.windows w long) ∙ (long ∙ was.room.windows);
        buffers = was.room.buffers;
        scratch = was.room.scratch;
      };
      state = refl;
      windows = (chunk_of p c.args.chunk, (returns-clause-chunk c).windows);
    }
