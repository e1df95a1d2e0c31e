use Rattle.std.proofs.Common.{length, refl, subst, arith}
use Rattle.std.proofs.lemmas.Option.{slice_get_read}
use Rattle.oe_window.specs.declared.window.Window.{Window}
use Rattle.oe_engine.specs.Hulls.{IsBegun, IsStripped}
use Rattle.oe_steps.specs.Strips.{IsStripOf}
use Rattle.oe_engine.proofs.ChunkLemmas.{each_all, each_more}
use Rattle.oe_engine.proofs.HullLemmas.{all_of_each, one_of_all}
use Rattle.oe_engine.proofs.hulls.are_strips.Goals as goal

pub window-requires : goal.window-requires
window-requires c =
    let benches = c.args.benches.now in
    let n = c.loop-index.index in
    let b = c.index-benches-index.result in
    let here = slice_get_read benches (length benches) n b refl c.loop-index-test.true c.index-benches-index.is in
    let begun = one_of_all (IsBegun c.args.plan.now) benches n b here c.requires.begun in
    omega (arith, begun.room.windows, c.requires.step)

pub loop-index-preserved : goal.loop-index-preserved
loop-index-preserved c =
    let n = c.loop-index.index in
    let benches = c.args.benches.now in
    let b = c.index-benches-index.result in
    let here = slice_get_read benches (length benches) n b refl c.loop-index-test.true c.index-benches-index.is in
    each_more 0 (λ k b. IsStripped c.args.plan.now c.args.hull.now c.args.step b) benches n b here c.loop-index.invariant
    (record {
      begun = one_of_all (IsBegun c.args.plan.now) benches n b here c.requires.begun;
      strip = subst (λ (w : Window). IsStripOf c.args.hull.now w) c.window.ensures (c.is_strip.ensures c.if-not-is_strip.false);
    })

pub returns : goal.returns
returns c = λ true.
    all_of_each (IsStripped c.args.plan.now c.args.hull.now c.args.step) c.args.benches.now
    (each_all 0 (λ k b. IsStripped c.args.plan.now c.args.hull.now c.args.step b) c.args.benches.now c.loop-index.index
    (omega (arith, c.loop-index-test.false)) c.loop-index.invariant)
