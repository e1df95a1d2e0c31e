use Rattle.std.proofs.Common.{◌≡◌, Some, sym, subst, arith}
use Rattle.std.specs.List.{slice_get}
use Rattle.oe_parts.specs.Head.{IsPartHead, PartHead}
use Rattle.oe_parts.specs.Parts.{heads_of}
use Rattle.oe_parts.specs.Whole.{Differs, IsOfRun, RunOutline, SaysMisfit}
use Rattle.oe_parts.proofs.WholeLemmas.{head_at, head_within, heads_more, says_stranger}
use Rattle.oe_parts.proofs.whole.first_stranger.Goals as goal

pub returns-in-Some-clause-stranger : goal.returns-in-Some-clause-stranger
returns-in-Some-clause-stranger g c =
    let parts = c.args.parts.now in
    let run : RunOutline = record { graph = c.args.graph.now; kind = c.args.kind; shape = c.args.shape.now } in
    let p = c.index-parts-index.result in
    let at : slice_get (heads_of parts) c.loop-index.index ≡ Some p.head = head_at parts c.loop-index.index p (omega (arith, c.loop-index-test.true, c.loop-index.auto.index-end)) c.index-parts-index.is in
    subst (SaysMisfit run (heads_of parts)) (sym c.misfit_of.ensures)
    (says_stranger run (heads_of parts) c.loop-index.index c.in-Some.difference (record {
      sides = c.args.sides;
      leads = c.requires.leads;
      head = p.head;
      at = at;
      differs = subst (λ (h : PartHead). Differs run c.args.sides h c.in-Some.difference) c.head.ensures.value c.in-Some.ensures.differs;
      before = c.loop-index.invariant.of_run;
    }))

pub loop-index-preserved : goal.loop-index-preserved
loop-index-preserved g c =
    let parts = c.args.parts.now in
    let run : RunOutline = record { graph = c.args.graph.now; kind = c.args.kind; shape = c.args.shape.now } in
    let p = c.index-parts-index.result in
    let at : slice_get (heads_of parts) c.loop-index.index ≡ Some p.head = head_at parts c.loop-index.index p (omega (arith, c.loop-index-test.true, c.loop-index.auto.index-end)) c.index-parts-index.is in
    record {
      of_run = heads_more (IsOfRun run c.args.sides) (heads_of parts) c.loop-index.index p.head at (subst (IsOfRun run c.args.sides) c.head.ensures.value c.in-None.ensures.none) c.loop-index.invariant.of_run;
      valid = heads_more IsPartHead (heads_of parts) c.loop-index.index p.head at c.head.ensures.valid c.loop-index.invariant.valid;
    }

pub returns-clause-none : goal.returns-clause-none
returns-clause-none g c = record {
  valid = c.requires.valid;
  each = λ k h at. c.loop-index.invariant.of_run k h (omega (arith, head_within c.args.parts.now k h at, c.loop-index-test.false)) at;
}

pub returns-clause-heads : goal.returns-clause-heads
returns-clause-heads g c k h at =
    c.loop-index.invariant.valid k h (omega (arith, head_within c.args.parts.now k h at, c.loop-index-test.false)) at
