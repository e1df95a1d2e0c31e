use Rattle.std.proofs.Common.{◌≡◌, inl, inr, Some, ap, ◌∙◌, arith}
use Rattle.std.specs.List.{slice_get}
use Rattle.oe_parts.specs.Head.{PartHead}
use Rattle.oe_parts.specs.Parts.{heads_of}
use Rattle.oe_parts.specs.Whole.{HasChunkAt}
use Rattle.oe_parts.proofs.WholeLemmas.{head_at, head_within, none_more, not_here}
use Rattle.oe_parts.proofs.whole.end_past.Goals as goal
use Rattle.oe_parts.proofs.whole.end_past.Goals.{else-head-chunk-via-then-head-chunk+else-chunk-head, else-head-chunk-via-else-head-chunk}

pub returns-then-chunk-head-clause-end : goal.returns-then-chunk-head-clause-end
returns-then-chunk-head-clause-end g c =
    let parts = c.args.parts.now in
    let p = c.index-parts-index.result in
    let at : slice_get (heads_of parts) c.loop-index.index ≡ Some p.head = head_at parts c.loop-index.index p (omega (arith, c.loop-index-test.true, c.loop-index.auto.index-end)) c.index-parts-index.is in
    let same = c.head.view_is ∙ c.head-head.ensures.value in
    let first = ap (λ (h : PartHead). h.first) same in
    let end = ap (λ (h : PartHead). h.end) same in (
      c.if-chunk-head.true,
      λ k below from. (c.loop-index.index, (p.head, at, (omega (arith, from, first, c.if-head-chunk.true), omega (arith, below, end)))),
    )

pub loop-index-preserved : goal.loop-index-preserved
loop-index-preserved g c =
    let parts = c.args.parts.now in
    let p = c.index-parts-index.result in
    let at : slice_get (heads_of parts) c.loop-index.index ≡ Some p.head = head_at parts c.loop-index.index p (omega (arith, c.loop-index-test.true, c.loop-index.auto.index-end)) c.index-parts-index.is in
    let same = c.head.view_is ∙ c.head-head.ensures.value in
    let first = ap (λ (h : PartHead). h.first) same in
    let end = ap (λ (h : PartHead). h.end) same in
    none_more (λ j. HasChunkAt (heads_of parts) j c.args.chunk) c.loop-index.index c.loop-index.invariant
    (not_here (heads_of parts) c.loop-index.index c.args.chunk c.head.inside.first c.head.inside.end p.head at first end (elim c.else-head-chunk.branch [
      | else-head-chunk-via-then-head-chunk+else-chunk-head w ↦ inr w.if-chunk-head.false
      | else-head-chunk-via-else-head-chunk w ↦ inl w.if-head-chunk.false
    ]))

pub returns-clause-none : goal.returns-clause-none
returns-clause-none g c covered =
    let within = head_within c.args.parts.now covered.0 covered.1.0 covered.1.1 in
    c.loop-index.invariant covered.0 (omega (arith, within, c.loop-index-test.false)) covered.1
