use Rattle.std.proofs.Common.{◌≡◌, ℕ, Some, true, false, refl, sym, subst, arith}
use Rattle.std.specs.List.{slice_get}
use Rattle.oe_parts.specs.Head.{PartHead}
use Rattle.oe_parts.specs.Parts.{heads_of}
use Rattle.oe_parts.specs.Whole.{HasChunk, HasChunkAt}
use Rattle.oe_parts.proofs.WholeLemmas.{chunk_of, head_at, none_more}
use Rattle.oe_parts.proofs.whole.meets_any.Goals as goal

pub returns-then-meet : goal.returns-then-meet
returns-then-meet g c =
    let parts = c.args.parts.now in
    let p = c.index-parts-before.result in
    let q = c.index-parts-index.result in
    let lt = c.loop-before-test.true in
    let at_p : slice_get (heads_of parts) c.loop-before.before ≡ Some p.head = head_at parts c.loop-before.before p (omega (arith, lt, c.requires)) c.index-parts-before.is in
    let at_q : slice_get (heads_of parts) c.args.index ≡ Some q.head = head_at parts c.args.index q c.requires c.index-parts-index.is in
    let found = c.meet.ensures.0 c.if-meet.true in
    let k = found.0 in (
      λ yes. (
        c.loop-before.before,
        k,
        lt,
        (p.head, at_p, subst (λ (h : PartHead). HasChunk h k) c.head.ensures.value found.1),
        (q.head, at_q, subst (λ (h : PartHead). HasChunk h k) c.head-in-loop-before.ensures.value found.2),
      ),
      λ overlaps. refl,
    )

pub loop-before-preserved : goal.loop-before-preserved
loop-before-preserved g c =
    let parts = c.args.parts.now in
    let p = c.index-parts-before.result in
    let q = c.index-parts-index.result in
    let at_p : slice_get (heads_of parts) c.loop-before.before ≡ Some p.head = head_at parts c.loop-before.before p (omega (arith, c.loop-before-test.true, c.requires)) c.index-parts-before.is in
    let at_q : slice_get (heads_of parts) c.args.index ≡ Some q.head = head_at parts c.args.index q c.requires c.index-parts-index.is in
    none_more (λ b. (k : ℕ) × HasChunkAt (heads_of parts) b k × HasChunkAt (heads_of parts) c.args.index k) c.loop-before.before c.loop-before.invariant (λ both.
    (let k = both.0 in
    let has_p = subst (λ (h : PartHead). HasChunk h k) (sym c.head.ensures.value) (chunk_of (heads_of parts) c.loop-before.before k p.head at_p both.1) in
    let has_q = subst (λ (h : PartHead). HasChunk h k) (sym c.head-in-loop-before.ensures.value) (chunk_of (heads_of parts) c.args.index k q.head at_q both.2) in
    let yes : c.meet.result ≡ true = c.meet.ensures.1 (k, has_p, has_q) in
    let none : c.meet.result ≡ false = c.if-meet.false in
    cc))

pub returns : goal.returns
returns g c = (
  λ yes. absurd cc,
  λ o. absurd (c.loop-before.invariant o.0 (omega (arith, o.2, c.loop-before-test.false)) (o.1, o.3, o.4)),
)
