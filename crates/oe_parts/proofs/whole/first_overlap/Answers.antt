use Rattle.std.proofs.Common.{◌≡◌, true, false, arith}
use Rattle.oe_parts.specs.Parts.{heads_of}
use Rattle.oe_parts.specs.Whole.{Overlaps}
use Rattle.oe_parts.proofs.WholeLemmas.{no_overlap, none_more}
use Rattle.oe_parts.proofs.whole.first_overlap.Goals as goal

pub loop-index-preserved : goal.loop-index-preserved
loop-index-preserved g c =
    none_more (Overlaps (heads_of c.args.parts.now)) c.loop-index.index c.loop-index.invariant (λ overlaps.
    (let yes : c.meets_any.result ≡ true = c.meets_any.ensures.1 overlaps in
    let none : c.meets_any.result ≡ false = c.if-meets_any.false in
    cc))

pub returns-clause-none : goal.returns-clause-none
returns-clause-none g c =
    no_overlap c.args.parts.now (λ index below. c.loop-index.invariant index (omega (arith, below, c.loop-index-test.false)))
