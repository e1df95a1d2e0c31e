use Rattle.std.proofs.Common.{refl, arith}
use Rattle.oe_adapters.proofs.PartLemmas.{one_more}
use Rattle.oe_adapters.proofs.mosaics.open_parts.Goals as goal

pub loop-index-preserved : goal.loop-index-preserved
loop-index-preserved g c =
    let more = one_more _ _ _ c.push.result (c.in_ok-push_outcome.ensures.added.0 refl) c.push.ensures.added in
    omega (arith, more, c.loop-index.invariant)
