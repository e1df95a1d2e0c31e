use Rattle.std.proofs.Common.{◌*◌, pos, arith}
use Rattle.std.proofs.lemmas.Int.{ints}
use Rattle.oe_sources.proofs.GeneratedLemmas.{labels_more}
use Rattle.oe_sources.proofs.generated_cube.labels_upward.Goals as goal

pub loop-index-preserved : goal.loop-index-preserved
loop-index-preserved c =
    labels_more (λ i. pos (10 * i)) c.loop-index.index c.loop-index.labels.items c.push.new.self.items _ c.loop-index.invariant c.in_ok-push.ensures.items (omega (arith, ints, c.from.ensures))
