use Rattle.oe_engine.specs.Hulls.{IsStripped}
use Rattle.oe_engine.proofs.ChunkLemmas.{EachBefore}
use Rattle.oe_engine.proofs.hulls.are_strips.Given as goal

abbrev pub invariant-loop-index : goal.invariant-loop-index
invariant-loop-index l = EachBefore 0 l.index (λ k b. IsStripped l.plan l.hull l.step b) l.benches
