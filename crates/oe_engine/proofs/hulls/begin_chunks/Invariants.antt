use Rattle.std.proofs.Common.{◌≡◌, length}
use Rattle.oe_engine.specs.Benches.{IsAtChunk, IsBenchFor}
use Rattle.oe_engine.specs.Hulls.{IsBegun}
use Rattle.oe_engine.proofs.ChunkLemmas.{EachBefore, EachFrom}
use Rattle.oe_engine.proofs.hulls.begin_chunks.Given as goal

abbrev pub invariant-loop-index : goal.invariant-loop-index
invariant-loop-index l = record {
  many : length l.benches ≡ length l.fn.benches;
  left : EachFrom 0 l.index (λ k b. IsBenchFor l.plan b) l.benches;
  begun : EachBefore 0 l.index (λ k b. IsBegun l.plan b) l.benches;
  chunks : EachBefore l.first l.index (IsAtChunk l.plan) l.benches;
}
