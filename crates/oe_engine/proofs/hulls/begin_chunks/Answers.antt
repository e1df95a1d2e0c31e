use Rattle.std.proofs.Common.{◌<◌, ◌∙◌, length, refl, arith}
use Rattle.std.proofs.lemmas.List.{length-set}
use Rattle.oe_engine.specs.Benches.{IsAtChunk, IsBenchFor}
use Rattle.oe_engine.specs.Hulls.{IsBegun}
use Rattle.oe_engine.proofs.ChunkLemmas.{each_all, each_here, each_left, each_none, each_set}
use Rattle.oe_engine.proofs.HullLemmas.{all_of_each, one_of_all}
use Rattle.oe_engine.proofs.hulls.begin_chunks.Goals as goal

pub loop-index-init : goal.loop-index-init
loop-index-init c = record {
  many = refl;
  left = λ i b from at. one_of_all (IsBenchFor c.args.plan.now) c.args.benches.now i b at c.requires.benches;
  begun = each_none 0 (λ k b. IsBegun c.args.plan.now b) c.args.benches.now;
  chunks = each_none c.args.first (IsAtChunk c.args.plan.now) c.args.benches.now;
}

pub begin-requires-clause-bench : goal.begin-requires-clause-bench
begin-requires-clause-bench c =
    let within : c.loop-index.index < length c.loop-index.benches = omega (arith, c.loop-index.invariant.many, c.loop-index-test.true) in
    each_here 0 (λ k b. IsBenchFor c.args.plan.now b) c.loop-index.benches c.loop-index.index c.index-benches-index.result within
    c.loop-index.invariant.left

pub loop-index-preserved : goal.loop-index-preserved
loop-index-preserved c =
    let p = c.args.plan.now in
    let n = c.loop-index.index in
    let benches = c.loop-index.benches in
    let new = c.begin.new.self in
    let inv = c.loop-index.invariant in
    let within : n < length benches = omega (arith, inv.many, c.loop-index-test.true) in
    record {
      many = length-set benches n new ∙ inv.many;
      left = each_left 0 (λ k b. IsBenchFor p b) benches n new inv.left;
      begun = each_set 0 (λ k b. IsBegun p b) benches n new within inv.begun c.begin.ensures.begun;
      chunks = each_set c.args.first (IsAtChunk p) benches n new within inv.chunks c.begin.ensures.chunk;
    }

pub returns-clause-begun : goal.returns-clause-begun
returns-clause-begun c =
    all_of_each (IsBegun c.args.plan.now) c.loop-index.benches
    (each_all 0 (λ k b. IsBegun c.args.plan.now b) c.loop-index.benches c.loop-index.index
    (omega (arith, c.loop-index.invariant.many, c.loop-index-test.false)) c.loop-index.invariant.begun)

pub returns-clause-chunks : goal.returns-clause-chunks
returns-clause-chunks c =
    each_all c.args.first (IsAtChunk c.args.plan.now) c.loop-index.benches c.loop-index.index
    (omega (arith, c.loop-index.invariant.many, c.loop-index-test.false)) c.loop-index.invariant.chunks
