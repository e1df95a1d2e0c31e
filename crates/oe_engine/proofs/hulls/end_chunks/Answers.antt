use Rattle.std.proofs.Common.{◌<◌, ◌∙◌, length, refl, arith}
use Rattle.std.proofs.lemmas.List.{length-set}
use Rattle.oe_engine.specs.Hulls.{HasLoadedSteps, IsBegun}
use Rattle.oe_engine.specs.Loads.{LoadsBench}
use Rattle.oe_engine.proofs.ChunkLemmas.{each_all, each_here, each_left, each_none, each_set}
use Rattle.oe_engine.proofs.HullLemmas.{one_of_all}
use Rattle.oe_engine.proofs.hulls.end_chunks.Goals as goal

pub loop-index-init : goal.loop-index-init
loop-index-init c = record {
  many = refl;
  loaded = λ p rows count is loads begun each. (
    each_none c.args.first (LoadsBench p rows) c.args.benches.now,
    ((λ i b from at. one_of_all (IsBegun p) c.args.benches.now i b at begun), λ i b from at. each i b at),
  );
}

pub loop-index-preserved : goal.loop-index-preserved
loop-index-preserved c =
    let first = c.args.first in
    let n = c.loop-index.index in
    let benches = c.loop-index.benches in
    let other = c.index-benches-index.result in
    let new = c.end.new.self in
    let inv = c.loop-index.invariant in
    let within : n < length benches = omega (arith, inv.many, c.loop-index-test.true) in
    record {
      many = length-set benches n new ∙ inv.many;
      loaded = λ p rows count is loads begun each.
          let was = inv.loaded p rows count is loads begun each in (
            each_set first (LoadsBench p rows) benches n new within was.0
                (c.end.ensures.loaded p rows count is loads (each_here 0 (λ k b. IsBegun p b) benches n other within was.1.0)
                (each_here first (HasLoadedSteps p rows count) benches n other within was.1.1)),
            (each_left 0 (λ k b. IsBegun p b) benches n new was.1.0, each_left first (HasLoadedSteps p rows count) benches n new was.1.1),
          );
    }

pub returns-clause-loaded : goal.returns-clause-loaded
returns-clause-loaded c = λ p rows count is loads begun each.
    each_all c.args.first (LoadsBench p rows) c.loop-index.benches c.loop-index.index
    (omega (arith, c.loop-index.invariant.many, c.loop-index-test.false))
    (c.loop-index.invariant.loaded p rows count is loads begun each).0
