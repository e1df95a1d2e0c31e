use Rattle.std.proofs.Common.{◌<◌, ◌+◌, ◌∙◌, length, refl, arith}
use Rattle.std.proofs.lemmas.List.{length-set}
use Rattle.std.proofs.lemmas.List.Elements.{All-get_or, All-set}
use Rattle.oe_engine.specs.Hulls.{HasLoadedRows, IsStripped}
use Rattle.oe_engine.proofs.ChunkLemmas.{each_all, each_here, each_left, each_none, each_set}
use Rattle.oe_engine.proofs.hulls.deal_row.Goals as goal

pub loop-index-init : goal.loop-index-init
loop-index-init c = record {
  many = refl;
  stripped = c.requires.stripped;
  loaded = λ rows first row each.
      (each_none first (HasLoadedRows c.args.plan.now rows c.args.step (c.args.number + 1)) c.args.benches.now, λ i b from at. each i b at);
}

pub take_row-requires-clause-stripped : goal.take_row-requires-clause-stripped
take_row-requires-clause-stripped c =
    let n = c.loop-index.index in
    let within : n < length c.loop-index.benches = omega (arith, c.loop-index.invariant.many, c.loop-index-test.true) in
    All-get_or (IsStripped c.args.plan.now c.args.hull.now c.args.step) c.loop-index.benches n c.index-benches-index.result within
    c.loop-index.invariant.stripped

pub loop-index-preserved : goal.loop-index-preserved
loop-index-preserved c =
    let p = c.args.plan.now in
    let step = c.args.step in
    let number = c.args.number in
    let n = c.loop-index.index in
    let benches = c.loop-index.benches in
    let new = c.take_row.new.self in
    let inv = c.loop-index.invariant in
    let within : n < length benches = omega (arith, inv.many, c.loop-index-test.true) in
    record {
      many = length-set benches n new ∙ inv.many;
      stripped = All-set (IsStripped p c.args.hull.now step) benches n new c.take_row.ensures.stripped inv.stripped;
      loaded = λ rows first row each.
          let was = inv.loaded rows first row each in (
            each_set first (HasLoadedRows p rows step (number + 1)) benches n new within was.0
                (c.take_row.ensures.loaded rows (first + n) row
                (each_here first (HasLoadedRows p rows step number) benches n c.index-benches-index.result within was.1)),
            each_left first (HasLoadedRows p rows step number) benches n new was.1,
          );
    }

pub returns-clause-loaded : goal.returns-clause-loaded
returns-clause-loaded c = λ rows first row each.
    each_all first (HasLoadedRows c.args.plan.now rows c.args.step (c.args.number + 1)) c.loop-index.benches c.loop-index.index
    (omega (arith, c.loop-index.invariant.many, c.loop-index-test.false)) (c.loop-index.invariant.loaded rows first row each).0
