use Rattle.std.proofs.Common.{IfErr, OnErr, OnOk, subst, arith}
use Rattle.std.proofs.lemmas.Grind.{moves}
use borrow.Author.Differences.{ints}
use Rattle.oe_dims.specs.Dimensions.{Dimensions, cell_count}
use Rattle.oe_render.specs.Rendered.{AppendsCube, AppendsCubePrefix, CountsCube, CountsCubePrefix, IsRefusalWithin}
use Rattle.oe_engine.proofs.bench.Bench.render.Goals as goal

pub returns-clause-rendered : goal.returns-clause-rendered
returns-clause-rendered g c =
    let is = c.shape.ensures.value in
    let answer = c.render.result in
    let store = g.P.Store.bytes c.args.spool.now in
    let base = c.args.base in
    let before = g.O.Sink.written c.args.out.now in
    let after = g.O.Sink.written c.render.new.out in
    let size = g.O.Sink.size c.args.out.now in
    let size_after = g.O.Sink.size c.render.new.out in
    record {
      text = subst (λ (shape : Dimensions). OnOk answer (AppendsCube store base shape before after)) is c.render.ensures.text;
      prefix = subst (λ (shape : Dimensions). OnErr answer (AppendsCubePrefix store base shape before after)) is c.render.ensures.prefix;
      counted = subst (λ (shape : Dimensions). OnOk answer (CountsCube store base shape size size_after)) is c.render.ensures.counted;
      counted_prefix = subst (λ (shape : Dimensions). OnErr answer (CountsCubePrefix store base shape size size_after)) is c.render.ensures.counted_prefix;
    }

pub returns-clause-damage : goal.returns-clause-damage
returns-clause-damage g c =
    subst (λ (shape : Dimensions). IfErr c.render.result (IsRefusalWithin (g.P.Store.bytes c.args.spool.now) 0 (cell_count shape)))
    c.shape.ensures.value c.render.ensures.damage

pub returns-clause-bench : goal.returns-clause-bench
returns-clause-bench g c = grind (ints, arith, moves) steps 2000000
