use Rattle.std.proofs.Common.{IfErr, OnErr, OnOk, sym, ◌∙◌, subst, arith}
use Rattle.std.proofs.lemmas.List.{length-set}
use Rattle.std.proofs.lemmas.List.Elements.{All-set}
use Rattle.std.proofs.lemmas.Grind.{common_steps}
use Rattle.oe_dims.specs.Dimensions.{cell_count}
use Rattle.oe_render.specs.Rendered.{AppendsCube, AppendsCubePrefix, CountsCube, CountsCubePrefix, IsRefusalWithin}
use Rattle.oe_render.specs.Stored.{HasCells}
use Rattle.oe_engine.specs.Benches.{IsBenchFor}
use Rattle.oe_engine.specs.Runs.{PartRunOf, result_shape}
use Rattle.oe_engine.proofs.part_run.PartRun.render.Goals as goal

pub render-requires-clause-stored : goal.render-requires-clause-stored
render-requires-clause-stored g c =
    subst (λ (r : PartRunOf). HasCells (g.P.Store.bytes c.args.spool.now) r.base (cell_count (result_shape r.plan)))
    (sym c.self.view_is) c.requires.stored

pub returns-clause-rendered : goal.returns-clause-rendered
returns-clause-rendered g c =
    let is = c.self.view_is in
    let answer = c.render.result in
    let rendered = c.render.ensures.rendered in
    let store = g.P.Store.bytes c.args.spool.now in
    let before = g.O.Sink.written c.args.out.now in
    let after = g.O.Sink.written c.render.new.out in
    let size = g.O.Sink.size c.args.out.now in
    let size_after = g.O.Sink.size c.render.new.out in
    record {
      text = subst (λ (r : PartRunOf). OnOk answer (AppendsCube store r.base (result_shape r.plan) before after)) is rendered.text;
      prefix = subst (λ (r : PartRunOf). OnErr answer (AppendsCubePrefix store r.base (result_shape r.plan) before after)) is rendered.prefix;
      counted = subst (λ (r : PartRunOf). OnOk answer (CountsCube store r.base (result_shape r.plan) size size_after)) is rendered.counted;
      counted_prefix = subst (λ (r : PartRunOf). OnErr answer (CountsCubePrefix store r.base (result_shape r.plan) size size_after)) is
          rendered.counted_prefix;
    }

pub returns-clause-damage : goal.returns-clause-damage
returns-clause-damage g c =
    subst (λ (r : PartRunOf). IfErr c.render.result (IsRefusalWithin (g.P.Store.bytes c.args.spool.now) 0
    (cell_count (result_shape r.plan)))) c.self.view_is c.render.ensures.damage

pub invariant_of-self : goal.invariant_of-self
invariant_of-self g c =
    let p = c.self.inside.plan in
    let benches = c.self.inside.benches.items in
    let made = c.self.invariant.3 in (
      c.self.invariant.0,
      c.self.invariant.1,
      c.self.invariant.2,
      record {
        as_many = length-set benches 0 c.render.new.self ∙ made.as_many;
        each = All-set (IsBenchFor p) benches 0 c.render.new.self c.render.ensures.bench made.each;
      },
      c.self.invariant.4,
    )

pub render-requires-clause-bench : goal.render-requires-clause-bench
render-requires-clause-bench g c = grind (arith, common_steps) steps 2000000
