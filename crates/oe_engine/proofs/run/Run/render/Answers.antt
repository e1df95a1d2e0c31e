use Rattle.std.proofs.Common.{◌≡◌, ℕ, IfErr, OnErr, OnOk, length, refl, sym, ap, ◌∙◌, subst}
use Rattle.oe_steps.proofs.Outcomes.{on_err, on_ok}
use Rattle.oe_dims.specs.Dimensions.{cell_count}
use Rattle.oe_outside.specs.Visible.{AddsBytes, AddsSome, Appends, AppendsPrefix}
use Rattle.oe_plan.specs.Plans.{IsPlan, PlanOf}
use Rattle.oe_render.specs.Rendered.{AppendsCube, AppendsCubePrefix, CountsCube, CountsCubePrefix, IsRefusalWithin}
use Rattle.oe_render.specs.Stored.{HasCells}
use Rattle.oe_render.specs.Text.{cube_text}
use Rattle.oe_engine.specs.Parts.{IsWhole}
use Rattle.oe_engine.specs.Runs.{OfRun, RunOf, chunk_total, result_cube, result_shape}
use Rattle.oe_engine.proofs.RenderLemmas.{count_is, has_cells, part_count_is, prefix_is, result_shape_is, result_whole, text_is}
use Rattle.oe_engine.proofs.run.Run.render.Goals as goal

pub render-requires : goal.render-requires
render-requires g c =
    let p = c.self.inside.part.plan in
    let is : IsPlan p = subst IsPlan c.plan.ensures c.workers-workers.ensures.valid in
    let r = c.args.self.now in
    let same : r.plan ≡ p = ap (λ (r : RunOf). r.plan) (sym c.self.view_is) in
    let base : r.base ≡ c.self.inside.part.base = ap (λ (r : RunOf). r.base) (sym c.self.view_is) in
    record {
      stored = subst (λ (n : ℕ). HasCells (g.P.Store.bytes c.args.spool.now) n (cell_count (result_shape p))) base
          (has_cells p is r same (subst (λ (plan : PlanOf). r.done ≡ chunk_total plan) same c.requires.complete)
          (g.P.Store.bytes c.args.spool.now) c.requires.numbers c.requires.records);
    }

pub returns-clause-text : goal.returns-clause-text
returns-clause-text g c =
    let r = c.args.self.now in
    let same : r.plan ≡ c.self.inside.part.plan = ap (λ (r : RunOf). r.plan) (sym c.self.view_is) in
    let base : r.base ≡ c.self.inside.part.base = ap (λ (r : RunOf). r.base) (sym c.self.view_is) in
    let is : IsPlan r.plan = subst IsPlan (c.plan.ensures ∙ sym same) c.workers-workers.ensures.valid in
    let store = g.P.Store.bytes c.args.spool.now in
    let before = g.O.Sink.written c.args.out.now in
    let after = g.O.Sink.written c.render.new.out in
    on_ok (AppendsCube store c.self.inside.part.base (result_shape c.self.inside.part.plan) before after)
    (OfRun r store (λ cube. Appends before (cube_text cube) after)) c.render.result
    (λ h collections has done. text_is r.plan is r refl c.requires.complete (result_cube collections r.plan)
    (result_shape_is r.plan is collections has) (result_whole r.plan is collections has) store before after done
    (subst (λ (n : ℕ). AppendsCube store n (result_shape r.plan) before after) (sym base)
    (subst (λ (plan : PlanOf). AppendsCube store c.self.inside.part.base (result_shape plan) before after) (sym same) h)))
    c.render.ensures.rendered.text

pub returns-clause-prefix : goal.returns-clause-prefix
returns-clause-prefix g c =
    let r = c.args.self.now in
    let same : r.plan ≡ c.self.inside.part.plan = ap (λ (r : RunOf). r.plan) (sym c.self.view_is) in
    let base : r.base ≡ c.self.inside.part.base = ap (λ (r : RunOf). r.base) (sym c.self.view_is) in
    let is : IsPlan r.plan = subst IsPlan (c.plan.ensures ∙ sym same) c.workers-workers.ensures.valid in
    let store = g.P.Store.bytes c.args.spool.now in
    let before = g.O.Sink.written c.args.out.now in
    let after = g.O.Sink.written c.render.new.out in
    on_err (AppendsCubePrefix store c.self.inside.part.base (result_shape c.self.inside.part.plan) before after)
    (OfRun r store (λ cube. AppendsPrefix before (cube_text cube) after)) c.render.result
    (λ h collections has done. prefix_is r.plan is r refl c.requires.complete (result_cube collections r.plan)
    (result_shape_is r.plan is collections has) (result_whole r.plan is collections has) store before after done
    (subst (λ (n : ℕ). AppendsCubePrefix store n (result_shape r.plan) before after) (sym base)
    (subst (λ (plan : PlanOf). AppendsCubePrefix store c.self.inside.part.base (result_shape plan) before after) (sym same) h)))
    c.render.ensures.rendered.prefix

pub returns-clause-cells : goal.returns-clause-cells
returns-clause-cells g c =
    let same : c.self.inside.part.plan ≡ c.args.self.now.plan = ap (λ (r : RunOf). r.plan) c.self.view_is in
    let base : c.self.inside.part.base ≡ c.args.self.now.base = ap (λ (r : RunOf). r.base) c.self.view_is in
    let store = g.P.Store.bytes c.args.spool.now in
    let before = g.O.Sink.written c.args.out.now in
    let after = g.O.Sink.written c.render.new.out in
    subst (λ (n : ℕ). OnOk c.render.result (AppendsCube store n (result_shape c.args.self.now.plan) before after)) base
    (subst (λ (p : PlanOf). OnOk c.render.result (AppendsCube store c.self.inside.part.base (result_shape p) before after)) same
    c.render.ensures.rendered.text)

pub returns-clause-cells_prefix : goal.returns-clause-cells_prefix
returns-clause-cells_prefix g c =
    let same : c.self.inside.part.plan ≡ c.args.self.now.plan = ap (λ (r : RunOf). r.plan) c.self.view_is in
    let base : c.self.inside.part.base ≡ c.args.self.now.base = ap (λ (r : RunOf). r.base) c.self.view_is in
    let store = g.P.Store.bytes c.args.spool.now in
    let before = g.O.Sink.written c.args.out.now in
    let after = g.O.Sink.written c.render.new.out in
    subst (λ (n : ℕ). OnErr c.render.result (AppendsCubePrefix store n (result_shape c.args.self.now.plan) before after)) base
    (subst (λ (p : PlanOf). OnErr c.render.result (AppendsCubePrefix store c.self.inside.part.base (result_shape p) before after)) same
    c.render.ensures.rendered.prefix)

pub returns-clause-counted : goal.returns-clause-counted
returns-clause-counted g c =
    let r = c.args.self.now in
    let same : r.plan ≡ c.self.inside.part.plan = ap (λ (r : RunOf). r.plan) (sym c.self.view_is) in
    let base : r.base ≡ c.self.inside.part.base = ap (λ (r : RunOf). r.base) (sym c.self.view_is) in
    let is : IsPlan r.plan = subst IsPlan (c.plan.ensures ∙ sym same) c.workers-workers.ensures.valid in
    let store = g.P.Store.bytes c.args.spool.now in
    let before = g.O.Sink.size c.args.out.now in
    let after = g.O.Sink.size c.render.new.out in
    on_ok (CountsCube store c.self.inside.part.base (result_shape c.self.inside.part.plan) before after)
    (OfRun r store (λ cube. AddsBytes before (length (cube_text cube)) after)) c.render.result
    (λ h collections has done. count_is r.plan is r refl c.requires.complete (result_cube collections r.plan)
    (result_shape_is r.plan is collections has) (result_whole r.plan is collections has) store before after done
    (subst (λ (n : ℕ). CountsCube store n (result_shape r.plan) before after) (sym base)
    (subst (λ (plan : PlanOf). CountsCube store c.self.inside.part.base (result_shape plan) before after) (sym same) h)))
    c.render.ensures.rendered.counted

pub returns-clause-counted_prefix : goal.returns-clause-counted_prefix
returns-clause-counted_prefix g c =
    let r = c.args.self.now in
    let same : r.plan ≡ c.self.inside.part.plan = ap (λ (r : RunOf). r.plan) (sym c.self.view_is) in
    let base : r.base ≡ c.self.inside.part.base = ap (λ (r : RunOf). r.base) (sym c.self.view_is) in
    let is : IsPlan r.plan = subst IsPlan (c.plan.ensures ∙ sym same) c.workers-workers.ensures.valid in
    let store = g.P.Store.bytes c.args.spool.now in
    let before = g.O.Sink.size c.args.out.now in
    let after = g.O.Sink.size c.render.new.out in
    on_err (CountsCubePrefix store c.self.inside.part.base (result_shape c.self.inside.part.plan) before after)
    (OfRun r store (λ cube. AddsSome before (length (cube_text cube)) after)) c.render.result
    (λ h collections has done. part_count_is r.plan is r refl c.requires.complete (result_cube collections r.plan)
    (result_shape_is r.plan is collections has) (result_whole r.plan is collections has) store before after done
    (subst (λ (n : ℕ). CountsCubePrefix store n (result_shape r.plan) before after) (sym base)
    (subst (λ (plan : PlanOf). CountsCubePrefix store c.self.inside.part.base (result_shape plan) before after) (sym same) h)))
    c.render.ensures.rendered.counted_prefix

pub returns-clause-damage : goal.returns-clause-damage
returns-clause-damage g c =
    let same : c.self.inside.part.plan ≡ c.args.self.now.plan = ap (λ (r : RunOf). r.plan) c.self.view_is in
    subst (λ (p : PlanOf). IfErr c.render.result (IsRefusalWithin (g.P.Store.bytes c.args.spool.now) 0 (cell_count (result_shape p)))) same
    c.render.ensures.damage

pub invariant_of-self : goal.invariant_of-self
invariant_of-self g c = subst IsWhole (sym c.render.ensures.run) c.self.invariant
