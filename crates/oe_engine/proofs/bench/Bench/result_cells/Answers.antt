use Rattle.std.proofs.Common.{◌≡◌, ◌∙◌, sym, ap, subst, arith}
use Rattle.std.proofs.lemmas.Grind.{common_steps}
use Rattle.oe_plan.proofs.RunLemmas.{only_step}
use Rattle.oe_engine.specs.Benches.{BenchOf, buffer_cells_at}
use Rattle.oe_steps.specs.Buffers.{lists_of}
use Rattle.oe_engine.proofs.bench.Bench.result_cells.Goals as goal

pub returns-in-Done-clause-done : goal.returns-in-Done-clause-done
returns-in-Done-clause-done c = λ k done step within result.
    let p = c.args.plan.now in
    let inside = c.self.inside in
    let found = c.step_of_result.result in
    let one : found ≡ step =
    only_step p.order.steps c.step_of_result.ensures.valid.listing.once found step c.step_of_result.ensures.within within
    (c.step_of_result.ensures.is ∙ sym result) in
    subst (λ (b : BenchOf). c.front.result.now ≡ buffer_cells_at p b.windows b.buffers step) c.self.view_is
    (c.front.ensures
    ∙ ap (λ w. buffer_cells_at p w (lists_of c.deref-in-Done.result.now) found) c.deref.ensures.value
    ∙ ap (λ bs. buffer_cells_at p inside.windows.items (lists_of bs) found) c.deref-in-Done.ensures.value
    ∙ ap (buffer_cells_at p inside.windows.items (lists_of inside.buffers.items)) one)

pub returns-in-Done-clause-value : goal.returns-in-Done-clause-value
returns-in-Done-clause-value c = grind (arith, common_steps) steps 2000000
