use Rattle.std.proofs.Common.{◌≡◌, ◌<◌, ◌∙◌, ℕ, List, length, sym, ap, subst}
use Rattle.std.specs.Prelude.{slice_index}
use Rattle.std.proofs.lemmas.Option.{same_Some}
use Rattle.oe_plan.specs.Figures.{steps_of}
use Rattle.oe_plan.specs.Schedules.{ScheduleOf}
use Rattle.oe_slab.proofs.evaluate.step_in_whole.Goals as goal

pub returns-clause-only : goal.returns-clause-only
returns-clause-only c = λ i below is.
    let graph = c.args.plan.now.graph in
    let steps : c.whole.result.now.order.steps ≡ steps_of graph =
    ap (λ (s : ScheduleOf). s.order.steps) c.whole.ensures.value ∙ c.whole.ensures.valid.schedules.whole_steps in
    sym (same_Some c.in-Some.step i
    (c.in-Some.ensures.only i (subst (λ (xs : List ℕ). i < length xs) (sym steps) below) (ap (λ (xs : List ℕ). slice_index xs i) steps ∙ is)))
