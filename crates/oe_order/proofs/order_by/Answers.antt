use Rattle.std.proofs.Common.{◌∙◌}
use Rattle.std.proofs.lemmas.Result.{IfOk-weaker}
use Rattle.oe_order.proofs.order_by.Goals as goal

pub returns-clause-steps : goal.returns-clause-steps
returns-clause-steps c =
    IfOk-weaker c.with_slots.result _ _ (λ o is. is ∙ c.in_ok-steps.ensures.steps) c.with_slots.ensures.steps
