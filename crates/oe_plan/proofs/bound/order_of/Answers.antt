use Rattle.std.proofs.Common.{◌≡◌, ℕ, subst}
use Rattle.std.specs.Prelude.{IfOk}
use Rattle.oe_order.specs.Evaluation.{IsEvaluationOrder}
use Rattle.oe_order.specs.Live.{IsSlotted, width_of}
use Rattle.oe_order.specs.Order.{IsListing}
use Rattle.oe_check.specs.Links.{links_of}
use Rattle.oe_plan.specs.Figures.{steps_of}
use Rattle.oe_plan.specs.Ranges.{AreStepsOf}
use Rattle.oe_plan.proofs.bound.order_of.Goals as goal

pub returns-clause-steps : goal.returns-clause-steps
returns-clause-steps c =
    subst (λ (last : ℕ). IfOk c.order_to.result (λ o. o.steps ≡ steps_of (record c.args.checked.now { result = last })))
    c.result.ensures.value c.order_to.ensures.steps

pub returns-clause-within : goal.returns-clause-within
returns-clause-within c =
    subst (λ (last : ℕ). IfOk c.order_to.result (λ o. AreStepsOf (record c.args.checked.now { result = last }) o.steps))
    c.result.ensures.value c.order_to.ensures.within

pub returns-clause-listing : goal.returns-clause-listing
returns-clause-listing c =
    subst (λ (last : ℕ). IfOk c.order_to.result (λ o. IsListing (links_of c.args.checked.now.nodes) last o.steps))
    c.result.ensures.value c.order_to.ensures.listing

pub returns-clause-evaluation : goal.returns-clause-evaluation
returns-clause-evaluation c =
    subst (λ (last : ℕ). IfOk c.order_to.result (λ o. IsEvaluationOrder (links_of c.args.checked.now.nodes) last o.steps))
    c.result.ensures.value c.order_to.ensures.evaluation

pub returns-clause-width : goal.returns-clause-width
returns-clause-width c =
    subst (λ (last : ℕ). IfOk c.order_to.result (λ o. o.width ≡ width_of (links_of c.args.checked.now.nodes) last o.steps))
    c.result.ensures.value c.order_to.ensures.width

pub returns-clause-slots : goal.returns-clause-slots
returns-clause-slots c =
    subst (λ (last : ℕ). IfOk c.order_to.result (λ o. IsSlotted (links_of c.args.checked.now.nodes) last o))
    c.result.ensures.value c.order_to.ensures.slots
