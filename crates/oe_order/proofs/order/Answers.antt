use Rattle.std.proofs.Common.{sym, ◌∙◌, subst}
use Rattle.std.proofs.lemmas.Result.{IfOk-weaker}
use Rattle.oe_order.specs.Evaluation.{LoadsFirst}
use Rattle.oe_order.specs.Graph.{graph_of}
use Rattle.oe_order.proofs.Evaluations.{order_of-loads_first}
use Rattle.oe_order.proofs.order.Goals as goal

pub with_slots-requires-clause-loads_first : goal.with_slots-requires-clause-loads_first
with_slots-requires-clause-loads_first c =
    subst (LoadsFirst (graph_of c.args.nodes.now)) (sym c.in_ok-steps.ensures.steps) (order_of-loads_first (graph_of c.args.nodes.now) c.args.last)

pub returns-clause-steps : goal.returns-clause-steps
returns-clause-steps c =
    IfOk-weaker c.with_slots.result _ _ (λ o is. is ∙ c.in_ok-steps.ensures.steps) c.with_slots.ensures.steps
