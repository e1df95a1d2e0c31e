use Rattle.oe_order.specs.Graph.{graph_of}
use Rattle.oe_plan.proofs.WidthLemmas.{live_as_last, live_as_taken, live_by_now}
use Rattle.oe_plan.proofs.widths.is_live.Goals as goal

pub returns-then-at-step : goal.returns-then-at-step
returns-then-at-step c =
    live_by_now (graph_of c.args.links.now) c.args.last c.args.steps.now c.args.step c.args.at c.if-at-step.true

pub returns-then-steps-at : goal.returns-then-steps-at
returns-then-steps-at c =
    live_as_last (graph_of c.args.links.now) c.args.last c.args.steps.now c.args.step c.args.at c.if-at-step.false c.if-steps-at.true

pub returns-else-steps-at : goal.returns-else-steps-at
returns-else-steps-at c =
    live_as_taken (graph_of c.args.links.now) c.args.last c.args.steps.now c.args.step c.args.at c.is_taken_from.result
    c.if-at-step.false c.if-steps-at.false c.is_taken_from.ensures
