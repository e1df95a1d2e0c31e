use Rattle.std.proofs.Common.{◌≡◌, ◌<◌, ℕ, length, sym, ◌∙◌, subst, arith}
use Rattle.oe_graph.specs.Printed.{node_count}
use Rattle.oe_order.proofs.Graphs.{length-graph_of}
use Rattle.oe_order.specs.Graph.{graph_of}
use Rattle.oe_order.specs.Turns.{AreTurns}
use Rattle.oe_plan.specs.Turns.{turns_of}
use Rattle.oe_plan.proofs.TakeLemmas.{steps_found, steps_listed}
use Rattle.oe_plan.proofs.bound.order_to.Goals as goal

pub order_by-requires-clause-turns : goal.order_by-requires-clause-turns
order_by-requires-clause-turns c =
    subst (λ (n : ℕ). AreTurns n c.as_slice.result.now) (sym c.links.ensures.count)
    (subst (AreTurns (node_count c.args.checked.now.nodes)) (sym c.as_slice.ensures.value) c.in_ok-turns.ensures.each)

pub returns-clause-steps : goal.returns-clause-steps
returns-clause-steps c =
    let turns : c.as_slice.result.now ≡ turns_of c.args.checked.now = c.as_slice.ensures.value ∙ c.in_ok-turns.ensures.turns in
    steps_listed c.args.checked.now (graph_of c.links.result.now) c.as_slice.result.now c.args.last c.order_by.result c.links.ensures.links turns
    c.order_by.ensures.steps

pub returns-clause-within : goal.returns-clause-within
returns-clause-within c =
    let nodes = graph_of c.links.result.now in
    let counted : length nodes ≡ node_count c.args.checked.now.nodes = length-graph_of c.links.result.now ∙ c.links.ensures.count in
    let within : c.args.last < length nodes = omega (arith, c.requires, counted) in
    let turns : c.as_slice.result.now ≡ turns_of c.args.checked.now = c.as_slice.ensures.value ∙ c.in_ok-turns.ensures.turns in
    steps_found c.args.checked.now nodes c.args.last c.order_by.result c.links.ensures.named counted within
    (steps_listed c.args.checked.now nodes c.as_slice.result.now c.args.last c.order_by.result c.links.ensures.links turns c.order_by.ensures.steps)
    c.order_by.ensures.listing
