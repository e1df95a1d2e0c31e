use Rattle.std.proofs.Common.{◌≡◌, ◌<◌, List, IfOk, length, sym, ap, ◌∙◌, subst, arith}
use Rattle.oe_order.proofs.Graphs.{length-graph_of}
use Rattle.oe_order.specs.Graph.{IsAcyclic, Node, RefersWithin, graph_of}
use Rattle.oe_order.specs.declared.Links.{Links}
use Rattle.oe_plan.specs.Schedules.{as_load}
use Rattle.oe_slab.specs.Schedules.{IsOrderAlong}
use Rattle.oe_slab.proofs.PartLemmas.{refers_within, steps_within, still_acyclic}
use Rattle.oe_slab.proofs.ScheduleLemmas.{orders_along}
use Rattle.oe_slab.proofs.parts.order_behind.Goals as goal

pub order-requires-clause-named : goal.order-requires-clause-named
order-requires-clause-named c =
    let same : graph_of c.as_slice.result.now ≡ as_load (graph_of c.args.links.now) c.args.node =
    ap graph_of c.as_slice.ensures.value ∙ c.in_ok-behind.ensures.graph in
    subst RefersWithin (sym same) (refers_within (graph_of c.args.links.now) c.args.node c.requires.named)

pub order-requires-clause-acyclic : goal.order-requires-clause-acyclic
order-requires-clause-acyclic c =
    let same : graph_of c.as_slice.result.now ≡ as_load (graph_of c.args.links.now) c.args.node =
    ap graph_of c.as_slice.ensures.value ∙ c.in_ok-behind.ensures.graph in
    subst IsAcyclic (sym same) (still_acyclic (graph_of c.args.links.now) c.args.node c.requires.acyclic)

pub returns-clause-along : goal.returns-clause-along
returns-clause-along c =
    let nodes = graph_of c.as_slice.result.now in
    let same : nodes ≡ as_load (graph_of c.args.links.now) c.args.node =
    ap graph_of c.as_slice.ensures.value ∙ c.in_ok-behind.ensures.graph in
    subst (λ (ns : List Node). IfOk c.order.result (IsOrderAlong ns c.args.last)) same
    (orders_along nodes c.args.last c.order.result c.order.ensures.listing c.order.ensures.evaluation c.order.ensures.slots)

pub returns-clause-within : goal.returns-clause-within
returns-clause-within c =
    let nodes = graph_of c.as_slice.result.now in
    let same : nodes ≡ as_load (graph_of c.args.links.now) c.args.node =
    ap graph_of c.as_slice.ensures.value ∙ c.in_ok-behind.ensures.graph in
    let counted : length nodes ≡ length c.args.links.now =
    length-graph_of c.as_slice.result.now ∙ (ap (λ (xs : List Links). length xs) c.as_slice.ensures.value ∙ c.in_ok-behind.ensures.count) in
    let named : RefersWithin nodes = subst RefersWithin (sym same) (refers_within (graph_of c.args.links.now) c.args.node c.requires.named) in
    let last : c.args.last < length nodes = omega (arith, c.requires.last_named, counted) in
    steps_within nodes c.args.last (length c.args.links.now) c.order.result named last counted c.order.ensures.listing
