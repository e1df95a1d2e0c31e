use Rattle.std.proofs.Common.{◌≡◌, ap, sym, ◌∙◌}
use Rattle.std.specs.Option.{option_and_then}
use Rattle.oe_graph.specs.Plain.{plain_node}
use Rattle.oe_expr.proofs.NodeLemmas.{contains_node}
use Rattle.oe_graph.proofs.StateLemmas.{within_nodes}
use Rattle.oe_meanings.specs.Graphs.{operation_at}
use Rattle.oe_requests.specs.Operations as operation
use Rattle.oe_requests.specs.PlainRequests.{plain_operation}
use Rattle.oe_translate.specs.Translated.{periods_at}
use Rattle.oe_translate.proofs.OperationLemmas.{an_aggregation, same_operation, the_intervals}
use Rattle.oe_translate.proofs.PartLemmas.{period_operation}
use Rattle.oe_translate.proofs.rewrite.periods_at.Goals as goal

pub operation-requires : goal.operation-requires
operation-requires c = within_nodes c.args.checked.now.nodes c.args.index (plain_node c.args.node.now) c.requires.there

pub unreachable-requires : goal.unreachable-requires
unreachable-requires c =
    let graph = c.args.checked.now in
    let n = plain_node c.args.node.now in
    let is = period_operation graph c.requires.faultless n (contains_node graph.nodes c.args.index n c.requires.there) c.requires.periods in
    let op : plain_operation c.operation.result.now ≡ operation.aggregate (periods_at graph.rows graph.nodes n) is.0 =
    same_operation _ _ (sym c.operation.ensures ∙ (ap (option_and_then (operation_at graph.rows graph.nodes)) c.requires.there ∙ is.1)) in
    an_aggregation c.operation.result.now (periods_at graph.rows graph.nodes n) is.0 op (c.in_default.not-Aggregate)

pub returns : goal.returns
returns c =
    let graph = c.args.checked.now in
    let n = plain_node c.args.node.now in
    let is = period_operation graph c.requires.faultless n (contains_node graph.nodes c.args.index n c.requires.there) c.requires.periods in
    let op : plain_operation c.operation.result.now ≡ operation.aggregate (periods_at graph.rows graph.nodes n) is.0 =
    same_operation _ _ (sym c.operation.ensures ∙ (ap (option_and_then (operation_at graph.rows graph.nodes)) c.requires.there ∙ is.1)) in
    record {
      value = c.as_slice.ensures ∙ the_intervals c.operation.result.now c.in-Aggregate.intervals (periods_at graph.rows graph.nodes n) _ is.0 c.in-Aggregate.is op;
    }
