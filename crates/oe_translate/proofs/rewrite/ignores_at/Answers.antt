use Rattle.std.proofs.Common.{◌≡◌, ap, sym, ◌∙◌}
use Rattle.std.specs.Option.{option_and_then}
use Rattle.oe_graph.specs.Plain.{plain_node}
use Rattle.oe_expr.proofs.NodeLemmas.{contains_node}
use Rattle.oe_graph.proofs.StateLemmas.{within_nodes}
use Rattle.oe_meanings.specs.Graphs.{operation_at}
use Rattle.oe_requests.specs.Operations as operation
use Rattle.oe_requests.specs.PlainRequests.{plain_operation}
use Rattle.oe_translate.specs.Translated.{ignores_at}
use Rattle.oe_translate.proofs.OperationLemmas.{running_sums, same_operation, the_flag}
use Rattle.oe_translate.proofs.PartLemmas.{sum_operation}
use Rattle.oe_translate.proofs.rewrite.ignores_at.Goals as goal

pub operation-requires : goal.operation-requires
operation-requires c = within_nodes c.args.checked.now.nodes c.args.index (plain_node c.args.node.now) c.requires.there

pub unreachable-requires : goal.unreachable-requires
unreachable-requires c =
    let graph = c.args.checked.now in
    let n = plain_node c.args.node.now in
    let is = sum_operation graph c.requires.faultless n (contains_node graph.nodes c.args.index n c.requires.there) c.requires.sums in
    let op : plain_operation c.operation.result.now ≡ operation.accumulate (ignores_at n) =
    same_operation _ _ (sym c.operation.ensures ∙ (ap (option_and_then (operation_at graph.rows graph.nodes)) c.requires.there ∙ is)) in
    running_sums c.operation.result.now (ignores_at n) op (c.in_default.not-Accumulate)

pub returns : goal.returns
returns c =
    let graph = c.args.checked.now in
    let n = plain_node c.args.node.now in
    let is = sum_operation graph c.requires.faultless n (contains_node graph.nodes c.args.index n c.requires.there) c.requires.sums in
    let op : plain_operation c.operation.result.now ≡ operation.accumulate (ignores_at n) =
    same_operation _ _ (sym c.operation.ensures ∙ (ap (option_and_then (operation_at graph.rows graph.nodes)) c.requires.there ∙ is)) in
    the_flag c.operation.result.now c.in-Accumulate.ignore (ignores_at n) c.in-Accumulate.is op
