use Rattle.std.proofs.Common.{◌≡◌, ◌<◌, ◌∙◌, sym, ap, length, map, slice_get, arith}
use Rattle.std.proofs.lemmas.List.{length-map}
use Rattle.oe_graph.specs.Plain.{plain_node, plain_stored}
use Rattle.oe_graph.specs.Tree.{PlainNode}
use Rattle.oe_graph.proofs.PartLemmas.{node_parts}
use Rattle.oe_calls.specs.Calls.{callee}
use Rattle.oe_calls.proofs.ReachLemmas.{behind_one}
use Rattle.oe_calls.proofs.reach.add_call.Goals as goal

pub returns-in_ok-push : goal.returns-in_ok-push
returns-in_ok-push c =
    let stored = map plain_stored c.args.stored.now in
    behind_one stored (c.args.in_callback, plain_node c.args.node.now) c.in-Some.index c.index_at.result
    c.args.found.now.items c.push.new.self.items
    (omega (arith, c.in-Some.ensures.within, length-map c.args.stored.now plain_stored))
    (c.in-Some.ensures.is ∙ ap (λ (m : PlainNode). callee stored m.namespace m.process_id) (sym (node_parts c.args.node.now)))
    c.index_at.ensures c.in_ok-push.ensures.items
