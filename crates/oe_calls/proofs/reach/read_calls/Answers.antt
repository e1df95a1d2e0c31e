use Rattle.std.proofs.Common.{◌≡◌, ◌+◌, ◌++◌, ◌∷◌, [], ◌∙◌, ◌<◌, ◌≤◌, List, Bool, true, false, length, map, sym, ap, subst, arith}
use Rattle.std.proofs.lemmas.List.{length-map}
use Rattle.oe_graph.specs.Plain.{plain_stored}
use Rattle.oe_order.specs.Graph as order
use Rattle.oe_order.specs.Graph.{graph_of}
use Rattle.oe_order.proofs.Graphs.{graph_of-push}
use Rattle.oe_calls.proofs.ReadLemmas.{IsRead, read_more, read_all, stored_at}
use Rattle.oe_calls.proofs.reach.read_calls.Goals as goal

pub loop-process-preserved : goal.loop-process-preserved
loop-process-preserved c =
    let stored = map plain_stored c.args.stored.now in
    let i = c.loop-process.process-index in
    let links = c.loop-process.links.items in
    let marks = c.loop-process.supported.items in
    let first = c.in_ok-links_of.field-0 in
    let second = c.in_ok-links_of-2.field-0 in
    let x : order.Node = record { load = first.load; arguments = first.arguments.items } in
    let y : order.Node = record { load = second.load; arguments = second.arguments.items } in
    let p = c.is_graph_supported.result in
    let q = c.is_graph_supported-in-loop-process.result in
    let more = read_more stored i (graph_of links) marks c.loop-process.invariant (plain_stored c.process-item.result)
    (stored_at c.args.stored.now i c.process-item.result c.loop-process-test.true c.process-item.is) x y p q
    c.in_ok-links_of.ensures c.in_ok-links_of-2.ensures c.is_graph_supported.ensures c.is_graph_supported-in-loop-process.ensures in
    let linked : graph_of c.push-in-loop-process.new.self.items ≡ (graph_of links ++ x ∷ []) ++ y ∷ [] =
    ap graph_of c.in_ok-push-2.ensures.items ∙ graph_of-push c.push.new.self.items second
    ∙ ap (λ (g : List order.Node). g ++ y ∷ []) (ap graph_of c.in_ok-push.ensures.items ∙ graph_of-push links first) in
    let marked : c.push-in-loop-process-3.new.self.items ≡ (marks ++ p ∷ []) ++ q ∷ [] =
    c.in_ok-push-4.ensures.items ∙ ap (λ (bs : List Bool). bs ++ q ∷ []) c.in_ok-push-3.ensures.items in
    subst (λ (g : List order.Node). IsRead stored (i + 1) g c.push-in-loop-process-3.new.self.items) (sym linked)
    (subst (λ (bs : List Bool). IsRead stored (i + 1) ((graph_of links ++ x ∷ []) ++ y ∷ []) bs) (sym marked) more)

pub returns : goal.returns
returns c =
    read_all (map plain_stored c.args.stored.now) c.loop-process.process-index (graph_of c.loop-process.links.items)
    c.loop-process.supported.items c.loop-process.invariant
    (omega (arith, c.loop-process-test.false, c.loop-process.auto.process-index-end, length-map c.args.stored.now plain_stored))
