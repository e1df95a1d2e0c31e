use Rattle.std.proofs.Common.{◌≡◌, List, sym, ap, ◌∙◌}
use Rattle.std.specs.List.{insert}
use Rattle.oe_graph.specs.Plain.{plain_nodes}
use Rattle.oe_graph.specs.Printed.{ids_of}
use Rattle.oe_graph.specs.declared.tree.Node.{Node}
use Rattle.oe_calls.specs.Rounds.{index_among}
use Rattle.oe_calls.proofs.InsertLemmas.{put_node-insert}
use Rattle.oe_translate.proofs.order.put_node.Goals as goal

pub returns : goal.returns
returns c =
    let ns : List Node = c.args.found.now.items in
    let n : Node = c.args.node in
    let index : c.index_among-index.result ≡ index_among n.id (ids_of (plain_nodes ns)) =
    c.index_among-index.ensures.is ∙ ap (λ id. index_among id (ids_of (plain_nodes ns))) c.as_str.ensures in
    ap plain_nodes c.in_ok-insert.ensures.items
    ∙ (ap (λ i. plain_nodes (insert ns i n)) index ∙ sym (put_node-insert n ns))
