use Rattle.std.proofs.Common.{◌≡◌, ◌++◌, drop}
use Rattle.oe_graph.specs.Plain.{plain_graph, plain_nodes}
use Rattle.oe_book.specs.Assets.{asset_ids_from}
use Rattle.oe_book.proofs.assets.copy_ids.Given as goal

abbrev pub invariant-loop-node : goal.invariant-loop-node
invariant-loop-node l =
    asset_ids_from (plain_graph l.graph).result 0 (plain_nodes l.node-items)
    ≡ l.ids.items ++ asset_ids_from (plain_graph l.graph).result l.index (plain_nodes (drop l.node-index l.node-items))
