use Rattle.std.proofs.Common.{◌<◌, length, sym, subst}
use Rattle.oe_book.specs.Assets.{asset_ids}
use Rattle.oe_graph.specs.Plain.{plain_graph}
use Rattle.oe_service.proofs.TextLemmas.{asset_read_within}
use Rattle.oe_service.proofs.asset.graph_of_asset.Goals as goal

pub with_result-requires : goal.with_result-requires
with_result-requires c =
    asset_read_within (plain_graph c.in_ok-graph.graph) c.in_ok-nodes.nodes.items c.args.index c.index.result.now
    c.in_ok-nodes.ensures.nodes
    (subst (λ g. c.args.index < length (asset_ids g)) (sym c.in_ok-graph.ensures.graph) c.requires.within)
    c.in_ok-nodes.ensures.ids c.index.ensures
