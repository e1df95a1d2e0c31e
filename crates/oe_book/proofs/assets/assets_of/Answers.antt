use Rattle.std.proofs.Common.{ap, ◌∙◌, map}
use Rattle.std.proofs.lemmas.Result.{IfOk-weaker}
use Rattle.oe_graph.specs.Plain.{plain_graph}
use Rattle.oe_book.specs.Assets.{id_at}
use Rattle.oe_book.proofs.AssetLemmas.{ids_of_nodes}
use Rattle.oe_book.proofs.assets.assets_of.Goals as goal

pub returns-clause-ids : goal.returns-clause-ids
returns-clause-ids c =
    let graph = plain_graph c.args.graph.now in
    IfOk-weaker c.find_assets.result _ _ (λ v is. ap (map (id_at graph.nodes)) is ∙ ids_of_nodes graph) c.find_assets.ensures
