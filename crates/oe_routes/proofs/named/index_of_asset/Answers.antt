use Rattle.std.proofs.Common.{sym, ap, ◌∙◌, arith}
use Rattle.std.proofs.lemmas.List.{get_or_read}
use Rattle.oe_routes.specs.Answers.{has_asset_name}
use Rattle.oe_routes.proofs.NamedLemmas.{asset_at}
use Rattle.oe_routes.proofs.named.index_of_asset.Goals as goal

pub returns-then-has_asset_name : goal.returns-then-has_asset_name
returns-then-has_asset_name c =
    let found = c.index-assets-index.result in
    let here = get_or_read c.args.assets.now c.loop-index.index found (omega arith) c.index-assets-index.is found in
    asset_at c.args.name.now c.args.assets.now c.loop-index.index found c.loop-index.invariant (omega arith)
    (ap (has_asset_name c.args.name.now) (sym here) ∙ sym c.has_asset_name.ensures ∙ c.if-has_asset_name.true)
