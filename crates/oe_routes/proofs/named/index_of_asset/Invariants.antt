use Rattle.std.proofs.Common.{◌≡◌, drop}
use Rattle.std.specs.Prelude.{find}
use Rattle.oe_routes.specs.Answers.{has_asset_name}
use Rattle.oe_routes.proofs.named.index_of_asset.Given as goal

abbrev pub invariant-loop-index : goal.invariant-loop-index
invariant-loop-index l =
    find (has_asset_name l.name) l.assets ≡ find (has_asset_name l.name) (drop l.index l.assets)
