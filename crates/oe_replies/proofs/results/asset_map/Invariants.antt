use Rattle.std.proofs.Common.{◌≡◌, drop}
use Rattle.serde_json.specs.Data.{no_members}
use Rattle.serde_json.specs.View.{members_view}
use Rattle.oe_replies.specs.Jobs.{with_assets}
use Rattle.oe_replies.proofs.results.asset_map.Given as goal

-- with those that are left it has them all
abbrev pub invariant-loop-asset : goal.invariant-loop-asset
invariant-loop-asset l =
    with_assets l.base l.id (drop l.asset-index l.assets) (members_view l.entries.entries)
    ≡ with_assets l.base l.id l.assets no_members
