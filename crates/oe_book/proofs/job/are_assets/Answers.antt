use Rattle.std.proofs.Common.{◌∙◌, sym, true≢false}
use Rattle.oe_jobs.specs.Valid.{IsAsset}
use Rattle.oe_book.proofs.LoopLemmas.{plain_ends, plain_next, plain_stops}
use Rattle.oe_book.proofs.job.are_assets.Goals as goal

pub loop-asset-preserved : goal.loop-asset-preserved
loop-asset-preserved c =
    plain_next IsAsset _ c.args.assets.now c.loop-asset.asset-index c.asset-item.result
    c.loop-asset.invariant c.loop-asset-test.true c.asset-item.is (c.is_asset.ensures.0 c.if-not-is_asset.false)

pub returns-then-not-is_asset : goal.returns-then-not-is_asset
returns-then-not-is_asset c =
    plain_stops IsAsset _ c.args.assets.now c.loop-asset.asset-index c.asset-item.result
    c.loop-asset.invariant c.loop-asset-test.true c.asset-item.is
    (λ p. true≢false (sym (c.is_asset.ensures.1 p) ∙ c.if-not-is_asset.true))

pub returns : goal.returns
returns c =
    plain_ends IsAsset _ c.args.assets.now c.loop-asset.asset-index c.loop-asset.invariant c.loop-asset-test.false
