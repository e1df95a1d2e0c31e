use Rattle.std.proofs.Common.{◌≡◌, arith, length, rules, subst}
use Rattle.oe_database.specs.Loads.{IsAssetRow}
use Rattle.oe_database.proofs.Lists.{each_next}
use Rattle.oe_database.proofs.rows.assets_in.Goals as goal

pub loop-row-preserved : goal.loop-row-preserved
loop-row-preserved c =
    let x = c.row-item.result in
    let a = c.in_ok-asset.asset in
    let list = c.loop-row.assets.items in
    let long : c.len.result ≡ length list = search rules in
    each_next IsAssetRow c.args.rows.now c.loop-row.row-index x list c.push.new.self.items a
    (omega (arith, c.loop-row-test.true)) c.row-item.is c.loop-row.invariant c.in_ok-push.ensures.items
    (subst (λ n. IsAssetRow n x a) long c.in_ok-asset.ensures)
