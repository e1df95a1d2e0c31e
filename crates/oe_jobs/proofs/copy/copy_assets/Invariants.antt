use Rattle.std.proofs.Common.{◌≡◌, take}
use Rattle.oe_jobs.proofs.copy.copy_assets.Given as goal

abbrev pub invariant-loop-asset : goal.invariant-loop-asset
invariant-loop-asset l = l.copy.items ≡ take l.asset-index l.asset-items
