use Rattle.std.specs.List.{AllByRecursion}
use Rattle.oe_jobs.specs.Valid.{IsAsset}
use Rattle.oe_book.proofs.LoopLemmas.{LeftPlain}
use Rattle.oe_book.proofs.job.are_assets.Given as goal

abbrev pub invariant-loop-asset : goal.invariant-loop-asset
invariant-loop-asset l = LeftPlain IsAsset (AllByRecursion IsAsset l.assets) l.assets l.asset-index
