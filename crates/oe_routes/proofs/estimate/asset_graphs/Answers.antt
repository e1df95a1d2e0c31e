use Rattle.std.proofs.Common.{arith}
use Rattle.std.proofs.lemmas.Grind.{common_steps}
use Rattle.oe_routes.proofs.estimate.asset_graphs.Goals as goal

pub bounds-ids-index : goal.bounds-ids-index
bounds-ids-index c = grind (arith, common_steps) steps 2000000

pub check_asset-requires-clause-within : goal.check_asset-requires-clause-within
check_asset-requires-clause-within c = grind (arith, common_steps) steps 2000000

pub loop-index-preserved : goal.loop-index-preserved
loop-index-preserved c = grind (arith, common_steps) steps 2000000

pub returns : goal.returns
returns c = grind (arith, common_steps) steps 2000000
