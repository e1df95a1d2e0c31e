use Rattle.std.proofs.Common.{arith}
use Rattle.std.proofs.lemmas.Grind.{common_steps}
use Rattle.oe_replies.proofs.results.asset_map.Goals as goal

pub loop-asset-preserved : goal.loop-asset-preserved
loop-asset-preserved c = grind (arith, common_steps) steps 2000000

pub returns : goal.returns
returns c = grind (arith, common_steps) steps 2000000
