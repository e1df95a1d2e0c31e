use Rattle.std.proofs.Common.{arith}
use Rattle.std.proofs.lemmas.Grind.{common_steps}
use Rattle.oe_jobs.proofs.change.Change.copy.Goals as goal

pub returns-in_err-copy-in-AddAsset : goal.returns-in_err-copy-in-AddAsset
returns-in_err-copy-in-AddAsset c = grind (arith, common_steps) steps 2000000

pub returns-in_err-copy-in-AddAsset-2 : goal.returns-in_err-copy-in-AddAsset-2
returns-in_err-copy-in-AddAsset-2 c = grind (arith, common_steps) steps 2000000

pub returns-in_err-copy-in-DropJob : goal.returns-in_err-copy-in-DropJob
returns-in_err-copy-in-DropJob c = grind (arith, common_steps) steps 2000000

pub returns-in_err-copy-in-DropProcess : goal.returns-in_err-copy-in-DropProcess
returns-in_err-copy-in-DropProcess c = grind (arith, common_steps) steps 2000000

pub returns-in_err-copy-in-DropProcess-2 : goal.returns-in_err-copy-in-DropProcess-2
returns-in_err-copy-in-DropProcess-2 c = grind (arith, common_steps) steps 2000000

pub returns-in_err-copy-in-PutJob : goal.returns-in_err-copy-in-PutJob
returns-in_err-copy-in-PutJob c = grind (arith, common_steps) steps 2000000

pub returns-in_err-copy-in-PutProcess : goal.returns-in_err-copy-in-PutProcess
returns-in_err-copy-in-PutProcess c = grind (arith, common_steps) steps 2000000

pub returns-in_err-copy_log-in-AddAsset : goal.returns-in_err-copy_log-in-AddAsset
returns-in_err-copy_log-in-AddAsset c = grind (arith, common_steps) steps 2000000

pub returns-in_ok-copy-in-DropJob : goal.returns-in_ok-copy-in-DropJob
returns-in_ok-copy-in-DropJob c = grind (arith, common_steps) steps 2000000

pub returns-in_ok-copy-in-DropProcess-2 : goal.returns-in_ok-copy-in-DropProcess-2
returns-in_ok-copy-in-DropProcess-2 c = grind (arith, common_steps) steps 2000000

pub returns-in_ok-copy-in-PutJob : goal.returns-in_ok-copy-in-PutJob
returns-in_ok-copy-in-PutJob c = grind (arith, common_steps) steps 2000000

pub returns-in_ok-copy-in-PutProcess : goal.returns-in_ok-copy-in-PutProcess
returns-in_ok-copy-in-PutProcess c = grind (arith, common_steps) steps 2000000

pub returns-in_ok-copy_log-in-AddAsset : goal.returns-in_ok-copy_log-in-AddAsset
returns-in_ok-copy_log-in-AddAsset c = grind (arith, common_steps) steps 2000000
