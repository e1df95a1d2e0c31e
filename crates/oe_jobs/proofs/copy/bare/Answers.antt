use Rattle.std.proofs.Common.{arith}
use Rattle.std.proofs.lemmas.Grind.{common_steps}
use Rattle.oe_jobs.proofs.copy.bare.Goals as goal

pub returns : goal.returns
returns c = grind (arith, common_steps) steps 2000000

pub returns-in_err-copy : goal.returns-in_err-copy
returns-in_err-copy c = grind (arith, common_steps) steps 2000000

pub returns-in_err-copy-2 : goal.returns-in_err-copy-2
returns-in_err-copy-2 c = grind (arith, common_steps) steps 2000000

pub returns-in_err-copy-3 : goal.returns-in_err-copy-3
returns-in_err-copy-3 c = grind (arith, common_steps) steps 2000000

pub returns-in_err-copy_text : goal.returns-in_err-copy_text
returns-in_err-copy_text c = grind (arith, common_steps) steps 2000000

pub returns-in_err-copy_text-2 : goal.returns-in_err-copy_text-2
returns-in_err-copy_text-2 c = grind (arith, common_steps) steps 2000000
