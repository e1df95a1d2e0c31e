use Rattle.std.proofs.Common.{arith}
use Rattle.std.proofs.lemmas.Grind.{common_steps}
use Rattle.oe_jobs.proofs.verdict.verdict_on.Goals as goal

pub returns-in-Create : goal.returns-in-Create
returns-in-Create c = grind (arith, common_steps) steps 2000000

pub returns-in-Forget : goal.returns-in-Forget
returns-in-Forget c = grind (arith, common_steps) steps 2000000

pub returns-in-None : goal.returns-in-None
returns-in-None c = grind (arith, common_steps) steps 2000000

pub returns-in-None-job_of : goal.returns-in-None-job_of
returns-in-None-job_of c = grind (arith, common_steps) steps 2000000

pub returns-in-None-job_of-2 : goal.returns-in-None-job_of-2
returns-in-None-job_of-2 c = grind (arith, common_steps) steps 2000000

pub returns-in-None-job_of-3 : goal.returns-in-None-job_of-3
returns-in-None-job_of-3 c = grind (arith, common_steps) steps 2000000

pub returns-in-Store : goal.returns-in-Store
returns-in-Store c = grind (arith, common_steps) steps 2000000

pub returns-in_err-copy-in-Some-job_of : goal.returns-in_err-copy-in-Some-job_of
returns-in_err-copy-in-Some-job_of c = grind (arith, common_steps) steps 2000000

pub returns-in_ok-copy-in-Some-job_of : goal.returns-in_ok-copy-in-Some-job_of
returns-in_ok-copy-in-Some-job_of c = grind (arith, common_steps) steps 2000000
