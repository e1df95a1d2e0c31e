use Rattle.std.proofs.Common.{arith}
use Rattle.std.proofs.lemmas.Grind.{common_steps}
use Rattle.oe_jobs.proofs.verdict.queue_job.Goals as goal

pub returns : goal.returns
returns c = grind (arith, common_steps) steps 2000000

pub returns-in_err-copy : goal.returns-in_err-copy
returns-in_err-copy c = grind (arith, common_steps) steps 2000000

pub returns-in_err-queued : goal.returns-in_err-queued
returns-in_err-queued c = grind (arith, common_steps) steps 2000000

pub returns-in_err-stored_of : goal.returns-in_err-stored_of
returns-in_err-stored_of c = grind (arith, common_steps) steps 2000000
