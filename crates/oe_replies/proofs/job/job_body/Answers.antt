use Rattle.std.proofs.Common.{arith}
use Rattle.std.proofs.lemmas.Grind.{common_steps, elements}
use Rattle.oe_replies.proofs.job.job_body.Goals as goal

pub returns : goal.returns
returns c = grind (arith, elements) steps 2000000

pub returns-in_err-text : goal.returns-in_err-text
returns-in_err-text c = grind (arith, common_steps) steps 2000000

pub returns-in_err-value : goal.returns-in_err-value
returns-in_err-value c = grind (arith, common_steps) steps 2000000
