use Rattle.std.proofs.Common.{arith}
use Rattle.std.proofs.lemmas.Grind.{common_steps}
use Rattle.oe_http.proofs.Taken.{takes_none}
use Rattle.oe_http.proofs.body.read_body.Goals as goal

pub returns-in_err-extend_from_slice-clause-taken : goal.returns-in_err-extend_from_slice-clause-taken
returns-in_err-extend_from_slice-clause-taken g c = takes_none _ _

pub returns-clause-read : goal.returns-clause-read
returns-clause-read g c = grind (arith, common_steps) steps 2000000
