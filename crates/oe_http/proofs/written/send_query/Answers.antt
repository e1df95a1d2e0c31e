use Rattle.std.proofs.Common.{arith}
use Rattle.std.proofs.lemmas.Grind.{elements}
use Rattle.oe_http.proofs.written.send_query.Goals as goal

pub returns-clause-sent : goal.returns-clause-sent
returns-clause-sent c = grind (arith, elements) steps 2000000
