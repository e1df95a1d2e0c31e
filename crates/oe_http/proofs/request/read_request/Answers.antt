use Rattle.oe_http.proofs.Again.{again_read, again_refused}
use Rattle.oe_http.proofs.StepLemmas.{request_of_head, refusal_of_head, then-HasCauseOf, handed_on}
use Rattle.std.proofs.Common.{◌+◌, arith}
use Rattle.oe_http.specs.Front.{most_head}
use Rattle.oe_http.specs.Requests.{most_body}
use Rattle.oe_http.proofs.Taken.{takes_both, takes_fewer, takes_none}
use Rattle.oe_http.proofs.request.read_request.Goals as goal

pub returns-in-Ok-clause-request : goal.returns-in-Ok-clause-request
returns-in-Ok-clause-request g c = request_of_head c.in-Ok.ensures.read c.read_whole.result c.read_whole.ensures.request

pub returns-in-Ok-clause-refused : goal.returns-in-Ok-clause-refused
returns-in-Ok-clause-refused g c = refusal_of_head c.in-Ok.ensures.read c.read_whole.result c.read_whole.ensures.refused

pub returns-in-Ok-clause-cause : goal.returns-in-Ok-clause-cause
returns-in-Ok-clause-cause g c = then-HasCauseOf c.in-Ok.ensures.cause.count c.read_whole.ensures.cause

pub returns-clause-cause : goal.returns-clause-cause
returns-clause-cause g c = handed_on c.in-Err.ensures.cause

pub returns-in-Ok-clause-again : goal.returns-in-Ok-clause-again
returns-in-Ok-clause-again g c =
    again_read (g.L.Link.left c.args.link.now) c.read_whole.result
    (request_of_head c.in-Ok.ensures.read c.read_whole.result c.read_whole.ensures.request)
    (refusal_of_head c.in-Ok.ensures.read c.read_whole.result c.read_whole.ensures.refused)

pub returns-clause-again : goal.returns-clause-again
returns-clause-again g c = again_refused (g.L.Link.left c.args.link.now) c.in-Err.refusal c.in-Err.ensures.refused

pub returns-in_err-piece-clause-taken : goal.returns-in_err-piece-clause-taken
returns-in_err-piece-clause-taken g c = takes_none _ _

pub returns-in-Ok-clause-taken : goal.returns-in-Ok-clause-taken
returns-in-Ok-clause-taken g c = takes_both _ _ _ most_head most_body c.in-Ok.ensures.taken c.read_whole.ensures.taken

pub returns-clause-taken : goal.returns-clause-taken
returns-clause-taken g c = takes_fewer _ _ most_head (most_head + most_body) (omega arith) c.in-Err.ensures.taken
