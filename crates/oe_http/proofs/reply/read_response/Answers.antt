use Rattle.oe_http.proofs.Again.{reply_again_read, reply_again_refused}
use Rattle.oe_http.proofs.StepLemmas.{then-HasCauseOf, handed_on}
use Rattle.oe_http.proofs.ReplyStepLemmas.{response_of_head, reply_refusal_of_head}
use Rattle.std.proofs.Common.{◌+◌, arith}
use Rattle.oe_http.specs.Front.{most_head}
use Rattle.oe_http.specs.Responses.{most_response_body}
use Rattle.oe_http.proofs.Taken.{takes_both, takes_fewer, takes_none}
use Rattle.oe_http.proofs.reply.read_response.Goals as goal

pub returns-in-Ok-clause-response : goal.returns-in-Ok-clause-response
returns-in-Ok-clause-response g c = response_of_head c.in-Ok.ensures.read c.read_whole.result c.read_whole.ensures.response

pub returns-in-Ok-clause-refused : goal.returns-in-Ok-clause-refused
returns-in-Ok-clause-refused g c = reply_refusal_of_head c.in-Ok.ensures.read c.read_whole.result c.read_whole.ensures.refused

pub returns-in-Ok-clause-cause : goal.returns-in-Ok-clause-cause
returns-in-Ok-clause-cause g c = then-HasCauseOf c.in-Ok.ensures.cause.count c.read_whole.ensures.cause

pub returns-clause-cause : goal.returns-clause-cause
returns-clause-cause g c = handed_on c.in-Err.ensures.cause

pub returns-in-Ok-clause-again : goal.returns-in-Ok-clause-again
returns-in-Ok-clause-again g c =
    reply_again_read (g.L.Link.left c.args.link.now) c.read_whole.result
    (response_of_head c.in-Ok.ensures.read c.read_whole.result c.read_whole.ensures.response)
    (reply_refusal_of_head c.in-Ok.ensures.read c.read_whole.result c.read_whole.ensures.refused)

pub returns-clause-again : goal.returns-clause-again
returns-clause-again g c = reply_again_refused (g.L.Link.left c.args.link.now) c.in-Err.refusal c.in-Err.ensures.refused

pub returns-in_err-piece-clause-taken : goal.returns-in_err-piece-clause-taken
returns-in_err-piece-clause-taken g c = takes_none _ _

pub returns-in-Ok-clause-taken : goal.returns-in-Ok-clause-taken
returns-in-Ok-clause-taken g c = takes_both _ _ _ most_head most_response_body c.in-Ok.ensures.taken c.read_whole.ensures.taken

pub returns-clause-taken : goal.returns-clause-taken
returns-clause-taken g c = takes_fewer _ _ most_head (most_head + most_response_body) (omega arith) c.in-Err.ensures.taken
