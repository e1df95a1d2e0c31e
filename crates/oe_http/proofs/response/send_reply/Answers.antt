use Rattle.oe_outside.proofs.Streams.{has_sent_then, has_stopped, has_stopped_more}
use Rattle.oe_http.proofs.response.send_reply.Goals as goal

pub returns-in_err-send_head-clause-sent : goal.returns-in_err-send_head-clause-sent
returns-in_err-send_head-clause-sent g c =
    let is = c.from_residual.ensures.0 in
    has_stopped_more (c.args.body.now) is (has_stopped is c.in_err-send_head.ensures.sent)

pub returns-clause-sent : goal.returns-clause-sent
returns-clause-sent g c = has_sent_then c.in_ok-send_head.ensures.sent c.send.ensures.sent
