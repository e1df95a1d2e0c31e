use Rattle.std.proofs.Common.{codes}
use Rattle.oe_outside.proofs.Streams.{has_sent_then, has_stopped, has_stopped_more}
use Rattle.oe_http.proofs.response.send_last.Goals as goal

pub returns-in_err-send_length-clause-sent : goal.returns-in_err-send_length-clause-sent
returns-in_err-send_length-clause-sent g c =
    let is = c.from_residual.ensures.0 in
    has_stopped_more (codes "Connection: close\r\n\r\n") is (has_stopped is c.in_err-send_length.ensures.sent)

pub returns-clause-sent : goal.returns-clause-sent
returns-clause-sent g c = has_sent_then c.in_ok-send_length.ensures.sent c.send.ensures.sent
