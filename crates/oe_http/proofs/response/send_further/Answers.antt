use Rattle.oe_http.specs.Replies.{end_lines}
use Rattle.oe_outside.proofs.Streams.{has_sent_then, has_stopped, has_stopped_more}
use Rattle.oe_http.proofs.response.send_further.Goals as goal

pub returns-in_err-send_names-clause-sent : goal.returns-in_err-send_names-clause-sent
returns-in_err-send_names-clause-sent g c =
    let is = c.from_residual.ensures.0 in
    has_stopped_more (end_lines c.args.status c.args.length) is (has_stopped is c.in_err-send_names.ensures.sent)

pub returns-clause-sent : goal.returns-clause-sent
returns-clause-sent g c = has_sent_then c.in_ok-send_names.ensures.sent c.send_last.ensures.sent
